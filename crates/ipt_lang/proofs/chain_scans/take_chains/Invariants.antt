use Rattle.std.proofs.Common.{◌≡◌, false, List, length}
use Rattle.acl_text.specs.Cuts.{views}
use Rattle.ipt_lang.specs.declared.documents.Chain.{Chain}
use Rattle.ipt_lang.specs.Documents.{IsChain, chain_names}
use Rattle.ipt_lang.specs.Texts.{chain_rows}
use Rattle.ipt_lang.specs.Walks.{chains_walk}
use Rattle.ipt_lang.proofs.FirstRowLaws.{Passed}
use Rattle.ipt_lang.proofs.chain_scans.take_chains.Given as goal

abbrev pub invariant-loop-names : goal.invariant-loop-names
invariant-loop-names l =
    (chains : List Chain) × Passed (IsChain l.fn.target.family) (chain_rows l.fn.target.hook l.fn.target.family) l.fn.text chains l.rest
    × (views l.names.items ≡ chain_names chains) × (l.outcome ≡ chains_walk chains l.fn.packet false)

abbrev pub decreases-loop-names : goal.decreases-loop-names
decreases-loop-names l = length l.rest
