use Rattle.std.proofs.Common.{false, [], ◌∷◌, ◌++◌, refl, ap, sym, subst, ◌∙◌}
use Rattle.acl_text.specs.Cuts.{views}
use Rattle.ipt_lang.specs.Documents.{IsChain, chain_names}
use Rattle.ipt_lang.specs.ScanSteps.{TakesChain}
use Rattle.ipt_lang.specs.Texts.{chain_rows}
use Rattle.ipt_lang.specs.Walks.{chains_walk, go_on, rules_walk}
use Rattle.ipt_lang.proofs.ChainScanLaws.{chain_shorter}
use Rattle.ipt_lang.proofs.FirstRowLaws.{one_more}
use Rattle.ipt_lang.proofs.ScanWalkLaws.{chains_more, names_more, views_more}
use Rattle.ipt_lang.proofs.chain_scans.take_chains.Goals as goal

pub loop-names-init : goal.loop-names-init
unfolding chains_walk
loop-names-init c = ([], (tt, refl), ap views c.new-names.ensures.items, c.outcome_so_far-outcome.ensures)

pub loop-names-smaller : goal.loop-names-smaller
loop-names-smaller c =
    let target = c.args.target.now in
    let here = subst (TakesChain target.hook target.family c.loop-names.rest.now c.args.packet.now c.loop-names.outcome) c.in-Some.is c.in_ok-chain.ensures in
    chain_shorter target.hook target.family here.0 c.loop-names.rest.now c.in-Some.chain.rest.now here.1.valid here.1.written

pub loop-names-preserved : goal.loop-names-preserved
loop-names-preserved c =
    let target = c.args.target.now in
    let here = subst (TakesChain target.hook target.family c.loop-names.rest.now c.args.packet.now c.loop-names.outcome) c.in-Some.is c.in_ok-chain.ensures in
    let so_far = c.loop-names.invariant in
    let chain = here.0 in (
      so_far.0 ++ chain ∷ [],
      one_more (IsChain target.family) (chain_rows target.hook target.family) _ so_far.0 chain c.loop-names.rest.now c.in-Some.chain.rest.now so_far.1
          here.1.valid here.1.written,
      ap views c.in_ok-push.ensures.items ∙ views_more c.loop-names.names.items c.in-Some.chain.name
          ∙ ap (λ ns. ns ++ c.in-Some.chain.name.now ∷ []) so_far.2 ∙ ap (λ n. chain_names so_far.0 ++ n ∷ []) here.1.named ∙ sym (names_more so_far.0 chain),
      here.1.walked ∙ ap (λ o. go_on o (λ logged. rules_walk chain.rules c.args.packet.now logged)) so_far.3 ∙ sym (chains_more so_far.0 chain c.args.packet.now false),
    )
