use Rattle.std.proofs.Common.{Option, subst}
use Rattle.acl_text.specs.Refusals.{Judges}
use Rattle.acl_text.specs.declared.faults.Slip.{Slip}
use Rattle.acl_terms.specs.Slips.{network_slip}
use Rattle.acl_terms.proofs.GatheredLaws.{only-asked}
use Rattle.acl_terms.proofs.addresses.add_words.Goals as goal

pub returns-in-Some-clause-judged : goal.returns-in-Some-clause-judged
returns-in-Some-clause-judged c =
    subst (λ (o : Option Slip). Judges c.add_word.result o)
    (only-asked (network_slip c.args.base.now.networks) c.args.words.now c.in-Some.word c.in-Some.ensures) c.add_word.ensures.judged
