use Rattle.std.proofs.Common.{◌≢◌, [], subst, sym}
use Rattle.acl_text.specs.Refusals.{Judges}
use Rattle.acl_terms.specs.DistinctSteps.{AreSame}
use Rattle.acl_terms.proofs.DistinctLaws.{if-ok, same-ports, same-services, same-some}
use Rattle.acl_terms.proofs.ports.admitted_ports.Goals as goal

pub ports_of_words-requires-2-clause-protos : goal.ports_of_words-requires-2-clause-protos
ports_of_words-requires-2-clause-protos c =
    let some : c.args.words.now ≢ [] = c.is_empty.ensures.some c.if-is_empty.false in
    same-some c.deref.result.now c.args.protos.now
    (subst (λ ns. AreSame ns c.args.protos.now) (sym c.deref.ensures.value) c.in_ok-protos.ensures)
    (c.requires some)

pub returns-clause-judged : goal.returns-clause-judged
returns-clause-judged c =
    subst (λ o. Judges c.ports_of_words-2.result o)
    (same-services c.args.base.now.services c.deref.result.now c.args.protos.now c.args.words.now
    (subst (λ ns. AreSame ns c.args.protos.now) (sym c.deref.ensures.value) c.in_ok-protos.ensures))
    c.ports_of_words-2.ensures.judged

pub returns-clause-set : goal.returns-clause-set
returns-clause-set c =
    let some : c.args.words.now ≢ [] = c.is_empty.ensures.some c.if-is_empty.false in
    if-ok _ _ c.ports_of_words-2.result
    (λ s h. same-ports c.args.base.now c.deref.result.now c.args.protos.now c.args.words.now s
    (subst (λ ns. AreSame ns c.args.protos.now) (sym c.deref.ensures.value) c.in_ok-protos.ensures) some h)
    c.ports_of_words-2.ensures.set
