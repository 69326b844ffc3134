use Rattle.std.proofs.Common.{◌≡◌, List, ℕ, [], ◌∷◌, ◌++◌, Option, sym, ap, subst, ◌∙◌}
use Rattle.acl_packet.specs.declared.filtering.Outcome.{Outcome}
use Rattle.acl_text.specs.Cuts.{views}
use Rattle.junos_lang.specs.ScanSteps.{HasTaken, TakesTerm}
use Rattle.junos_lang.proofs.TermsTakingLaws.{body_taken, nothing_taken, one_more_taken, one_view_more}
use Rattle.junos_lang.proofs.terms_taking.take_terms.Goals as goal

pub loop-names-init : goal.loop-names-init
loop-names-init c = nothing_taken c.args.family c.args.text.now c.args.packet.now (views c.new-names.result.items) (ap views c.new-names.ensures.items)

pub loop-names-preserved : goal.loop-names-preserved
loop-names-preserved c =
    let f = c.args.family in
    let text = c.args.text.now in
    let p = c.args.packet.now in
    let old = c.loop-names.names.items in
    let rest = c.loop-names.rest.now in
    let u = c.in-Some.taken in
    let takes = subst (TakesTerm f rest) c.in-Some.is c.in_ok-taken.ensures in
    let more = one_more_taken f text p (views old) c.loop-names.decided rest u c.loop-names.invariant takes in
    let names : views c.push.new.self.items ≡ views old ++ u.name.now ∷ [] = ap views c.in_ok-push.ensures.items ∙ one_view_more old u.name in
    let Taken : List (List ℕ) → Option Outcome → Type 0 = λ ns decided. HasTaken f text p ns decided u.rest.now in
    subst (λ ns. Taken ns c.decided_with-decided.result) (sym names)
    (subst (Taken (views old ++ u.name.now ∷ [])) (sym c.decided_with-decided.ensures) more)

pub returns : goal.returns
returns c =
    let f = c.args.family in
    let rest = c.loop-names.rest.now in
    body_taken f c.args.text.now c.args.packet.now (views c.loop-names.names.items) c.loop-names.decided rest c.end_body.result
    c.loop-names.invariant (subst (TakesTerm f rest) c.in_default.is c.in_ok-taken.ensures) c.end_body.ensures
