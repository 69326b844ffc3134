use Rattle.std.proofs.Common.{◌∙◌, sym, subst}
use Rattle.std.proofs.lemmas.Bool.{false≢true}
use Rattle.acl_packet.specs.declared.addresses.Family.TheVariants.{V4, V6}
use Rattle.acl_dead.specs.GridSteps.{FindsIn}
use Rattle.acl_dead.specs.QuestionSteps.{question}
use Rattle.acl_dead.proofs.DecisionLaws.{dead_in_both, first_of_ipv4, first_of_ipv6, not_large}
use Rattle.acl_dead.proofs.decisions.decide_in.Goals as goal

pub returns-in-Some : goal.returns-in-Some
returns-in-Some c =
    let q = question c.args.asked.now in (
      not_large q (λ t. false≢true (sym c.if-is_too_large.false ∙ c.is_too_large.ensures.1 t))
          (λ t. false≢true (sym c.if-is_too_large-2.false ∙ c.is_too_large-else-is_too_large.ensures.1 t)),
      first_of_ipv4 q c.in-Some.packet (subst (λ o. FindsIn V4 q o) c.in-Some.is c.in_ok-packet.ensures),
    )

pub returns-in-Some-2 : goal.returns-in-Some-2
returns-in-Some-2 c =
    let q = question c.args.asked.now in (
      not_large q (λ t. false≢true (sym c.if-is_too_large.false ∙ c.is_too_large.ensures.1 t))
          (λ t. false≢true (sym c.if-is_too_large-2.false ∙ c.is_too_large-else-is_too_large.ensures.1 t)),
      first_of_ipv6 q c.in-Some-2.packet (subst (λ o. FindsIn V4 q o) c.in_default.is c.in_ok-packet.ensures)
          (subst (λ o. FindsIn V6 q o) c.in-Some-2.is c.in_ok-packet-2.ensures),
    )

pub returns : goal.returns
returns c =
    let q = question c.args.asked.now in (
      not_large q (λ t. false≢true (sym c.if-is_too_large.false ∙ c.is_too_large.ensures.1 t))
          (λ t. false≢true (sym c.if-is_too_large-2.false ∙ c.is_too_large-else-is_too_large.ensures.1 t)),
      dead_in_both q (subst (λ o. FindsIn V4 q o) c.in_default.is c.in_ok-packet.ensures)
          (subst (λ o. FindsIn V6 q o) c.in-None.is c.in_ok-packet-2.ensures),
    )
