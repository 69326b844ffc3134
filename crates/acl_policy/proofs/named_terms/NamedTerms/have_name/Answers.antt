use Rattle.std.proofs.Common.{ap, sym, ◌∙◌}
use Rattle.std.specs.List.{list_any}
use Rattle.std.specs.Str.{bytes_eq}
use Rattle.acl_policy.specs.RawTerms.{RawTerm}
use Rattle.acl_policy.proofs.NameSlotLaws.{new_by_slot}
use Rattle.acl_policy.proofs.named_terms.NamedTerms.have_name.Goals as goal

pub returns-else-may_have : goal.returns-else-may_have
returns-else-may_have c =
    let t = c.self.inside in
    let name = c.args.name.now in
    c.if-may_have.false ∙ sym (new_by_slot t.seen t.terms name c.self.invariant (sym c.may_have.ensures ∙ c.if-may_have.false))
    ∙ ap (list_any (λ (r : RawTerm). bytes_eq r.name.text name)) c.self.view_is
