use Rattle.std.proofs.Common.{ap, sym, ◌∙◌}
use Rattle.acl_text.specs.NameSlots.{has_slot}
use Rattle.acl_platform.proofs.NameSlotLaws.{new_by_slot}
use Rattle.acl_platform.proofs.limits.is_name_taken.Goals as goal

pub returns-else-may_have : goal.returns-else-may_have
returns-else-may_have c =
    c.if-may_have.false ∙ sym (new_by_slot c.args.names.now c.args.earlier.now c.args.rule.now c.requires
    (ap (has_slot c.args.names.now) (sym c.as_slice-name.ensures) ∙ sym c.may_have.ensures ∙ c.if-may_have.false))
