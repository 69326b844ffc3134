-- Names that were seen, by their slots. Only the crate's private clauses cite it.
use Rattle.std.specs.Prelude.{◌≡◌, Bool, true, List}
use Rattle.acl_platform.specs.declared.rules.Rule.{Rule}
use Rattle.acl_text.specs.NameSlots.{has_slot}

abbrev pub IsSeen : List Bool → Rule → Type 0
IsSeen slots r = has_slot slots r.name ≡ true
