-- Names that were seen, by their slots. Only the crate's private clauses cite it.
use Rattle.std.specs.Prelude.{◌≡◌, Bool, true, List}
use Rattle.acl_policy.specs.RawTerms.{RawTerm}
use Rattle.acl_text.specs.NameSlots.{has_slot}

abbrev pub IsSeen : List Bool → RawTerm → Type 0
IsSeen slots term = has_slot slots term.name.text ≡ true
