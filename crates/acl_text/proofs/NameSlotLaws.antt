-- A name that has a slot of its own is not one of those seen.
use Rattle.std.proofs.Common.{◌≡◌, ℕ, Bool, true, false, List, refl, ap, sym, ◌∙◌}
use Rattle.std.specs.Str.{bytes_eq}
use Rattle.std.proofs.lemmas.Bool.{false≢true}
use Rattle.std.proofs.lemmas.Slice.Eq.{bytes_eq-Decides}
use Rattle.acl_text.specs.NameSlots.{has_slot}

pub other_name : (slots : List Bool) (name new : List ℕ) → has_slot slots name ≡ true → has_slot slots new ≡ false → bytes_eq name new ≡ false
other_name slots name new seen free = by_test (bytes_eq name new) refl
  where
    by_test : (t : Bool) → bytes_eq name new ≡ t → bytes_eq name new ≡ false
    by_test true same = absurd (false≢true (sym free ∙ ap (has_slot slots) (sym ((bytes_eq-Decides name new).0 same)) ∙ seen))
    by_test false differ = differ
