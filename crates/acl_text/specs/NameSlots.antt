-- A number below 16384 that equal names share.
use Rattle.std.specs.Prelude.{ℕ, ◌+◌, ◌*◌, ◌%◌, Bool, false, List, [], ◌∷◌, slice_index_or}

abbrev pub slot_from : ℕ → List ℕ → ℕ
slot_from s [] = s
slot_from s (b ∷ bytes) = slot_from ((s * 31 + b) % 16384) bytes

abbrev pub slot : List ℕ → ℕ
slot name = slot_from 0 name

-- The slot of the name is taken.
abbrev pub has_slot : List Bool → List ℕ → Bool
has_slot slots name = slice_index_or slots (slot name) false
