-- What is wrong with the input, and how calls tell it.
use Rattle.std.specs.Prelude.{◌≡◌, ℕ, List, [], ◌∷◌, Option, None, Some, Result, Ok, Err, slice_index_or}
use Rattle.std.specs.Option.{option_or}
use Rattle.acl_text.specs.declared.faults.Code.{Code}
use Rattle.acl_text.specs.declared.faults.Fault.{Fault}
use Rattle.acl_text.specs.declared.faults.Place.{Place}
use Rattle.acl_text.specs.declared.faults.Refusal.{Refusal}
use Rattle.acl_text.specs.declared.faults.Refusal.TheVariants as refusals
use Rattle.acl_text.specs.declared.faults.Slip.{Slip}

-- ---- slips and faults

-- What is wrong, where, and the word in error.
abbrev pub slip : Code → Place → List ℕ → Slip
slip code place word = record { code = code; place = place; word = word }

-- What is wrong, the label of the file, its line, and the word in error.
abbrev pub fault : Code → List ℕ → ℕ → List ℕ → Fault
fault code label line word = record { code = code; label = label; line = line; word = word }

-- The fault of a whole file or folder has no line and no word.
abbrev pub file_fault : Code → List ℕ → Fault
file_fault code label = fault code label 0 []

-- The fault of a slip has the label of the file in which it stands, of which the place tells the number.
abbrev pub slip_fault : List (List ℕ) → Slip → Fault
slip_fault labels s = fault s.code (slice_index_or labels s.place.file []) s.place.line s.word

-- ---- the first slip

-- The first answer of several.
abbrev pub first_some : List (Option Slip) → Option Slip
first_some [] = None
first_some (o ∷ os) = option_or o (first_some os)

-- The first of the items whose question has an answer, with that answer.
abbrev pub first_in : {A : Type 0} → (A → Option Slip) → List A → Option Slip
first_in question [] = None
first_in question (x ∷ xs) = option_or (question x) (first_in question xs)

-- ---- what calls tell

-- A refusal that has this slip, or wants memory.
abbrev pub IsRefusalBy : Slip → Refusal → Type 0
IsRefusalBy s (refusals.Slip t) = t ≡ s
IsRefusalBy s refusals.Memory = Unit {0}

-- The call gives a value where there is no slip, and else that slip, or it wants memory.
abbrev pub Judges : {X : Type 0} → Result X Refusal → Option Slip → Type 0
Judges (Ok x) expected = expected ≡ None
Judges (Err (refusals.Slip s)) expected = expected ≡ Some s
Judges (Err refusals.Memory) expected = Unit {0}
