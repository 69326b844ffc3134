-- A list of places by steps: what the private parts of src/place_lists.rt hold.
use Rattle.std.specs.Prelude.{◌≡◌, ℕ, zero, suc, ◌+◌, ◌==◌, if◌then◌else◌, List, [], ◌∷◌, length}
use Rattle.acl_text.specs.declared.faults.Place.{Place}
use Rattle.acl_words.specs.declared.place_lists.PlaceStep.{PlaceStep}
use Rattle.acl_words.specs.declared.place_lists.PlaceStep.TheVariants.{Same, Next, Own}

-- The next line of the file. Behind the last number that a line can have, counting starts again at 0.
abbrev pub next_line : Place → Place
next_line p = if p.line == 4294967295 then record p { line = 0 } else record p { line = p.line + 1 }

-- The place to which a step leads, and the kept places that are left behind it.
abbrev pub place_by : PlaceStep → Place → List Place → Place
place_by Same p own = p
place_by Next p own = next_line p
place_by Own p [] = p
place_by Own p (q ∷ own) = q

abbrev pub left_by : PlaceStep → List Place → List Place
left_by Same own = own
left_by Next own = own
left_by Own [] = []
left_by Own (q ∷ own) = own

-- The places to which steps lead, and the last of them.
abbrev pub places_by : Place → List Place → List PlaceStep → List Place
places_by p own [] = []
places_by p own (s ∷ ss) = place_by s p own ∷ places_by (place_by s p own) (left_by s own) ss

abbrev pub last_by : Place → List Place → List PlaceStep → Place
last_by p own [] = p
last_by p own (s ∷ ss) = last_by (place_by s p own) (left_by s own) ss

-- The place of a step, where it is kept.
abbrev pub added : PlaceStep → Place → List Place
added Same q = []
added Next q = []
added Own q = q ∷ []

-- How many places the steps keep.
abbrev pub kept_by : List PlaceStep → ℕ
kept_by [] = zero
kept_by (Same ∷ ss) = kept_by ss
kept_by (Next ∷ ss) = kept_by ss
kept_by (Own ∷ ss) = suc (kept_by ss)

-- Each kept place belongs to a step, and the last place is the one to which the steps lead.
pub record AreStepped (start last : Place) (own : List Place) (steps : List PlaceStep) : Type 0 where
  pub last_is : last ≡ last_by start own steps
  pub own_are : kept_by steps ≡ length own
