-- The places of lines that follow one another.
use Rattle.std.specs.Prelude.{ℕ, zero, suc, ◌+◌, List, [], ◌∷◌, flat_map}
use Rattle.acl_text.specs.declared.faults.Place.{Place}
use Rattle.acl_words.specs.declared.stretches.Stretch.{Stretch}

-- The places of so many lines of a file, from the first on.
abbrev pub places_from : ℕ → ℕ → ℕ → List Place
places_from file first zero = []
places_from file first (suc count) = record { file = file; line = first } ∷ places_from file (first + 1) count

abbrev pub places_in : Stretch → List Place
places_in s = places_from s.file s.first s.count

abbrev pub places_of : List Stretch → List Place
places_of stretches = flat_map places_in stretches
