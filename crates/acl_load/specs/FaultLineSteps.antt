-- The parts of a fault's line that stand only where there is something to tell.
use Rattle.std.specs.Prelude.{ℕ, Bool, true, false, List, [], ◌∷◌, codes}

-- the text, or nothing
abbrev pub only_if : Bool → List ℕ → List ℕ
only_if true text = text
only_if false text = []

-- the space before a word that is there
abbrev pub space_before : List ℕ → List ℕ
space_before [] = []
space_before (b ∷ bs) = codes " "
