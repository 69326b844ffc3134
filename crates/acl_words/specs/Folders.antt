-- The folder of a path.
use Rattle.std.specs.Prelude.{ℕ, ◌==◌, ◌||◌, if◌then◌else◌, List, [], ◌∷◌}
use Rattle.std.specs.List.{list_any}

-- The folder of a path: the part up to and with its last slash, which is 47, or nothing.
abbrev pub folder_of : List ℕ → List ℕ
folder_of [] = []
folder_of (b ∷ bs) = if b == 47 || list_any (λ c. c == 47) bs then b ∷ folder_of bs else []
