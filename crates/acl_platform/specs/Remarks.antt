-- What is remarked on a rule, on platforms that have remarks.
use Rattle.std.specs.Prelude.{ℕ, List, [], ◌∷◌}
use Rattle.acl_platform.specs.declared.rules.Rule.{Rule}

-- A note that is empty is not written.
abbrev pub notes : List ℕ → List (List ℕ)
notes [] = []
notes (b ∷ bs) = (b ∷ bs) ∷ []

-- The remarks of a rule are its name and its note.
abbrev pub remarks : Rule → List (List ℕ)
remarks r = r.name ∷ notes r.note
