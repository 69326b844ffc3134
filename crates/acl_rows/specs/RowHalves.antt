-- The halves of a row's line: what it begins with, and the words and the line feed that it ends with.
use Rattle.std.specs.Prelude.{ℕ, List, [], ◌∷◌, ◌++◌, replicate}
use Rattle.acl_rows.specs.Rows.{spaced}

unfoldable pub row_front : ℕ → List ℕ → List (List ℕ) → List ℕ
row_front indent first rest = (replicate indent 32 ++ first) ++ spaced rest

unfoldable pub row_back : List (List ℕ) → List ℕ
row_back rest = spaced rest ++ 10 ∷ []
