-- An output that compares what it takes with a text.
use Rattle.std.specs.Prelude.{◌≡◌, ℕ, ◌≤◌, List, [], ◌∷◌, ◌++◌, length, take, drop, Option, None, Some}
use Rattle.std.specs.Option.{ForSome}

-- The bytes that were taken: those of the text up to a place, and behind them the first that
-- differs.
abbrev pub taken : List ℕ → ℕ → Option ℕ → List ℕ
taken text place None = take place text
taken text place (Some byte) = take place text ++ byte ∷ []

pub record IsCompared (text : List ℕ) (place : ℕ) (other : Option ℕ) : Type 0 where
  pub fits : place ≤ length text
  pub differs : ForSome other (λ byte. (more : List ℕ) → drop place text ≡ byte ∷ more → ⊥)

-- One refusal, at the first byte that differs.
abbrev pub faults_of : Option ℕ → ℕ
faults_of None = 0
faults_of (Some byte) = 1
