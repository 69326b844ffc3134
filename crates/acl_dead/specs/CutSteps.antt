-- The cuts of a set that lie in another, by a walk along both: for private functions alone.
use Rattle.std.specs.Prelude.{◌≡◌, ℕ, ◌+◌, ◌≤◌, ◌↔◌, ◌⊎◌, Bool, true, List, [], ◌∷◌, ◌++◌, if◌then◌else◌, Contains}
use Rattle.acl_sets.specs.declared.sets.Range.{Range}
use Rattle.acl_sets.specs.SweepSteps.{passed, begins_by}

-- The number, where the ranges have it.
abbrev pub held : ℕ → List Range → List ℕ
held x own = if begins_by x (passed x own) then x ∷ [] else []

-- The cuts of the second ranges that the first ones have.
abbrev pub held_cuts : List Range → List Range → List ℕ
held_cuts own [] = []
held_cuts own (r ∷ rs) = (held r.low own ++ held (r.high + 1) (passed r.low own))
    ++ held_cuts (passed (r.high + 1) (passed r.low own)) rs

-- The first range, where there is one, ends at the number or behind it.
abbrev pub EndsFrom : ℕ → List Range → Type 0
EndsFrom h [] = Unit {0}
EndsFrom h (r ∷ rs) = h ≤ r.high

-- The numbers that pass the test are put.
abbrev pub Gathers : (ℕ → Bool) → List ℕ → List ℕ → Type 0
Gathers test old new = (x : ℕ) → Contains new x ↔ (Contains old x ⊎ (test x ≡ true))
