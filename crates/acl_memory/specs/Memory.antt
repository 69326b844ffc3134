-- What the objects in memory hold, and which of their calls fail.
use Rattle.std.specs.Prelude.{◌≡◌, ℕ, ◌+◌, ◌==◌, Bool, List, [], ◌∷◌, ◌++◌, if◌then◌else◌}
use Rattle.std.specs.List.{list_any}
use Rattle.std.specs.Coded.{Coded-set, coded_list, coded_ℕ}
use Rattle.acl_text.specs.Output.{one_more}

-- the count after a call, where it is raised at one that met the cause
abbrev pub one_more_if : Bool → ℕ → ℕ
one_more_if met count = if met then one_more count else count

-- The calls of one kind: how many were made, and the numbers of those that fail, counted from 1.
pub record CallsMade : Type 0 where
  pub made : ℕ
  pub failing : List ℕ

abbrev pub no_calls : CallsMade
no_calls = record { made = 0; failing = [] }

-- the next call is listed among those that fail
abbrev pub next_fails : CallsMade → Bool
next_fails calls = list_any (λ n. n == calls.made + 1) calls.failing

-- one more call was made
abbrev pub after_one : CallsMade → CallsMade
after_one calls = record calls { made = one_more calls.made }

-- the call of this number is to fail too
abbrev pub with_failing : ℕ → CallsMade → CallsMade
with_failing nth calls = record calls { failing = calls.failing ++ nth ∷ [] }

-- that no call is to fail is shown in one way at most
pub failing-prop : (failing : List ℕ) → IsProp (failing ≡ [])
failing-prop failing = Coded-set (coded_list coded_ℕ) failing []
