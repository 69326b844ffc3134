-- Where the runs of numbers of a set begin and end.
use Rattle.std.specs.Prelude.{ℕ, zero, suc, Bool, false, not, ◌&&◌, ◌||◌}

-- The number before, where there is one, is in the set.
abbrev pub has_before : (ℕ → Bool) → ℕ → Bool
has_before has zero = false
has_before has (suc x) = has x

-- The number is the low end of a run: it is in the set, and the one before is not.
abbrev pub begins : (ℕ → Bool) → ℕ → Bool
begins has x = has x && not (has_before has x)

-- It is the high end of a run, plus one: it is not in the set, and the one before is.
abbrev pub has_ended : (ℕ → Bool) → ℕ → Bool
has_ended has x = not (has x) && has_before has x

-- A set cuts at the low end of each run, and at the high end plus one.
abbrev pub cuts : (ℕ → Bool) → ℕ → Bool
cuts has x = begins has x || has_ended has x

-- A boundary of a set under some cuts: the low end of a run, or a cut that lies in the set.
abbrev pub is_boundary : (ℕ → Bool) → (ℕ → Bool) → ℕ → Bool
is_boundary has is_cut x = has x && (begins has x || is_cut x)
