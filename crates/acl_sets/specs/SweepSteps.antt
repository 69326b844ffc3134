-- What the walks over lists of ranges give, step by step: for private functions alone.
use Rattle.std.specs.Prelude.{ℕ, ◌+◌, max, Bool, true, false, ◌&&◌, ◌==◌, nat_le, nat_lt, if◌then◌else◌, List, [], ◌∷◌, ◌++◌}
use Rattle.acl_sets.specs.declared.sets.Range.{Range}
use Rattle.acl_sets.specs.ComputableSets.{is_before, joined, below, shared}

-- Ranges in rising order of their low ends, as a list in normal form: those that meet or touch are
-- joined. The range r comes before the others.
abbrev pub merged_from : Range → List Range → List Range
merged_from r [] = r ∷ []
merged_from r (q ∷ qs) =
    if is_before r q then r ∷ merged_from q qs else merged_from (joined r q) qs

abbrev pub merged : List Range → List Range
merged [] = []
merged (r ∷ rs) = merged_from r rs

-- The ranges up to the first that does not begin below a number, and those from there on.
abbrev pub lower : ℕ → List Range → List Range
lower low [] = []
lower low (q ∷ qs) = if nat_lt q.low low then q ∷ lower low qs else []

abbrev pub not_lower : ℕ → List Range → List Range
not_lower low [] = []
not_lower low (q ∷ qs) = if nat_lt q.low low then not_lower low qs else q ∷ qs

-- Two lists in rising order of low ends as one.
abbrev pub woven : List Range → List Range → List Range
woven [] qs = qs
woven (r ∷ rs) qs = lower r.low qs ++ r ∷ woven rs (not_lower r.low qs)

-- The ranges from the first on that does not end below a number.
abbrev pub passed : ℕ → List Range → List Range
passed high [] = []
passed high (q ∷ qs) = if nat_lt q.high high then passed high qs else q ∷ qs

-- The ranges before those: up to the first that does not end below the number.
abbrev pub ending_below : ℕ → List Range → List Range
ending_below low [] = []
ending_below low (q ∷ qs) = if nat_lt q.high low then q ∷ ending_below low qs else []

-- Two lists side by side: what is made of each range of the first, with the ranges of the second
-- that do not end below it.
abbrev pub walk : (Range → List Range → List Range) → List Range → List Range → List Range
walk along [] qs = []
walk along (r ∷ rs) qs = along r qs ++ walk along rs (passed r.high qs)

-- What a range shares with the ranges of a list.
abbrev pub shared_along : Range → List Range → List Range
shared_along r [] = []
shared_along r (q ∷ qs) =
    shared q r ++ (if nat_lt q.high r.high then shared_along r qs else [])

-- What a range has from the end of another on.
abbrev pub behind : Range → Range → Range
behind q r = record { low = max r.low (q.high + 1); high = r.high }

-- What is left of a range without the ranges of a list.
abbrev pub cut_along : Range → List Range → List Range
cut_along r [] = r ∷ []
cut_along r (q ∷ qs) =
    below q r ++ (if nat_lt q.high r.high then cut_along (behind q r) qs else [])

-- The first range begins at a number at the latest.
abbrev pub begins_by : ℕ → List Range → Bool
begins_by low [] = false
begins_by low (q ∷ qs) = nat_le q.low low

-- The first range has all numbers up to one.
abbrev pub covers_first : ℕ → List Range → Bool
covers_first high [] = false
covers_first high (q ∷ qs) = q.low == 0 && nat_le high q.high

-- Each range lies in one of the others, both lists side by side.
abbrev pub covered_walk : List Range → List Range → Bool
covered_walk [] qs = true
covered_walk (r ∷ rs) qs =
    begins_by r.low (passed r.high qs) && covered_walk rs (passed r.high qs)
