-- Sets as lists of ranges that can be computed with: a list is changed range by range. What is to
-- be believed are the facts on `holds` and `IsNormal`, which each call promises besides. A set has
-- one list in normal form, so a reader needs these values only where he computes with a set, or
-- states a function of it.
use Rattle.std.specs.Prelude.{ℕ, ◌+◌, ◌-◌, min, max, Bool, ◌&&◌, nat_le, nat_lt, if◌then◌else◌, List, [], ◌∷◌, ◌++◌, flat_map}
use Rattle.std.specs.List.{list_any, list_all}
use Rattle.acl_sets.specs.declared.sets.Range.{Range}
use Rattle.acl_sets.specs.Ranges.{Numbers}

-- One range ends before another begins, and a number lies between them.
abbrev pub is_before : Range → Range → Bool
is_before r q = nat_lt (r.high + 1) q.low

-- Two ranges that meet or touch, as one.
abbrev pub joined : Range → Range → Range
joined r q = record { low = min r.low q.low; high = max r.high q.high }

-- The union of a list in normal form with one range: it is joined with those that it meets or
-- touches.
abbrev pub put_in : Range → List Range → List Range
put_in r [] = r ∷ []
put_in r (q ∷ qs) =
    if is_before q r then q ∷ put_in r qs
    else if is_before r q then r ∷ q ∷ qs
    else put_in (joined r q) qs

-- The union of ranges, in any order, with a list in normal form: they are put in one at a time.
abbrev pub put_all : List Range → List Range → List Range
put_all [] qs = qs
put_all (r ∷ rs) qs = put_all rs (put_in r qs)

-- What the range q has below the range r.
abbrev pub below : Range → Range → List Range
below r q =
    if nat_lt q.low r.low then record { low = q.low; high = min q.high (r.low - 1) } ∷ [] else []

-- What the range q has above the range r.
abbrev pub above : Range → Range → List Range
above r q =
    if nat_lt r.high q.high then record { low = max q.low (r.high + 1); high = q.high } ∷ [] else []

-- The difference of two ranges: the numbers of q that are not in r.
abbrev pub cut : Range → Range → List Range
cut r q = below r q ++ above r q

-- The difference of a list in normal form and ranges: they are taken away one at a time.
abbrev pub cut_all : List Range → List Range → List Range
cut_all [] qs = qs
cut_all (r ∷ rs) qs = cut_all rs (flat_map (cut r) qs)

-- The intersection of two ranges.
abbrev pub shared : Range → Range → List Range
shared r q =
    if nat_le (max r.low q.low) (min r.high q.high)
    then record { low = max r.low q.low; high = min r.high q.high } ∷ [] else []

-- The intersection of two lists in normal form, one range of the first at a time.
abbrev pub shared_all : List Range → List Range → List Range
shared_all rs qs = flat_map (λ r. flat_map (λ q. shared r q) qs) rs

-- All numbers from low to high are in the set: in normal form they lie in one range.
abbrev pub covers : List Range → ℕ → ℕ → Bool
covers rs low high = list_any (λ r. nat_le r.low low && nat_le high r.high) rs

-- The set has all numbers up to its top: in normal form one range has them.
abbrev pub is_all : Numbers → Bool
is_all s = covers s.ranges 0 s.top

-- Some number from low to high is in the set: some range has one.
abbrev pub meets : List Range → ℕ → ℕ → Bool
meets rs low high = list_any (λ r. nat_le r.low high && nat_le low r.high) rs

-- One set is a subset of another: each of its ranges lies in one range of the other.
abbrev pub all_covered : List Range → List Range → Bool
all_covered rs qs = list_all (λ r. covers qs r.low r.high) rs
