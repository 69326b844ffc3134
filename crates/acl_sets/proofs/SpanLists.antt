-- Lists of spans, as lists of the ranges that they are.
use Rattle.std.proofs.Common.{◌≡◌, ℕ, zero, suc, ◌-◌, ◌<◌, ◌≤◌, Bool, true, false, nat_lt, List, [], ◌∷◌, map, take, drop, length, slice_index_or, ap, sym, ◌∙◌, refl, arith}
use Rattle.std.proofs.lemmas.List.{get_or-map, length-drop, length-map, take-map}
use Rattle.std.proofs.Math.Seq.{take-length}
use Rattle.std.proofs.lemmas.List.Sorted.{IsPermutation-map}
use Rattle.std.specs.List.{All}
use Rattle.std.specs.List.Sorted.{IsNonDecreasingBy, IsPartitionedBy, IsPartitionPoint, IsPermutation}
use Rattle.acl_sets.specs.declared.sets.Range.{Range}
use Rattle.acl_sets.specs.Ranges.{IsNormal, IsRange, holds}
use Rattle.acl_sets.specs.ComputableSets.{put_all}
use Rattle.acl_sets.specs.Spans.{same}
use Rattle.acl_sets.specs.SweepSteps.{begins_by, ending_below, merged, passed}
use Rattle.acl_sets.proofs.SweepFacts.{merged-computed}
use Rattle.acl_sets.proofs.WalkFacts.{begins_covers, passed-drop}
use Rattle.acl_sets.proofs.CutRuns.{ending_take}

pub map_same : (rs : List Range) → map same rs ≡ rs
map_same [] = refl
map_same (r ∷ rs) = ap (λ t. r ∷ t) (map_same rs)

module _ {X : Type 0} (range : X → Range) where
  -- the element at a place is the range of the element there
  at_map : (xs : List X) (i : ℕ) (d : Range) → i < length xs → (x : X) × (slice_index_or (map range xs) i d ≡ range (slice_index_or xs i x))
  at_map [] i d l = absurd (omega (arith, l))
  at_map (x ∷ xs) i d l = (x, get_or-map range (x ∷ xs) i x d l)

  -- they rise with them
  pub spans_rising : (xs : List X) → IsNonDecreasingBy (λ x. (range x).low) xs → IsNonDecreasingBy (λ (r : Range). r.low) (map range xs)
  spans_rising [] h = λ i j d le lt. absurd (omega (arith, lt))
  spans_rising (x ∷ xs) h = λ i j d le lt.
      let within : j < length (x ∷ xs) = omega (arith, lt, length-map (x ∷ xs) range) in
      rw (get_or-map range (x ∷ xs) i x d (omega (arith, within, le)), get_or-map range (x ∷ xs) j x d within) (h i j x le within)

  -- halving finds the same place in both
  pub spans_parted : (test : Range → Bool) (xs : List X) → IsPartitionedBy test (map range xs) → IsPartitionedBy (λ x. test (range x)) xs
  spans_parted test xs h = λ i j d le lt e.
      let within : j < length (map range xs) = omega (arith, lt, length-map xs range) in
      let later = h i j (range d) le within (ap test (get_or-map range xs j d (range d) lt) ∙ e) in
      sym (ap test (get_or-map range xs i d (range d) (omega (arith, lt, le)))) ∙ later

  pub spans_point : (test : Range → Bool) (xs : List X) (k : ℕ) → k ≤ length xs
      → IsPartitionPoint (λ x. test (range x) ≡ true) (λ x. test (range x) ≡ false) xs k
      → IsPartitionPoint (λ r. test r ≡ true) (λ r. test r ≡ false) (map range xs) k
  spans_point test xs k le point = (
    λ i d from to.
        let at = at_map xs i d (omega (arith, to, le)) in
        ap test at.1 ∙ point.0 i at.0 from to,
    λ i d from to.
        let at = at_map xs i d (omega (arith, to, length-map xs range)) in
        ap test at.1 ∙ point.1 i at.0 from (omega (arith, to, length-map xs range)),
  )

  -- what is merged of the sorted spans is the set of those that came
  pub spans-computed : (top : ℕ) (xs rising slice vs : List X) → All (λ r. IsRange top r) (map range xs) → IsPermutation xs rising
      → IsNonDecreasingBy (λ x. (range x).low) rising → slice ≡ rising → map range vs ≡ merged (map range slice)
      → map range vs ≡ put_all (map range xs) []
  spans-computed top xs rising slice vs w p h d m =
      merged-computed top (map range xs) (map range rising) (map range slice) (map range vs) w (IsPermutation-map range xs rising p)
      (spans_rising rising h) (ap (λ z. map range z) d) m

  drop_spans : (i : ℕ) (xs : List X) → map range (drop i xs) ≡ drop i (map range xs)
  drop_spans zero xs = refl
  drop_spans (suc i) [] = refl
  drop_spans (suc i) (x ∷ xs) = drop_spans i xs

  -- what is behind a place, as the code has it
  spans_behind : (xs : List X) (i : ℕ) → map range (take (length xs - i) (drop i xs)) ≡ drop i (map range xs)
  spans_behind xs i =
      ap (λ z. map range (take z (drop i xs))) (sym (length-drop i xs)) ∙ ap (map range) (take-length (drop i xs)) ∙ drop_spans i xs

  -- Halving finds the ranges that end below a number, and those behind them.
  pub found_parts : (top low : ℕ) (xs : List X) (i : ℕ) → i ≤ length xs
      → IsPartitionPoint (λ x. nat_lt (range x).high low ≡ true) (λ x. nat_lt (range x).high low ≡ false) xs i
      → (ending_below low (map range xs) ≡ map range (take i xs))
      × (passed low (map range xs) ≡ map range (take (length xs - i) (drop i xs)))
  found_parts top low xs i l spans =
      let rs = map range xs in
      let point = spans_point (λ (r : Range). nat_lt r.high low) xs i l spans in
      let within : i ≤ length rs = omega (arith, l, length-map xs range) in (
        ending_take low rs i within (λ k z m. point.0 k z (omega arith) m) (λ k z m o. point.1 k z m o) ∙ take-map range i xs,
        passed-drop low rs i within (λ k z m. point.0 k z (omega arith) m) (λ k z m o. point.1 k z m o) ∙ sym (spans_behind xs i),
      )

  -- A number is held where the range that halving finds begins at it at the latest.
  pub found_number : (top x : ℕ) (xs : List X) (i : ℕ) (found : Bool) → IsNormal 0 top (map range xs) → i ≤ length xs
      → IsPartitionPoint (λ s. nat_lt (range s).high x ≡ true) (λ s. nat_lt (range s).high x ≡ false) xs i
      → found ≡ begins_by x (map range (take (length xs - i) (drop i xs))) → found ≡ holds (map range xs) x
  found_number top x xs i found n l spans e =
      e ∙ ap (λ z. begins_by x z) (sym (found_parts top x xs i l spans).1) ∙ begins_covers 0 top (map range xs) x x n (omega arith)

  -- the first, and those behind it, as the code has them
  pub first_span : (xs : List X) (x : X) → 1 ≤ length xs → x ≡ slice_index_or xs 0 x
      → map range xs ≡ range x ∷ map range (take (length xs - 1) (drop 1 xs))
  first_span [] x l e = absurd (omega (arith, l))
  first_span (y ∷ ys) x l e =
      ap (λ z. range z ∷ map range ys) (sym e) ∙ ap (λ t. range x ∷ t) (sym (spans_behind (y ∷ ys) 1))

  pub no_span : (xs : List X) → length xs ≡ 0 → map range xs ≡ []
  no_span [] e = refl
  no_span (x ∷ xs) e = absurd (omega (arith, e))
