-- Marks of which terms have some numbers.
use Rattle.std.proofs.Common.{◌≡◌, ℕ, ◌+◌, ◌*◌, ◌<◌, ◌≤◌, true, List, length, get_or, subst, sym, ◌∙◌, inl, inr, refl, arith}
use Rattle.std.proofs.lemmas.Bool.{cases_lt}
use Rattle.std.proofs.lemmas.List.Folds.{Any-from_list_any, list_any_at}
use Rattle.std.proofs.lemmas.Nat.{row_fits}
use Rattle.std.specs.List.Sorted.{IsNonDecreasing}
use Rattle.acl_sets.specs.declared.sets.Range.{Range}
use Rattle.acl_sets.specs.Ranges.{Numbers, holds, inside}
use Rattle.acl_sets.proofs.RangeLaws.{ends_of, in_range}
use Rattle.acl_shade.specs.declared.marks.Marks.{Marks}
use Rattle.acl_shade.specs.Sifting.{AreMarked, RowHas}
use Rattle.acl_shade.specs.Marking.{AreMarks, MarksMore}

-- ---- marks stay

pub more-none : (m : Marks) → AreMarks m → MarksMore m m
more-none m are = record { are = are; points = refl; width = refl; keeps = λ bit h. h }

pub more-yet : (a b c : Marks) → MarksMore a b → MarksMore b c → MarksMore a c
more-yet a b c m n = record {
  are = n.are;
  points = n.points ∙ m.points;
  width = n.width ∙ m.width;
  keeps = λ bit h. n.keeps bit (m.keeps bit h);
}

pub row-stays : (a b : Marks) → MarksMore a b → (k term : ℕ) → RowHas a.width a.rows.items k term
    → RowHas b.width b.rows.items k term
row-stays a b m k term h =
    subst (λ w. RowHas w b.rows.items k term) (sym m.width) (m.keeps (64 * (k * a.width) + term) h)

-- A number's row is among the words.
pub row-within : (m : Marks) (k : ℕ) → AreMarks m → k < length m.points.items
    → k * m.width + m.width ≤ length m.rows.items
row-within m k are within =
    let rows = are.rows in
    let fits = row_fits k m.width (length m.points.items) m.width within (omega arith) in
    omega arith

-- ---- the numbers of a range

-- Where the numbers up to this place are marked, and the one there is none that is to be, all that are to be are.
pub marked-to : (points : List ℕ) (P : ℕ → Type 0) (from at high : ℕ) → IsNonDecreasing points
    → ((k : ℕ) → from ≤ k → k < at → P k) → (at < length points → get_or points at 0 ≤ high → ⊥)
    → (k : ℕ) → from ≤ k → k < length points → get_or points k 0 ≤ high → P k
marked-to points P from at high rise done stop k past within low = elim (cases_lt k at) [
  | inl before ↦ done k past before
  | inr behind ↦
      let up = rise at k 0 behind within in
      absurd (stop (omega arith) (omega arith))
]

-- A number that is inside a range is not before the first one that is not below it.
pub inside-from : (points : List ℕ) (at k : ℕ) (r : Range)
    → ((j : ℕ) → j < at → get_or points j 0 < r.low) → inside r (get_or points k 0) ≡ true
    → (at ≤ k) × (get_or points k 0 ≤ r.high)
inside-from points at k r below i =
    let e = ends_of r.low r.high (get_or points k 0) i in
    let low = e.0 in (
      elim (cases_lt k at) [
        | inl before ↦ let less = below k before in absurd (omega arith)
        | inr behind ↦ behind
      ],
      e.1,
    )

-- ---- the numbers of a set

-- All ranges are marked, so all numbers are.
pub all-marked : (width : ℕ) (points rows : List ℕ) (place : ℕ) (s : Numbers) (ranges : List Range) → ranges ≡ s.ranges
    → ((r k : ℕ) (d : Range) → r < length ranges → k < length points
    → inside (get_or ranges r d) (get_or points k 0) ≡ true → RowHas width rows k place)
    → AreMarked width points rows place s
all-marked width points rows place s ranges same marked k within h =
    let some = Any-from_list_any (λ r. inside r (get_or points k 0)) ranges
    (subst (λ rs. holds rs (get_or points k 0) ≡ true) (sym same) h) in
    marked some.0 k some.1 some.2 within
    (subst (λ (r : Range). inside r (get_or points k 0) ≡ true) (sym some.3) some.4)

-- A number of a range is one of the set.
pub range-holds : (s : Numbers) (ranges : List Range) (r : ℕ) (x : ℕ) (d : Range) → ranges ≡ s.ranges → r < length ranges
    → (get_or ranges r d).low ≤ x → x ≤ (get_or ranges r d).high → holds s.ranges x ≡ true
range-holds s ranges r x d same within low high =
    subst (λ rs. holds rs x ≡ true) same (list_any_at (λ (q : Range). inside q x) ranges r d within
    (in_range (get_or ranges r d).low (get_or ranges r d).high x low high))
