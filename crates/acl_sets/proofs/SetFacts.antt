-- Facts on the steps of sets that are changed range by range: a list with one range put in, and the
-- pieces that two ranges leave or share.
use Rattle.std.proofs.Common.{◌≡◌, ℕ, ◌+◌, ◌≤◌, min, max, Bool, true, false, not, ◌&&◌, ◌||◌, nat_le, List, [], ◌∷◌, ◌++◌, flat_map, inl, inr, refl, ap, ◌∙◌, arith}
use Rattle.std.proofs.lemmas.Bool.{cases_lt, lt-ltb, le-ltb, le-leb, lt-leb}
use Rattle.std.proofs.lemmas.Bool.Decides.{nat_tests}
use Rattle.std.proofs.lemmas.List.Folds.{list_any-append}
use Rattle.acl_sets.specs.declared.sets.Range.{Range}
use Rattle.acl_sets.specs.Ranges.{inside, holds, IsNormal}
use Rattle.acl_sets.proofs.RangeLaws.{lower_floor}
use Rattle.acl_sets.specs.ComputableSets.{joined, put_in, cut, shared}

-- Tests

pub or_swap : (a b c : Bool) → (b || (a || c)) ≡ (a || (b || c))
or_swap true true c = refl
or_swap true false c = refl
or_swap false true c = refl
or_swap false false c = refl

pub or_group : (a b c : Bool) → ((a || b) || c) ≡ (a || (b || c))
or_group true b c = refl
or_group false b c = refl

pub or_turn : (a b : Bool) → (a || b) ≡ (b || a)
or_turn true true = refl
or_turn true false = refl
or_turn false true = refl
or_turn false false = refl

pub and_out : (a b c : Bool) → ((a && c) || (b && c)) ≡ ((a || b) && c)
and_out true true true = refl
and_out true true false = refl
and_out true false true = refl
and_out true false false = refl
and_out false true c = refl
and_out false false c = refl

pub and_in : (a b c : Bool) → ((a && b) || (a && c)) ≡ (a && (b || c))
and_in true b c = refl
and_in false b c = refl

pub not_both : (a b c : Bool) → ((a && not b) && not c) ≡ (a && not (b || c))
not_both true true c = refl
not_both true false c = refl
not_both false b c = refl

pub both_none : (a : Bool) → (a && not false) ≡ a
both_none true = refl
both_none false = refl

pub either_none : (a : Bool) → (a || false) ≡ a
either_none true = refl
either_none false = refl

pub never : (a : Bool) → (a && false) ≡ false
never true = refl
never false = refl

-- A list made of the pieces of each range

pub normal_append : (f h g top : ℕ) (rs ss : List Range) → IsNormal f h rs → f ≤ g → h + 2 ≤ g
    → h ≤ top → IsNormal g top ss → IsNormal f top (rs ++ ss)
normal_append f h g top [] ss n l m t k = lower_floor f g top ss l k
normal_append f h g top (r ∷ rs) ss n l m t k =
    (n.0, n.1, omega arith, normal_append (r.high + 2) h g top rs ss n.3 (omega arith) m t k)

pub flat_normal : (c : Range → List Range)
    → ((q : Range) → q.low ≤ q.high → IsNormal q.low q.high (c q)) → (f top : ℕ) (qs : List Range)
    → IsNormal f top qs → IsNormal f top (flat_map c qs)
flat_normal c h f top [] n = tt
flat_normal c h f top (q ∷ qs) n =
    normal_append f q.high (q.high + 2) top (c q) (flat_map c qs)
    (lower_floor f q.low q.high (c q) n.0 (h q n.1)) (omega arith) (omega arith) n.2
    (flat_normal c h (q.high + 2) top qs n.3)

pub flat_holds : (c : Range → List Range) (b : Bool) (x : ℕ)
    → ((q : Range) → q.low ≤ q.high → holds (c q) x ≡ (inside q x && b))
    → (f top : ℕ) (qs : List Range) → IsNormal f top qs
    → holds (flat_map c qs) x ≡ (holds qs x && b)
flat_holds c b x h f top [] n = refl
flat_holds c b x h f top (q ∷ qs) n =
    list_any-append (λ (r : Range). inside r x) (c q) (flat_map c qs)
    ∙ ap (λ t. t || holds (flat_map c qs) x) (h q n.1)
    ∙ ap (λ t. (inside q x && b) || t) (flat_holds c b x h (q.high + 2) top qs n.3)
    ∙ and_out (inside q x) (holds qs x) b

-- Union

pub joined-inside : (a b c d x : ℕ) → a ≤ b → c ≤ d → a ≤ d + 1 → c ≤ b + 1
    → (nat_le (min a c) x && nat_le x (max b d)) ≡ ((nat_le a x && nat_le x b) ||
    (nat_le c x && nat_le x d))
joined-inside a b c d x h k l m = grind (arith, nat_tests)

pub put_in-holds : (f top : ℕ) (r : Range) (qs : List Range) (x : ℕ) → IsNormal f top qs
    → r.low ≤ r.high → holds (put_in r qs) x ≡ (inside r x || holds qs x)
put_in-holds f top r [] x n l = refl
put_in-holds f top r (q ∷ qs) x n l = elim (cases_lt (q.high + 1) r.low) [
  | inl h ↦ rw (lt-ltb (q.high + 1) r.low h) (ap (λ t. inside q x || t)
      (put_in-holds (q.high + 2) top r qs x n.3 l) ∙ or_swap (inside r x) (inside q x) (holds qs x))
  | inr h ↦ rw (le-ltb (q.high + 1) r.low h) (elim (cases_lt (r.high + 1) q.low) [
    | inl k ↦ rw lt-ltb refl
    | inr k ↦ rw le-ltb (put_in-holds (q.high + 2) top (joined r q) qs x n.3 (omega arith)
        ∙ ap (λ t. t || holds qs x) (joined-inside r.low r.high q.low q.high x l n.1 h k)
        ∙ or_group (inside r x) (inside q x) (holds qs x))
  ])
]

pub put_in-normal : (f top : ℕ) (r : Range) (qs : List Range) → IsNormal f top qs → f ≤ r.low
    → r.low ≤ r.high → r.high ≤ top → IsNormal f top (put_in r qs)
put_in-normal f top r [] n l m t = (l, m, t, tt)
put_in-normal f top r (q ∷ qs) n l m t = elim (cases_lt (q.high + 1) r.low) [
  | inl h ↦ rw (lt-ltb (q.high + 1) r.low h) (
    n.0,
    n.1,
    n.2,
    put_in-normal (q.high + 2) top r qs n.3
        (omega arith) m t,
  )
  | inr h ↦ rw (le-ltb (q.high + 1) r.low h) (elim (cases_lt (r.high + 1) q.low) [
    | inl k ↦ rw lt-ltb (l, m, t, (omega arith, n.1, n.2, n.3))
    | inr k ↦ rw le-ltb (put_in-normal f top (joined r q) qs
        (lower_floor f (q.high + 2) top qs (omega arith) n.3) (omega arith) (omega arith) (omega arith))
  ])
]

-- Difference

cut-inside : (a b c d x : ℕ) → a ≤ b → c ≤ d
    → holds (cut (record { low = a; high = b }) (record { low = c; high = d })) x ≡
    ((nat_le c x && nat_le x d) && not (nat_le a x && nat_le x b))
cut-inside a b c d x h k = elim (cases_lt c a) [
  | inl l ↦ rw (lt-ltb c a l) (elim (cases_lt b d) [
    | inl m ↦ rw (lt-ltb b d m) (grind (arith, nat_tests))
    | inr m ↦ rw (le-ltb b d m) (grind (arith, nat_tests))
  ])
  | inr l ↦ rw (le-ltb c a l) (elim (cases_lt b d) [
    | inl m ↦ rw (lt-ltb b d m) (grind (arith, nat_tests))
    | inr m ↦ rw (le-ltb b d m) (grind (arith, nat_tests))
  ])
]

cut-normal : (a b c d : ℕ) → a ≤ b → c ≤ d
    → IsNormal c d (cut (record { low = a; high = b }) (record { low = c; high = d }))
cut-normal a b c d h k = elim (cases_lt c a) [
  | inl l ↦ rw (lt-ltb c a l) (elim (cases_lt b d) [
    | inl m ↦ rw (lt-ltb b d m) (
      omega arith,
      omega arith,
      omega arith,
      (omega arith, omega arith, omega arith, tt),
    )
    | inr m ↦ rw (le-ltb b d m) (omega arith, omega arith, omega arith, tt)
  ])
  | inr l ↦ rw (le-ltb c a l) (elim (cases_lt b d) [
    | inl m ↦ rw (lt-ltb b d m) (omega arith, omega arith, omega arith, tt)
    | inr m ↦ rw (le-ltb b d m) tt
  ])
]

pub without-holds : (f top : ℕ) (r : Range) (qs : List Range) (x : ℕ) → IsNormal f top qs
    → r.low ≤ r.high → holds (flat_map (cut r) qs) x ≡ (holds qs x && not (inside r x))
without-holds f top r qs x n l =
    flat_holds (cut r) (not (inside r x)) x
    (λ q h. cut-inside r.low r.high q.low q.high x l h) f top qs n

pub without-normal : (f top : ℕ) (r : Range) (qs : List Range) → IsNormal f top qs → r.low ≤ r.high
    → IsNormal f top (flat_map (cut r) qs)
without-normal f top r qs n l =
    flat_normal (cut r) (λ q h. cut-normal r.low r.high q.low q.high l h) f top qs n

-- Intersection

pub shared-inside : (a b c d x : ℕ)
    → holds (shared (record { low = a; high = b }) (record { low = c; high = d })) x ≡
    ((nat_le c x && nat_le x d) && (nat_le a x && nat_le x b))
shared-inside a b c d x = elim (cases_lt (min b d) (max a c)) [
  | inl l ↦ rw (lt-leb (max a c) (min b d) l) (grind (arith, nat_tests))
  | inr l ↦ rw (le-leb (max a c) (min b d) l) (grind (arith, nat_tests))
]

pub common-holds : (f top : ℕ) (r : Range) (qs : List Range) (x : ℕ) → IsNormal f top qs
    → holds (flat_map (λ q. shared r q) qs) x ≡ (holds qs x && inside r x)
common-holds f top r qs x n =
    flat_holds (λ q. shared r q) (inside r x) x
    (λ q h. shared-inside r.low r.high q.low q.high x) f top qs n

pub common-normal : (f top : ℕ) (r : Range) (qs : List Range) → IsNormal f top qs
    → IsNormal (max f r.low) r.high (flat_map (λ q. shared r q) qs)
common-normal f top r [] n = tt
common-normal f top r (q ∷ qs) n = elim (cases_lt (min r.high q.high) (max r.low q.low)) [
  | inl l ↦ rw (lt-leb (max r.low q.low) (min r.high q.high) l)
      (lower_floor (max f r.low) (max (q.high + 2) r.low) r.high (flat_map (λ t. shared r t) qs)
      (omega arith) (common-normal (q.high + 2) top r qs n.3))
  | inr l ↦ rw (le-leb (max r.low q.low) (min r.high q.high) l) (
    omega arith,
    l,
    omega arith,
    lower_floor (min r.high q.high + 2)
        (max (q.high + 2) r.low) r.high (flat_map (λ t. shared r t) qs) (omega arith)
        (common-normal (q.high + 2) top r qs n.3),
  )
]
