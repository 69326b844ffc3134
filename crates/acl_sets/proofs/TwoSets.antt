-- What the calls on two sets give, from what the list functions give.
use Rattle.std.proofs.Common.{◌≡◌, ℕ, ◌≤◌, ◌==◌, Bool, not, true, ◌&&◌, ◌||◌, List, ap, sym, subst, ◌∙◌}
use Rattle.acl_sets.specs.declared.sets.Range.{Range}
use Rattle.acl_sets.specs.Ranges.{holds, IsNormal, Numbers}
use Rattle.acl_sets.specs.ComputableSets.{put_all, cut_all, shared_all, all_covered}
use Rattle.acl_sets.specs.Spans.{short_top}
use Rattle.acl_sets.specs.SweepSteps.{merged, woven, walk, shared_along, cut_along, covered_walk}
use Rattle.acl_sets.proofs.WalkFacts.{united-computed, shared-computed, cut-computed, covered_walk-covered}
use Rattle.acl_sets.proofs.RangeLaws.{are_ranges}
use Rattle.acl_sets.proofs.ComputableSetLaws.{put_all-normal, put_all-holds, cut_all-normal, cut_all-holds, shared_all-normal, shared_all-holds, covered-subset, subset-covered}

-- two sets with one top: as contracts see them, and the fields of their structs
pub record Two (a b : Numbers) (limit other : ℕ) (xs ys : List Range) : Type 0 where
  pub first : record { top = limit; ranges = xs } ≡ a
  pub second : record { top = other; ranges = ys } ≡ b
  pub tops : a.top ≡ b.top
  pub normal : IsNormal 0 limit xs
  pub other_normal : IsNormal 0 other ys

pub two_sets : {a b : Numbers} {limit other : ℕ} {xs ys : List Range}
    → record { top = limit; ranges = xs } ≡ a → record { top = other; ranges = ys } ≡ b → a.top ≡ b.top
    → IsNormal 0 limit xs → IsNormal 0 other ys → Two a b limit other xs ys
two_sets p q t n m = record { first = p; second = q; tops = t; normal = n; other_normal = m }

limits : {a b : Numbers} {l m : ℕ} {xs ys : List Range} → Two a b l m xs ys → m ≡ l
limits t =
    ap (λ (s : Numbers). s.top) t.second ∙ sym t.tops ∙ sym (ap (λ (s : Numbers). s.top) t.first)

under : {a b : Numbers} {l m : ℕ} {xs ys : List Range} → Two a b l m xs ys → IsNormal 0 l ys
under {ys = ys} t = let P : ℕ → Type 0 = λ k. IsNormal 0 k ys in subst P (limits t) t.other_normal

list_of : {a : Numbers} {l : ℕ} {xs : List Range} → record { top = l; ranges = xs } ≡ a
    → xs ≡ a.ranges
list_of e = ap (λ (s : Numbers). s.ranges) e

normal_as : (l : ℕ) (v w : List Range) → v ≡ w → IsNormal 0 l w → IsNormal 0 l v
normal_as l v w e n = let P : List Range → Type 0 = λ k. IsNormal 0 l k in subst P (sym e) n

-- both are held in one kind
pub one_kind : {a b : Numbers} {l m : ℕ} {xs ys : List Range} {short also : Bool} → Two a b l m xs ys
    → short ≡ (l == short_top) → also ≡ (m == short_top) → short ≡ also
one_kind t k h = k ∙ ap (λ n. n == short_top) (sym (limits t)) ∙ sym h

-- the lists of the two structs are those that contracts see
pub at_sets : {X : Type 0} (f : List Range → List Range → X)
    → {a b : Numbers} {l m : ℕ} {xs ys : List Range} → Two a b l m xs ys
    → f ys xs ≡ f b.ranges a.ranges
at_sets f {a = a} {b = b} {xs = xs} {ys = ys} t =
    ap (λ z. f z xs) (list_of t.second) ∙ ap (λ z. f b.ranges z) (list_of t.first)

-- the walks give what is computed
pub united : {a b : Numbers} {l m : ℕ} {xs ys : List Range} → Two a b l m xs ys
    → (v : List Range) → v ≡ merged (woven xs ys) → v ≡ put_all ys xs
united {l = l} {xs = xs} {ys = ys} t v e = e ∙ united-computed l xs ys t.normal (under t)

pub cut_away : {a b : Numbers} {l m : ℕ} {xs ys : List Range} → Two a b l m xs ys
    → (v : List Range) → v ≡ walk (λ r qs. cut_along r qs) xs ys → v ≡ cut_all ys xs
cut_away {l = l} {xs = xs} {ys = ys} t v e = e ∙ cut-computed l xs ys t.normal (under t)

pub in_common : {a b : Numbers} {l m : ℕ} {xs ys : List Range} → Two a b l m xs ys
    → (v : List Range) → v ≡ walk (λ r qs. shared_along r qs) xs ys → v ≡ shared_all ys xs
in_common {l = l} {xs = xs} {ys = ys} t v e = e ∙ shared-computed l xs ys t.normal (under t)

pub lies_in : {a b : Numbers} {l m : ℕ} {xs ys : List Range} → Two a b l m xs ys
    → (v : Bool) → v ≡ covered_walk xs ys → v ≡ all_covered xs ys
lies_in {l = l} {xs = xs} {ys = ys} t v e =
    e ∙ covered_walk-covered 0 l 0 l xs ys t.normal (under t)

pub union-normal : {a b : Numbers} {l m : ℕ} {xs ys : List Range} → Two a b l m xs ys
    → (v : List Range) → v ≡ put_all ys xs → IsNormal 0 l v
union-normal {l = l} {xs = xs} {ys = ys} t v e =
    normal_as l v (put_all ys xs) e (put_all-normal l ys xs (are_ranges 0 l ys (under t)) t.normal)

pub union-holds : {a b : Numbers} {l m : ℕ} {xs ys : List Range} → Two a b l m xs ys
    → (v : List Range) → v ≡ put_all ys xs → (x : ℕ)
    → holds v x ≡ (holds a.ranges x || holds b.ranges x)
union-holds {a = a} {b = b} {l = l} {xs = xs} {ys = ys} t v e x =
    ap (λ k. holds k x) e ∙ put_all-holds l ys xs x (are_ranges 0 l ys (under t)) t.normal
    ∙ ap (λ k. holds k x || holds ys x) (list_of t.first)
    ∙ ap (λ k. holds a.ranges x || holds k x) (list_of t.second)

pub subtract-normal : {a b : Numbers} {l m : ℕ} {xs ys : List Range} → Two a b l m xs ys
    → (v : List Range) → v ≡ cut_all ys xs → IsNormal 0 l v
subtract-normal {l = l} {m = m} {xs = xs} {ys = ys} t v e =
    normal_as l v (cut_all ys xs) e (cut_all-normal 0 l m ys xs
    (are_ranges 0 m ys t.other_normal) t.normal)

pub subtract-holds : {a b : Numbers} {l m : ℕ} {xs ys : List Range} → Two a b l m xs ys
    → (v : List Range) → v ≡ cut_all ys xs → (x : ℕ)
    → holds v x ≡ (holds a.ranges x && not (holds b.ranges x))
subtract-holds {a = a} {b = b} {l = l} {m = m} {xs = xs} {ys = ys} t v e x =
    ap (λ k. holds k x) e ∙ cut_all-holds 0 l m ys xs x (are_ranges 0 m ys t.other_normal) t.normal
    ∙ ap (λ k. holds k x && not (holds ys x)) (list_of t.first)
    ∙ ap (λ k. holds a.ranges x && not (holds k x)) (list_of t.second)

pub intersect-normal : {a b : Numbers} {l m : ℕ} {xs ys : List Range} → Two a b l m xs ys
    → (v : List Range) → v ≡ shared_all ys xs → IsNormal 0 l v
intersect-normal {l = l} {xs = xs} {ys = ys} t v e =
    normal_as l v (shared_all ys xs) e (shared_all-normal 0 l 0 l ys xs (under t) t.normal)

pub intersect-holds : {a b : Numbers} {l m : ℕ} {xs ys : List Range} → Two a b l m xs ys
    → (v : List Range) → v ≡ shared_all ys xs → (x : ℕ)
    → holds v x ≡ (holds a.ranges x && holds b.ranges x)
intersect-holds {a = a} {b = b} {l = l} {xs = xs} {ys = ys} t v e x =
    ap (λ k. holds k x) e ∙ shared_all-holds 0 l ys xs x t.normal
    ∙ ap (λ k. holds k x && holds ys x) (list_of t.first)
    ∙ ap (λ k. holds a.ranges x && holds k x) (list_of t.second)

pub subset-yes : {a b : Numbers} {l m : ℕ} {xs ys : List Range} → Two a b l m xs ys
    → all_covered xs ys ≡ true → (x : ℕ) → x ≤ a.top → holds a.ranges x ≡ true
    → holds b.ranges x ≡ true
subset-yes {a = a} {b = b} {xs = xs} {ys = ys} t e x h k =
    sym (ap (λ z. holds z x) (list_of t.second)) ∙ covered-subset xs ys x e
    (ap (λ z. holds z x) (list_of t.first) ∙ k)

pub subset-again : {a b : Numbers} {l m : ℕ} {xs ys : List Range} → Two a b l m xs ys
    → ((x : ℕ) → x ≤ a.top → holds a.ranges x ≡ true → holds b.ranges x ≡ true)
    → all_covered xs ys ≡ true
subset-again {a = a} {b = b} {l = l} {xs = xs} {ys = ys} t h =
    let top : l ≡ a.top = ap (λ (s : Numbers). s.top) t.first in
    subset-covered 0 0 l xs ys t.normal (under t) (λ x p q.
    let P : ℕ → Type 0 = λ k. x ≤ k in
    ap (λ z. holds z x) (list_of t.second) ∙ h x (subst P top p)
    (sym (ap (λ z. holds z x) (list_of t.first)) ∙ q))
