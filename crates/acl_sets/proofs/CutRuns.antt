-- Ranges that end below the first of those to be cut away stay as they are.
use Rattle.std.proofs.Common.{◌≡◌, ℕ, zero, suc, ◌+◌, ◌<◌, ◌≤◌, true, false, nat_lt, List, [], ◌∷◌, ◌++◌, append-nil, append_assoc, length, take, slice_index_or, inl, inr, refl, ap, sym, subst, ◌∙◌, arith}
use Rattle.std.proofs.lemmas.Bool.{cases_lt, lt-ltb, le-ltb}
use Rattle.acl_sets.specs.declared.sets.Range.{Range}
use Rattle.acl_sets.specs.Ranges.{IsNormal}
use Rattle.acl_sets.specs.SweepSteps.{cut_along, ending_below, passed, walk}
use Rattle.acl_sets.proofs.RangeLaws.{lower_floor}
use Rattle.acl_sets.proofs.WalkFacts.{passed-normal}

-- the walk of the difference
abbrev pub cuts : List Range → List Range → List Range
cuts rs qs = walk (λ r ts. cut_along r ts) rs qs

pub ending_take : (x : ℕ) (qs : List Range) (i : ℕ) → i ≤ length qs
    → ((k : ℕ) (d : Range) → k < i → nat_lt (slice_index_or qs k d).high x ≡ true)
    → ((k : ℕ) (d : Range) → i ≤ k → k < length qs → nat_lt (slice_index_or qs k d).high x ≡ false)
    → ending_below x qs ≡ take i qs
ending_take x [] zero l h k = refl
ending_take x [] (suc i) l h k = absurd (omega arith)
ending_take x (q ∷ qs) zero l h k = rw (k 0 q (omega arith) (omega arith)) refl
ending_take x (q ∷ qs) (suc i) l h k =
    rw (h 0 q (omega arith)) (ap (λ t. q ∷ t) (ending_take x qs i (omega arith)
    (λ j d m. h (suc j) d (omega arith)) (λ j d m o. k (suc j) d (omega arith) (omega arith))))

-- a range that ends below the first of those to be cut away stays
stays : (r q : Range) (qs : List Range) → r.low ≤ r.high → q.low ≤ q.high → r.high < q.low
    → cut_along r (q ∷ qs) ≡ r ∷ []
stays r q qs l m h =
    rw (lt-ltb r.low q.low (omega (arith, l, h)), le-ltb q.high r.high (omega (arith, m, h)))
    (ap (λ high. record { low = r.low; high = high } ∷ []) (omega (arith, h)))

pub cut_runs : (f top : ℕ) (rs : List Range) (q : Range) (qs : List Range) → IsNormal f top rs → q.low ≤ q.high
    → cuts rs (q ∷ qs) ≡ ending_below q.low rs ++ cuts (passed q.low rs) (q ∷ qs)
cut_runs f top [] q qs n l = refl
cut_runs f top (r ∷ rs) q qs n l = elim (cases_lt r.high q.low) [
  | inl h ↦ rw (lt-ltb r.high q.low h)
      (ap (λ t. t ++ cuts rs (passed r.high (q ∷ qs))) (stays r q qs n.1 l h)
      ∙ ap (λ t. r ∷ cuts rs t) (reached r h)
      ∙ ap (λ t. r ∷ t) (cut_runs (r.high + 2) top rs q qs n.3 l))
  | inr h ↦ rw (le-ltb r.high q.low h) refl
]
  where
    reached : (r : Range) → r.high < q.low → passed r.high (q ∷ qs) ≡ q ∷ qs
    reached r h = rw (le-ltb q.high r.high (omega (arith, l, h))) refl

-- where nothing is cut away, all ranges stay
pub cut_none : (rs : List Range) → cuts rs [] ≡ rs
cut_none [] = refl
cut_none (r ∷ rs) = ap (λ t. r ∷ t) (cut_none rs)

-- One round of the code: the ranges that stay, then one that may not.

runs : (top end : ℕ) (left rest : List Range) (q : Range) (qs : List Range) → IsNormal 0 top left → IsNormal 0 end rest → rest ≡ q ∷ qs
    → cuts left rest ≡ ending_below q.low left ++ cuts (passed q.low left) rest
runs top end left rest q qs n m e =
    let P : List Range → Type 0 = λ z. cuts left z ≡ ending_below q.low left ++ cuts (passed q.low left) z in
    let N : List Range → Type 0 = λ z. IsNormal 0 end z in
    subst P (sym e) (cut_runs 0 top left q qs n (subst N e m).1)

pub cut_round : (out more most left passed-left rest behind passed-rest whole : List Range) (p q : Range) (qs : List Range) (top end : ℕ)
    → IsNormal 0 top left → IsNormal 0 end rest → rest ≡ q ∷ qs → passed-left ≡ p ∷ behind
    → more ≡ out ++ ending_below q.low left → passed-left ≡ passed q.low left
    → most ≡ more ++ cut_along p rest → passed-rest ≡ passed p.high rest
    → out ++ cuts left rest ≡ whole → most ++ cuts behind passed-rest ≡ whole
cut_round out more most left ps rest behind passed-rest whole p q qs top end n m e d a b f g w =
    ap (λ t. t ++ cuts behind passed-rest) f ∙ ap (λ t. (more ++ cut_along p rest) ++ cuts behind t) g
    ∙ append_assoc more (cut_along p rest) (cuts behind (passed p.high rest))
    ∙ ap (λ t. t ++ cuts (p ∷ behind) rest) a
    ∙ append_assoc out (ending_below q.low left) (cuts (p ∷ behind) rest)
    ∙ ap (λ t. out ++ (ending_below q.low left ++ cuts t rest)) (sym d ∙ b)
    ∙ ap (λ t. out ++ t) (sym (runs top end left rest q qs n m e)) ∙ w

pub cut_ended : (out more left passed-left rest whole : List Range) (q : Range) (qs : List Range) (top end : ℕ)
    → IsNormal 0 top left → IsNormal 0 end rest → rest ≡ q ∷ qs → passed-left ≡ []
    → more ≡ out ++ ending_below q.low left → passed-left ≡ passed q.low left
    → out ++ cuts left rest ≡ whole → more ≡ whole
cut_ended out more left ps rest whole q qs top end n m e d a b w =
    a ∙ ap (λ t. out ++ t) (sym (append-nil (ending_below q.low left))
    ∙ ap (λ t. ending_below q.low left ++ cuts t rest) (sym d ∙ b)
    ∙ sym (runs top end left rest q qs n m e)) ∙ w

pub cut_rest : (out most left rest whole : List Range) → rest ≡ [] → most ≡ out ++ left
    → out ++ cuts left rest ≡ whole → most ≡ whole
cut_rest out most left rest whole none a w =
    a ∙ ap (λ t. out ++ t) (sym (cut_none left) ∙ ap (λ t. cuts left t) (sym none)) ∙ w

pub left_normal : (top low : ℕ) (left ps behind : List Range) (p : Range) → IsNormal 0 top left → ps ≡ passed low left → ps ≡ p ∷ behind
    → IsNormal 0 top behind
left_normal top low left ps behind p n e d =
    let P : List Range → Type 0 = λ z. IsNormal 0 top z in
    lower_floor 0 (p.high + 2) top behind (omega arith) (subst P (sym e ∙ d) (passed-normal 0 top low left n)).3

pub rest_normal : (top high : ℕ) (rest rs : List Range) → IsNormal 0 top rest → rs ≡ passed high rest → IsNormal 0 top rs
rest_normal top high rest rs n e =
    let P : List Range → Type 0 = λ z. IsNormal 0 top z in
    subst P (sym e) (passed-normal 0 top high rest n)
