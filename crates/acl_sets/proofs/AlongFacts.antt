-- One range walked along a list, one step on and at the end: what is put for it, and what is left of the list.
use Rattle.std.proofs.Common.{◌≡◌, ℕ, ◌<◌, ◌≤◌, List, [], ◌∷◌, ◌++◌, append_assoc, refl, ap, sym, ◌∙◌}
use Rattle.std.proofs.lemmas.Bool.{lt-ltb, le-ltb}
use Rattle.acl_sets.specs.declared.sets.Range.{Range}
use Rattle.acl_sets.specs.ComputableSets.{below, shared}
use Rattle.acl_sets.specs.SweepSteps.{behind, cut_along, lower, not_lower, passed, shared_along}

-- What was put, and what is still to be put, is the whole.
pub put_on : (old new front more rest whole : List Range) → new ≡ old ++ front → rest ≡ front ++ more
    → old ++ rest ≡ whole → new ++ more ≡ whole
put_on old new front more rest whole put split h =
    ap (λ t. t ++ more) put ∙ append_assoc old front more ∙ ap (λ t. old ++ t) (sym split) ∙ h

pub passed_more : (high : ℕ) (q : Range) (qs : List Range) → q.high < high → passed high (q ∷ qs) ≡ passed high qs
passed_more high q qs l = rw (lt-ltb q.high high l) refl

pub passed_found : (high : ℕ) (q : Range) (qs : List Range) → high ≤ q.high → passed high (q ∷ qs) ≡ q ∷ qs
passed_found high q qs l = rw (le-ltb q.high high l) refl

pub cut_more : (r q : Range) (qs : List Range) → q.high < r.high
    → cut_along r (q ∷ qs) ≡ below q r ++ cut_along (behind q r) qs
cut_more r q qs l = rw (lt-ltb q.high r.high l) refl

pub cut_found : (r q : Range) (qs : List Range) → r.high ≤ q.high → cut_along r (q ∷ qs) ≡ below q r ++ []
cut_found r q qs l = rw (le-ltb q.high r.high l) refl

pub shared_more : (r q : Range) (qs : List Range) → q.high < r.high
    → shared_along r (q ∷ qs) ≡ shared q r ++ shared_along r qs
shared_more r q qs l = rw (lt-ltb q.high r.high l) refl

pub shared_found : (r q : Range) (qs : List Range) → r.high ≤ q.high → shared_along r (q ∷ qs) ≡ shared q r ++ []
shared_found r q qs l = rw (le-ltb q.high r.high l) refl

pub lower_more : (low : ℕ) (q : Range) (qs : List Range) → q.low < low → lower low (q ∷ qs) ≡ (q ∷ []) ++ lower low qs
lower_more low q qs l = rw (lt-ltb q.low low l) refl

pub lower_found : (low : ℕ) (q : Range) (qs : List Range) → low ≤ q.low → lower low (q ∷ qs) ≡ []
lower_found low q qs l = rw (le-ltb q.low low l) refl

pub not_lower_more : (low : ℕ) (q : Range) (qs : List Range) → q.low < low → not_lower low (q ∷ qs) ≡ not_lower low qs
not_lower_more low q qs l = rw (lt-ltb q.low low l) refl

pub not_lower_found : (low : ℕ) (q : Range) (qs : List Range) → low ≤ q.low → not_lower low (q ∷ qs) ≡ q ∷ qs
not_lower_found low q qs l = rw (le-ltb q.low low l) refl
