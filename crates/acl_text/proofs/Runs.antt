-- The longest run of zeros in the groups of an IPv6 address.
use Rattle.std.proofs.Common.{◌≡◌, ℕ, zero, suc, ◌+◌, ◌<◌, ◌≤◌, nat_le, List, [], ◌∷◌, length, take, replicate, inl, inr, refl, ap, sym, ◌∙◌, add-one, arith}
use Rattle.std.proofs.lemmas.Bool.{cond_both, leb-true, leb-false, cases_eq}
use Rattle.acl_text.specs.Ipv6.{zeros, longest_run, IsZeros, IsLongest}
use Rattle.acl_text.proofs.Printed.{zeros-more, zeros-end}

same-parts : (x y : ℕ) (xs ys : List ℕ) → x ∷ xs ≡ y ∷ ys → (x ≡ y) × (xs ≡ ys)
same-parts x y xs ys e = (cc, cc)

-- a run at the front is no longer than the zeros there
front-most : (k : ℕ) (gs : List ℕ) → k ≤ length gs → take k gs ≡ replicate k 0 → k ≤ zeros gs
front-most zero gs l e = omega arith
front-most (suc k) [] l e = absurd (omega arith)
front-most (suc k) (g ∷ gs) l e =
    let p = same-parts g 0 (take k gs) (replicate k 0) e in
    let rest = front-most k gs (omega arith) p.1 in
    omega (arith, rest, zeros-more g gs p.0)

front-is : (gs : List ℕ) → IsZeros gs (0, zeros gs)
front-is [] = (omega arith, refl)
front-is (g ∷ gs) = elim (cases_eq g 0) [
  | inl e ↦
      let r = front-is gs in
      let more = zeros-more g gs e in
      (omega (arith, r.0, more), ap (λ k. take k (g ∷ gs)) more ∙ ap (λ x. x ∷ take (zeros gs) gs) e ∙ ap (λ t. 0 ∷ t) r.1 ∙ ap (λ k. replicate k 0) (sym more))
  | inr e ↦
      let none = zeros-end g gs e in
      (omega (arith, none), ap (λ k. take k (g ∷ gs)) none ∙ ap (λ k. replicate k 0) (sym none))
]

-- a run behind a group is one with it before
later : (g : ℕ) (gs : List ℕ) (before run : ℕ) → IsZeros gs (before, run) → IsZeros (g ∷ gs) (before + 1, run)
later g gs before run h = (omega (arith, h.0), rw (add-one before) h.1)

-- what is longer than no run of the rest, and than the zeros at the front, is longer than no run
no-longer : (g : ℕ) (gs : List ℕ) (most before run : ℕ) → ((other : ℕ × ℕ) → IsZeros gs other → other.1 ≤ most) → zeros (g ∷ gs) ≤ most
    → IsZeros (g ∷ gs) (before, run) → run ≤ most
no-longer g gs most zero run h l z = omega (arith, front-most run (g ∷ gs) (omega (arith, z.0)) z.1)
no-longer g gs most (suc before) run h l z = h (before, run) (omega (arith, z.0), z.1)

no-earlier : (g : ℕ) (gs : List ℕ) (start run before : ℕ) → ((b : ℕ) → IsZeros gs (b, run) → start ≤ b) → zeros (g ∷ gs) < run
    → IsZeros (g ∷ gs) (before, run) → start + 1 ≤ before
no-earlier g gs start run zero h l z = absurd (omega (arith, front-most run (g ∷ gs) (omega (arith, z.0)) z.1))
no-earlier g gs start run (suc before) h l z = omega (arith, h before (omega (arith, z.0), z.1))

below : (a b c : ℕ) → a ≤ b → b ≤ c → a ≤ c
below a b c h l = omega arith

pub longest-is : (gs : List ℕ) → IsLongest gs (longest_run gs)
longest-is [] = record { zeros = (omega arith, refl); longest = λ other h. omega (arith, h.0); first = λ before h. omega arith }
longest-is (g ∷ gs) =
    let r = longest_run gs in
    let h = longest-is gs in
    let z = zeros (g ∷ gs) in
    let P : ℕ × ℕ → Type 0 = λ p. IsLongest (g ∷ gs) p in
    cond_both (nat_le r.1 z) (0, z) (r.0 + 1, r.1) P
    (λ e. at-front g gs r.0 r.1 h (leb-true r.1 z e))
    (λ e. behind g gs r.0 r.1 h (leb-false r.1 z e))
  where
    at-front : (g : ℕ) (gs : List ℕ) (before run : ℕ) → IsLongest gs (before, run) → run ≤ zeros (g ∷ gs) → IsLongest (g ∷ gs) (0, zeros (g ∷ gs))
    at-front g gs before run h l = record {
      zeros = front-is (g ∷ gs);
      longest = λ other w. no-longer g gs (zeros (g ∷ gs)) other.0 other.1 (λ p q. below (p.1) run (zeros (g ∷ gs)) (h.longest p q) l) (omega arith) w;
      first = λ b w. omega arith;
    }

    behind : (g : ℕ) (gs : List ℕ) (before run : ℕ) → IsLongest gs (before, run) → zeros (g ∷ gs) < run → IsLongest (g ∷ gs) (before + 1, run)
    behind g gs before run h l = record {
      zeros = later g gs before run h.zeros;
      longest = λ other w. no-longer g gs run other.0 other.1 h.longest (omega arith) w;
      first = λ b w. no-earlier g gs before run b h.first l w;
    }
