-- IPv6 addresses as text: how large they are, which bytes they have, and that what is printed is read.
use Rattle.std.proofs.Common.{◌≡◌, ℕ, zero, suc, ◌+◌, ◌-◌, ◌*◌, ◌/◌, ◌%◌, ◌^◌, ◌<◌, ◌≤◌, Bool, true, false, ◌==◌, nat_lt, nat_le, List, [], ◌∷◌, ◌++◌, length, take, drop, replicate, None, Some, inl, inr, refl, ap, sym, subst, ◌∙◌, add-one, arith, lit<}
use Rattle.std.specs.List.{AllByRecursion}
use Rattle.std.specs.Char.{is_ascii_digit}
use Rattle.std.proofs.Math.Nat.{pow-suc, pow-le-pow_right, mul-le-mul_right}
use Rattle.std.proofs.lemmas.Bool.{cond-true, cond-false, cond_both, leb-true, ltb-true, lt-ltb, le-ltb, eq-eqb, ne_eqb, cases_eq, cases_lt, or_from}
use Rattle.std.proofs.lemmas.Bool.Decides.{nat_tests}
use Rattle.std.proofs.lemmas.List.{length-append, length-take-le, length-drop, take-append-drop}
use Rattle.std.proofs.lemmas.Nat.{pow-add}
use Rattle.acl_text.specs.Cuts.{has_byte}
use Rattle.acl_text.specs.Ipv6.{hex_value, hex_worth, IsGroup, IsGroups, IsSide, grouped, IsIpv6, hex_digit, group_text, groups_text, groups_of, zeros, longest_run, shortened, ipv6_text}
use Rattle.acl_text.proofs.CutLaws.{has-append}
use Rattle.acl_text.proofs.Dotted.{ipv4-small, ipv4-lacks}
use Rattle.acl_text.proofs.Groups.{hex-step, group-small, group-lacks, has-there, groups-nonempty}

-- ---- how large an address is

abbrev pub AreSmall : List ℕ → Type 0
AreSmall gs = AllByRecursion (λ g. g < 65536) gs

groups-small : (gs : List ℕ) (dotted : Bool) (bs : List ℕ) → IsGroups dotted bs gs → AreSmall gs
groups-small [] dotted bs h = tt
groups-small (g ∷ []) dotted bs h = (group-small bs g h, tt)
groups-small (g ∷ i ∷ gs) dotted bs (inl h) = (group-small h.0 g h.3, groups-small (i ∷ gs) dotted h.1 h.4)
groups-small (g ∷ i ∷ gs) dotted bs (inr h) =
    let all = ipv4-small bs (g * 65536 + i) h.2 in
    (omega arith, (h.3, subst (λ (t : List ℕ). AreSmall t) (sym h.1) tt))

side-small : (gs : List ℕ) (dotted : Bool) (bs : List ℕ) → IsSide dotted bs gs → AreSmall gs
side-small gs dotted bs (inl h) = subst (λ (t : List ℕ). AreSmall t) (sym h.1) tt
side-small gs dotted bs (inr h) = groups-small gs dotted bs h

grouped-below : (gs : List ℕ) (v k : ℕ) → AreSmall gs → v < 65536 ^ k → grouped v gs < 65536 ^ (k + length gs)
grouped-below [] v k s h =
    let same : k ≡ k + 0 = omega arith in
    let P : ℕ → Type 0 = λ m. v < 65536 ^ m in
    subst P same h
grouped-below (g ∷ gs) v k s h =
    let fits : g < 65536 = s.0 in
    let next : v * 65536 + g < 65536 ^ (k + 1) = omega (arith, pow-add 65536 k 1) in
    let r = grouped-below gs (v * 65536 + g) (k + 1) s.1 next in
    let same : (k + 1) + length gs ≡ k + suc (length gs) = omega arith in
    let P : ℕ → Type 0 = λ m. grouped (v * 65536 + g) gs < 65536 ^ m in
    subst P same r

grouped-small : (gs : List ℕ) → AreSmall gs → grouped 0 gs < 65536 ^ length gs
grouped-small gs s =
    let same : 0 + length gs ≡ length gs = omega arith in
    let P : ℕ → Type 0 = λ m. grouped 0 gs < 65536 ^ m in
    subst P same (grouped-below gs 0 0 s (lit< tt))

-- two sides of `::` make an address
pub sides_fit : (f k b j : ℕ) → f < 65536 ^ k → b < 65536 ^ j → k + j ≤ 8 → f * 65536 ^ (8 - k) + b < 2 ^ 128
sides_fit f k b j h g l =
    let p : ℕ = 65536 ^ (8 - k) in
    let more : f + 1 ≤ 65536 ^ k = omega arith in
    let wide : (f + 1) * p ≤ 65536 ^ k * p = mul-le-mul_right {m = f + 1} {n = 65536 ^ k} p more in
    let eight : k + (8 - k) ≡ 8 = omega arith in
    let whole : 65536 ^ k * p ≡ 65536 ^ 8 = sym (pow-add 65536 k (8 - k)) ∙ ap (λ m. 65536 ^ m) eight in
    let low : 65536 ^ j ≤ p = pow-le-pow_right {n = 65536} (omega arith) {i = j} {j = 8 - k} (omega arith) in
    omega arith

pub ipv6-small : (bs : List ℕ) (n : ℕ) → IsIpv6 bs n → n < 2 ^ 128
ipv6-small bs n (inl h) =
    let below = grouped-small h.groups (groups-small h.groups true bs h.text) in
    let same : 65536 ^ length h.groups ≡ 65536 ^ 8 = ap (λ m. 65536 ^ m) h.eight in
    omega (arith, h.value, same, below)
ipv6-small bs n (inr h) =
    let front = grouped-small h.front (side-small h.front false h.before h.front_is) in
    let back = grouped-small h.back (side-small h.back true h.behind h.back_is) in
    omega (arith, h.value, sides_fit (grouped 0 h.front) (length h.front) (grouped 0 h.back) (length h.back) front back (omega (arith, h.fewer)))

-- ---- which bytes an address has

-- a byte that no text of an address has
pub record IsForeign (c : ℕ) : Type 0 where
  pub hex : hex_value c ≡ None
  pub digit : is_ascii_digit c ≡ false
  pub dot : (46 == c) ≡ false
  pub colon : (58 == c) ≡ false

groups-lack : (gs : List ℕ) (c : ℕ) (dotted : Bool) (bs : List ℕ) → IsForeign c → IsGroups dotted bs gs → has_byte c bs ≡ false
groups-lack [] c dotted bs f h = absurd h
groups-lack (g ∷ []) c dotted bs f h = group-lacks c bs g h f.hex
groups-lack (g ∷ i ∷ gs) c dotted bs f (inl h) =
    ap (has_byte c) h.2 ∙ has-append c h.0 (58 ∷ h.1) (group-lacks c h.0 g h.3 f.hex) (or_from (58 == c) (has_byte c h.1) f.colon (groups-lack (i ∷ gs) c dotted h.1 f h.4))
groups-lack (g ∷ i ∷ gs) c dotted bs f (inr h) = ipv4-lacks c bs (g * 65536 + i) h.2 f.digit f.dot

side-lacks : (gs : List ℕ) (c : ℕ) (dotted : Bool) (bs : List ℕ) → IsForeign c → IsSide dotted bs gs → has_byte c bs ≡ false
side-lacks gs c dotted bs f (inl h) = ap (has_byte c) h.0
side-lacks gs c dotted bs f (inr h) = groups-lack gs c dotted bs f h

pub ipv6-lacks : (c : ℕ) (bs : List ℕ) (n : ℕ) → IsIpv6 bs n → IsForeign c → has_byte c bs ≡ false
ipv6-lacks c bs n (inl h) f = groups-lack h.groups c true bs f h.text
ipv6-lacks c bs n (inr h) f =
    ap (has_byte c) h.text ∙ has-append c h.before (58 ∷ 58 ∷ h.behind) (side-lacks h.front c false h.before f h.front_is)
    (or_from (58 == c) (has_byte c (58 ∷ h.behind)) f.colon (or_from (58 == c) (has_byte c h.behind) f.colon (side-lacks h.back c true h.behind f h.back_is)))

-- more than two groups have a `:`
groups-colon : (gs : List ℕ) (dotted : Bool) (bs : List ℕ) → IsGroups dotted bs gs → 2 < length gs → has_byte 58 bs ≡ true
groups-colon [] dotted bs h l = absurd h
groups-colon (g ∷ []) dotted bs h l = absurd (omega arith)
groups-colon (g ∷ i ∷ gs) dotted bs (inl h) l = ap (has_byte 58) h.2 ∙ has-there 58 h.0 h.1
groups-colon (g ∷ i ∷ gs) dotted bs (inr h) l = absurd (omega (arith, ap length h.1))

pub ipv6-colon : (bs : List ℕ) (n : ℕ) → IsIpv6 bs n → has_byte 58 bs ≡ true
ipv6-colon bs n (inl h) = groups-colon h.groups true bs h.text (omega (arith, h.eight))
ipv6-colon bs n (inr h) = ap (has_byte 58) h.text ∙ has-there 58 h.before (58 ∷ h.behind)

pub ipv6-nonempty : (bs : List ℕ) (n : ℕ) → IsIpv6 bs n → 0 < length bs
ipv6-nonempty bs n (inl h) = groups-nonempty true bs h.groups h.text
ipv6-nonempty bs n (inr h) = omega (arith, ap length h.text, length-append h.before (58 ∷ 58 ∷ h.behind))

-- ---- a group that is printed

hex-digit : (d : ℕ) → d < 16 → hex_value (hex_digit d) ≡ Some d
hex-digit d h = elim (cases_lt d 10) [
  | inl l ↦ ap hex_value (cond-true (nat_lt d 10) _ _ (lt-ltb d 10 l)) ∙ low d l
  | inr l ↦ ap hex_value (cond-false (nat_lt d 10) _ _ (le-ltb d 10 l)) ∙ high d l h
]
  where
    low : (d : ℕ) → d < 10 → hex_value (48 + d) ≡ Some d
    low d l = grind (arith, nat_tests)

    high : (d : ℕ) → 10 ≤ d → d < 16 → hex_value (87 + d) ≡ Some d
    high d l h = grind (arith, nat_tests)

hex-next : (v d n : ℕ) (bs : List ℕ) → d < 16 → hex_worth (v * 16 + d) bs ≡ Some n → hex_worth v (hex_digit d ∷ bs) ≡ Some n
hex-next v d n bs h k = hex-step v d n (hex_digit d) bs (hex-digit d h) k

is-one : (a n : ℕ) → a < 16 → n ≡ a → IsGroup (hex_digit a ∷ []) n
is-one a n h e = record {
  nonempty = omega arith;
  short = omega arith;
  value = hex-next 0 a n [] h (ap Some (omega arith));
}

is-two : (a b n : ℕ) → a < 16 → b < 16 → n ≡ a * 16 + b → IsGroup (hex_digit a ∷ hex_digit b ∷ []) n
is-two a b n h i e = record {
  nonempty = omega arith;
  short = omega arith;
  value = let last : (0 * 16 + a) * 16 + b ≡ n = omega arith in hex-next 0 a n (hex_digit b ∷ []) h (hex-next (0 * 16 + a) b n [] i (ap Some last));
}

is-three : (a b c n : ℕ) → a < 16 → b < 16 → c < 16 → n ≡ (a * 16 + b) * 16 + c → IsGroup (hex_digit a ∷ hex_digit b ∷ hex_digit c ∷ []) n
is-three a b c n h i j e = record {
  nonempty = omega arith;
  short = omega arith;
  value = let last : ((0 * 16 + a) * 16 + b) * 16 + c ≡ n = omega arith in
      hex-next 0 a n (hex_digit b ∷ hex_digit c ∷ []) h (hex-next (0 * 16 + a) b n (hex_digit c ∷ []) i (hex-next ((0 * 16 + a) * 16 + b) c n [] j (ap Some last)));
}

is-four : (a b c d n : ℕ) → a < 16 → b < 16 → c < 16 → d < 16 → n ≡ ((a * 16 + b) * 16 + c) * 16 + d
    → IsGroup (hex_digit a ∷ hex_digit b ∷ hex_digit c ∷ hex_digit d ∷ []) n
is-four a b c d n h i j k e = record {
  nonempty = omega arith;
  short = omega arith;
  value = let last : (((0 * 16 + a) * 16 + b) * 16 + c) * 16 + d ≡ n = omega arith in
      hex-next 0 a n (hex_digit b ∷ hex_digit c ∷ hex_digit d ∷ []) h (hex-next (0 * 16 + a) b n (hex_digit c ∷ hex_digit d ∷ []) i
      (hex-next ((0 * 16 + a) * 16 + b) c n (hex_digit d ∷ []) j (hex-next (((0 * 16 + a) * 16 + b) * 16 + c) d n [] k (ap Some last))));
}

group-printed : (g : ℕ) → g < 65536 → IsGroup (group_text g) g
unfolding group_text
group-printed g s =
    let P : List ℕ → Type 0 = λ t. IsGroup t g in
    cond_both (nat_lt g 16) _ _ P (λ e. is-one g g (one g e) refl)
    (λ e. cond_both (nat_lt g 256) _ _ P (λ f. is-two (g / 16) (g % 16) g (two g f) (omega arith) (omega arith))
    (λ f. cond_both (nat_lt g 4096) _ _ P (λ k. is-three (g / 256) (g / 16 % 16) (g % 16) g (three g k) (omega arith) (omega arith) (omega arith))
    (λ k. is-four (g / 4096) (g / 256 % 16) (g / 16 % 16) (g % 16) g (omega arith) (omega arith) (omega arith) (omega arith) (omega arith))))
  where
    one : (g : ℕ) → nat_lt g 16 ≡ true → g < 16
    one g e = ltb-true g 16 e

    two : (g : ℕ) → nat_lt g 256 ≡ true → g / 16 < 16
    two g e = omega (arith, ltb-true g 256 e)

    three : (g : ℕ) → nat_lt g 4096 ≡ true → g / 256 < 16
    three g e = omega (arith, ltb-true g 4096 e)

pub group-short : (g : ℕ) → g < 65536 → length (group_text g) ≤ 4
group-short g s = (group-printed g s).short

pub groups-printed : (gs : List ℕ) (dotted : Bool) → AreSmall gs → 0 < length gs → IsGroups dotted (groups_text gs) gs
groups-printed [] dotted s l = absurd (omega arith)
groups-printed (g ∷ []) dotted s l = group-printed g s.0
groups-printed (g ∷ i ∷ gs) dotted s l =
    inl (group_text g, groups_text (i ∷ gs), refl, group-printed g s.0, groups-printed (i ∷ gs) dotted s.1 (omega arith))

side-printed : (gs : List ℕ) (dotted : Bool) → AreSmall gs → IsSide dotted (groups_text gs) gs
side-printed [] dotted s = inl (refl, refl)
side-printed (g ∷ gs) dotted s = inr (groups-printed (g ∷ gs) dotted s (omega arith))

small-take : (k : ℕ) (gs : List ℕ) → AreSmall gs → AreSmall (take k gs)
small-take zero gs s = tt
small-take (suc k) [] s = tt
small-take (suc k) (g ∷ gs) s = (s.0, small-take k gs s.1)

small-drop : (k : ℕ) (gs : List ℕ) → AreSmall gs → AreSmall (drop k gs)
small-drop zero gs s = s
small-drop (suc k) [] s = tt
small-drop (suc k) (g ∷ gs) s = small-drop k gs s.1

-- ---- the longest run

pub zeros-more : (g : ℕ) (gs : List ℕ) → g ≡ 0 → zeros (g ∷ gs) ≡ suc (zeros gs)
zeros-more g gs e = cond-true (g == 0) _ _ (eq-eqb g 0 e) ∙ add-one (zeros gs)

pub zeros-end : (g : ℕ) (gs : List ℕ) → (g ≡ 0 → ⊥) → zeros (g ∷ gs) ≡ 0
zeros-end g gs e = cond-false (g == 0) _ _ (ne_eqb g 0 e)

record IsFront (k : ℕ) (gs : List ℕ) : Type 0 where
  fits : k ≤ length gs
  text : gs ≡ replicate k 0 ++ drop k gs

zeros-is : (gs : List ℕ) → IsFront (zeros gs) gs
zeros-is [] = record { fits = omega arith; text = refl }
zeros-is (g ∷ gs) = elim (cases_eq g 0) [
  | inl e ↦
      let r = zeros-is gs in
      let more : IsFront (suc (zeros gs)) (g ∷ gs) = record {
        fits = omega (arith, r.fits);
        text = ap (λ x. x ∷ gs) e ∙ ap (λ t. 0 ∷ t) r.text;
      } in
      subst (λ (k : ℕ). IsFront k (g ∷ gs)) (sym (zeros-more g gs e)) more
  | inr e ↦
      let none : IsFront 0 (g ∷ gs) = record { fits = omega arith; text = refl } in
      subst (λ (k : ℕ). IsFront k (g ∷ gs)) (sym (zeros-end g gs e)) none
]

record IsRun (gs : List ℕ) (r : ℕ × ℕ) : Type 0 where
  fits : r.0 + r.1 ≤ length gs
  text : drop r.0 gs ≡ replicate r.1 0 ++ drop (r.0 + r.1) gs

drop-one : (k : ℕ) (g : ℕ) (gs : List ℕ) → drop (k + 1) (g ∷ gs) ≡ drop k gs
drop-one k g gs = rw add-one refl

run-is : (gs : List ℕ) → IsRun gs (longest_run gs)
run-is [] = record { fits = omega arith; text = refl }
run-is (g ∷ gs) =
    let r = longest_run gs in
    let h = run-is gs in
    let z = zeros (g ∷ gs) in
    let first = zeros-is (g ∷ gs) in
    let P : ℕ × ℕ → Type 0 = λ p. IsRun (g ∷ gs) p in
    cond_both (nat_le r.1 z) (0, z) (r.0 + 1, r.1) P
    (λ e. here g gs z first)
    (λ e. later g gs r.0 r.1 h)
  where
    here : (g : ℕ) (gs : List ℕ) (z : ℕ) → IsFront z (g ∷ gs) → IsRun (g ∷ gs) (0, z)
    here g gs z h =
        let same : z ≡ 0 + z = omega arith in
        record { fits = omega (arith, h.fits); text = h.text ∙ ap (λ k. replicate z 0 ++ drop k (g ∷ gs)) same }

    later : (g : ℕ) (gs : List ℕ) (a k : ℕ) → IsRun gs (a, k) → IsRun (g ∷ gs) (a + 1, k)
    later g gs a k h =
        let same : (a + k) + 1 ≡ (a + 1) + k = omega arith in
        record {
          fits = omega (arith, h.fits);
          text = drop-one a g gs ∙ h.text ∙ ap (λ t. replicate k 0 ++ t) (sym (drop-one (a + k) g gs) ∙ ap (λ m. drop m (g ∷ gs)) same);
        }

grouped-append : (xs ys : List ℕ) (v : ℕ) → grouped v (xs ++ ys) ≡ grouped (grouped v xs) ys
grouped-append [] ys v = refl
grouped-append (x ∷ xs) ys v = grouped-append xs ys (v * 65536 + x)

grouped-zeros : (k v : ℕ) → grouped v (replicate k 0) ≡ v * 65536 ^ k
grouped-zeros zero v = omega arith
grouped-zeros (suc k) v =
    let r = grouped-zeros k (v * 65536 + 0) in
    let e = ap (λ z. v * z) (pow-suc 65536 k) in
    omega (arith, r, e)

grouped-from : (gs : List ℕ) (v : ℕ) → grouped v gs ≡ v * 65536 ^ length gs + grouped 0 gs
grouped-from [] v = omega arith
grouped-from (g ∷ gs) v =
    let p = grouped-from gs (v * 65536 + g) in
    let q = grouped-from gs (0 * 65536 + g) in
    let e = ap (λ z. v * z) (pow-suc 65536 (length gs)) in
    omega (arith, p, q, e)

run-value : (gs : List ℕ) (r : ℕ × ℕ) → IsRun gs r → length gs ≡ 8
    → grouped 0 gs ≡ grouped 0 (take r.0 gs) * 65536 ^ (8 - length (take r.0 gs)) + grouped 0 (drop (r.0 + r.1) gs)
run-value gs r h eight =
    let front : List ℕ = take r.0 gs in
    let back : List ℕ = drop (r.0 + r.1) gs in
    let f : ℕ = grouped 0 front in
    let split : grouped 0 gs ≡ grouped f (replicate r.1 0 ++ back) =
    ap (grouped 0) (sym (take-append-drop r.0 gs)) ∙ grouped-append front (drop r.0 gs) 0 ∙ ap (grouped f) h.text in
    let run : grouped f (replicate r.1 0 ++ back) ≡ grouped (f * 65536 ^ r.1) back =
    grouped-append (replicate r.1 0) back f ∙ ap (λ v. grouped v back) (grouped-zeros r.1 f) in
    let end = grouped-from back (f * 65536 ^ r.1) in
    let long : length front ≡ r.0 = length-take-le r.0 gs (omega (arith, h.fits)) in
    let rest : r.1 + length back ≡ 8 - length front = omega (arith, h.fits, long, eight, length-drop (r.0 + r.1) gs) in
    let power : 65536 ^ r.1 * 65536 ^ length back ≡ 65536 ^ (8 - length front) = sym (pow-add 65536 r.1 (length back)) ∙ ap (λ m. 65536 ^ m) rest in
    let scaled : f * (65536 ^ r.1 * 65536 ^ length back) ≡ f * 65536 ^ (8 - length front) = ap (λ z. f * z) power in
    split ∙ run ∙ end ∙ omega (arith, scaled)

groups-of-small : (n : ℕ) → n < 2 ^ 128 → AreSmall (groups_of n)
groups-of-small n h = (omega arith, (omega arith, (omega arith, (omega arith, (omega arith, (omega arith, (omega arith, (omega arith, tt))))))))

groups-of-value : (n : ℕ) → n < 2 ^ 128 → n ≡ grouped 0 (groups_of n)
groups-of-value n h = omega arith

shortened-is : (n : ℕ) (gs : List ℕ) (r : ℕ × ℕ) → IsRun gs r → length gs ≡ 8 → AreSmall gs → n ≡ grouped 0 gs → IsIpv6 (shortened gs r) n
shortened-is n gs r h eight s e =
    let P : List ℕ → Type 0 = λ t. IsIpv6 t n in
    cond_both (nat_le 2 r.1) _ _ P
    (λ two. let l : 2 ≤ r.1 = leb-true 2 r.1 two in inr (record {
      before = groups_text (take r.0 gs);
      behind = groups_text (drop (r.0 + r.1) gs);
      text = refl;
      front = take r.0 gs;
      back = drop (r.0 + r.1) gs;
      front_is = side-printed (take r.0 gs) false (small-take r.0 gs s);
      back_is = side-printed (drop (r.0 + r.1) gs) true (small-drop (r.0 + r.1) gs s);
      fewer = omega (arith, l, h.fits, eight, length-take-le r.0 gs (omega (arith, h.fits)), length-drop (r.0 + r.1) gs);
      value = e ∙ run-value gs r h eight;
    }))
    (λ two. inl (record { groups = gs; text = groups-printed gs true s (omega (arith, eight)); eight = eight; value = e }))

-- the text that is printed is the address's
pub ipv6-printed : (n : ℕ) → n < 2 ^ 128 → IsIpv6 (ipv6_text n) n
unfolding ipv6_text
ipv6-printed n h = shortened-is n (groups_of n) (longest_run (groups_of n)) (run-is (groups_of n)) refl (groups-of-small n h) (groups-of-value n h)
