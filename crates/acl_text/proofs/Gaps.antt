-- IPv6 addresses as text: eight groups, or fewer with `::`.
use Rattle.std.proofs.Common.{◌≡◌, ℕ, ◌+◌, ◌-◌, ◌*◌, ◌^◌, ◌<◌, ◌≤◌, Bool, true, false, ◌&&◌, ◌==◌, nat_le, List, [], ◌∷◌, ◌++◌, length, get_or, drop, Option, None, Some, option_map, inl, inr, refl, ap, sym, subst, ◌∙◌, arith}
use Rattle.std.specs.Option.{option_map_or}
use Rattle.std.proofs.lemmas.Bool.{cond-true, cond-false, and_parts, leb-true, le-leb, eqb-true, eq-eqb, false_from_ne_true, or_parts, eqb-false}
use Rattle.std.proofs.lemmas.Option.{none-some, same_Some, some_pair_parts}
use Rattle.std.proofs.lemmas.List.{length-append, get_or_append_left}
use Rattle.acl_text.specs.Cuts.{has_byte}
use Rattle.acl_text.specs.Ipv6.{IsGroups, IsSide, grouped, IsWhole, IsShort, IsIpv6, groups_in, side_in, gap_at, whole_in, short_in, ipv6_in}
use Rattle.acl_packet.proofs.ChoiceLaws.{chosen, guarded}
use Rattle.acl_text.proofs.OptionStepLaws.{bound, bound_on, mapped}
use Rattle.acl_text.proofs.Dotted.{ipv4-lacks, ipv4-nonempty}
use Rattle.acl_text.proofs.Groups.{group-lacks, groups-again, groups-read, side-found, side-again}

-- ---- where the first `::` is

gap-further : (b : ℕ) (bs xs ys : List ℕ) (p : List ℕ × List ℕ) → (b ∷ p.0 ≡ xs) → (p.1 ≡ ys) → bs ≡ p.0 ++ 58 ∷ 58 ∷ p.1 → b ∷ bs ≡ xs ++ 58 ∷ 58 ∷ ys
gap-further b bs xs ys p e f h = ap (λ t. b ∷ t) h ∙ ap (λ t. t ++ 58 ∷ 58 ∷ p.1) e ∙ ap (λ t. xs ++ 58 ∷ 58 ∷ t) f

first-of : (bs : List ℕ) → get_or bs 0 0 ≡ 58 → bs ≡ 58 ∷ drop 1 bs
first-of [] h = absurd (omega arith)
first-of (b ∷ bs) h = ap (λ x. x ∷ bs) h

gap-here : (b : ℕ) (bs xs ys : List ℕ) → b ≡ 58 → get_or bs 0 0 ≡ 58 → [] ≡ xs → drop 1 bs ≡ ys → b ∷ bs ≡ xs ++ 58 ∷ 58 ∷ ys
gap-here b bs xs ys e h f g = ap (λ x. x ∷ bs) e ∙ ap (λ t. 58 ∷ t) (first-of bs h ∙ ap (λ t. 58 ∷ t) g) ∙ ap (λ t. t ++ 58 ∷ 58 ∷ ys) f

gap-found : (bs xs ys : List ℕ) → gap_at bs ≡ Some (xs, ys) → bs ≡ xs ++ 58 ∷ 58 ∷ ys
gap-found [] xs ys e = absurd (none-some (xs, ys) e)
gap-found (b ∷ bs) xs ys e =
    let step : List ℕ × List ℕ → List ℕ × List ℕ = λ p. (b ∷ p.0, p.1) in
    elim (chosen (b == 58 && get_or bs 0 0 == 58) (Some ([], drop 1 bs)) (option_map step (gap_at bs)) (Some (xs, ys)) e) [
      | inl h ↦
          let p = some_pair_parts [] xs (drop 1 bs) ys h.1 in
          let t = and_parts (b == 58) (get_or bs 0 0 == 58) h.0 in
          gap-here b bs xs ys (eqb-true b 58 t.0) (eqb-true (get_or bs 0 0) 58 t.1) p.0 p.1
      | inr h ↦
          let q = mapped step (gap_at bs) (xs, ys) h.1 in
          gap-further b bs xs ys q.0 (ap (λ p. p.0) q.2) (ap (λ p. p.1) q.2) (gap-found bs q.0.0 q.0.1 q.1)
    ]

-- a text without `::` that does not end in `:`
Clean : List ℕ → Type 0
Clean [] = Unit {0}
Clean (b ∷ bs) = (b ≡ 58 → (0 < length bs) × (get_or bs 0 0 ≡ 58 → ⊥)) × Clean bs

-- the test for `::` fails in front of the rest
no-gap : (b c : ℕ) → (b ≡ 58 → c ≡ 58 → ⊥) → (b == 58 && c == 58) ≡ false
no-gap b c h = false_from_ne_true (b == 58 && c == 58) (λ e. let t = and_parts (b == 58) (c == 58) e in h (eqb-true b 58 t.0) (eqb-true c 58 t.1))

gap-behind : (xs ys : List ℕ) → Clean xs → gap_at (xs ++ 58 ∷ 58 ∷ ys) ≡ Some (xs, ys)
unfolding Clean
gap-behind [] ys h = refl
gap-behind (x ∷ xs) ys h =
    let step : List ℕ × List ℕ → List ℕ × List ℕ = λ p. (x ∷ p.0, p.1) in
    cond-false (x == 58 && get_or (xs ++ 58 ∷ 58 ∷ ys) 0 0 == 58) _ _
    (no-gap x (get_or (xs ++ 58 ∷ 58 ∷ ys) 0 0) (λ e f. (h.0 e).1 (sym (get_or_append_left xs (58 ∷ 58 ∷ ys) 0 0 (h.0 e).0) ∙ f)))
    ∙ ap (option_map step) (gap-behind xs ys h.1)

gap-none : (xs : List ℕ) → Clean xs → gap_at xs ≡ None
unfolding Clean
gap-none [] h = refl
gap-none (x ∷ xs) h =
    let step : List ℕ × List ℕ → List ℕ × List ℕ = λ p. (x ∷ p.0, p.1) in
    cond-false (x == 58 && get_or xs 0 0 == 58) _ _ (no-gap x (get_or xs 0 0) (λ e f. (h.0 e).1 f)) ∙ ap (option_map step) (gap-none xs h.1)

lacking-first : (c : ℕ) (xs : List ℕ) → has_byte c xs ≡ false → 0 < length xs → get_or xs 0 0 ≡ c → ⊥
lacking-first c [] h l e = omega arith
lacking-first c (x ∷ xs) h l e = eqb-false x c (or_parts (x == c) (has_byte c xs) h).0 e

clean-lacking : (xs : List ℕ) → has_byte 58 xs ≡ false → Clean xs
unfolding Clean
clean-lacking [] h = tt
clean-lacking (x ∷ xs) h =
    let p = or_parts (x == 58) (has_byte 58 xs) h in (λ e. absurd (eqb-false x 58 p.0 e), clean-lacking xs p.1)

clean-join : (xs ys : List ℕ) → has_byte 58 xs ≡ false → 0 < length ys → (get_or ys 0 0 ≡ 58 → ⊥) → Clean ys → Clean (xs ++ 58 ∷ ys)
unfolding Clean
clean-join [] ys h l n k = (λ e. (l, n), k)
clean-join (x ∷ xs) ys h l n k =
    let p = or_parts (x == 58) (has_byte 58 xs) h in (λ e. absurd (eqb-false x 58 p.0 e), clean-join xs ys p.1 l n k)

record IsClean (bs : List ℕ) : Type 0 where
  clean : Clean bs
  nonempty : 0 < length bs
  first : get_or bs 0 0 ≡ 58 → ⊥

clean-alone : (bs : List ℕ) → has_byte 58 bs ≡ false → 0 < length bs → IsClean bs
clean-alone bs h l = record { clean = clean-lacking bs h; nonempty = l; first = lacking-first 58 bs h l }

clean-joined : (bs xs ys : List ℕ) → bs ≡ xs ++ 58 ∷ ys → has_byte 58 xs ≡ false → 0 < length xs → IsClean ys → IsClean bs
clean-joined bs xs ys e h l k =
    let joined : IsClean (xs ++ 58 ∷ ys) = record {
      clean = clean-join xs ys h k.nonempty k.first k.clean;
      nonempty = omega (arith, length-append xs (58 ∷ ys));
      first = λ f. lacking-first 58 xs h l (sym (get_or_append_left xs (58 ∷ ys) 0 0 l) ∙ f);
    } in
    subst (λ (t : List ℕ). IsClean t) (sym e) joined

groups-clean : (gs : List ℕ) (dotted : Bool) (bs : List ℕ) → IsGroups dotted bs gs → IsClean bs
groups-clean [] dotted bs h = absurd h
groups-clean (g ∷ []) dotted bs h = clean-alone bs (group-lacks 58 bs g h refl) h.nonempty
groups-clean (g ∷ i ∷ gs) dotted bs (inl h) =
    clean-joined bs h.0 h.1 h.2 (group-lacks 58 h.0 g h.3 refl) h.3.nonempty (groups-clean (i ∷ gs) dotted h.1 h.4)
groups-clean (g ∷ i ∷ gs) dotted bs (inr h) = clean-alone bs (ipv4-lacks 58 bs _ h.2 refl refl) (ipv4-nonempty bs _ h.2)

side-clean : (gs : List ℕ) (dotted : Bool) (bs : List ℕ) → IsSide dotted bs gs → Clean bs
unfolding Clean
side-clean gs dotted bs (inl h) = subst (λ (t : List ℕ). Clean t) (sym h.0) tt
side-clean gs dotted bs (inr h) = (groups-clean gs dotted bs h).clean

-- ---- addresses

whole-is : (bs : List ℕ) (n : ℕ) → whole_in bs ≡ Some n → IsWhole bs n
unfolding whole_in
whole-is bs n e =
    let r = bound (groups_in 8 true 0 bs) _ n e in
    let p = guarded (r.0.0 == 0) (Some r.0.1) n r.2 in
    let m = groups-read true bs r.0 r.1 in
    let none : r.0.0 ≡ 0 = eqb-true r.0.0 0 p.0 in
    record { groups = m.0; text = m.1; eight = omega (arith, m.2, none); value = sym (same_Some r.0.1 n p.1) ∙ m.3 }

whole-in : (bs : List ℕ) (n : ℕ) → IsWhole bs n → whole_in bs ≡ Some n
unfolding whole_in
whole-in bs n h =
    let none : 8 - length h.groups ≡ 0 = omega (arith, h.eight) in
    bound_on _ (8 - length h.groups, grouped 0 h.groups) _ n (groups-again h.groups 8 true 0 bs h.text (omega (arith, h.eight)))
    (cond-true (8 - length h.groups == 0) _ _ (eq-eqb (8 - length h.groups) 0 none) ∙ ap Some (sym h.value))

short-is : (bs before behind : List ℕ) (n : ℕ) → bs ≡ before ++ 58 ∷ 58 ∷ behind → short_in before behind ≡ Some n → IsShort bs n
unfolding short_in
short-is bs before behind n t e =
    let f = bound (side_in false before) _ n e in
    let b = bound (side_in true behind) _ n f.2 in
    let p = guarded (nat_le 9 (f.0.0 + b.0.0)) (Some (f.0.1 * 65536 ^ f.0.0 + b.0.1)) n b.2 in
    let x = side-found false before f.0 f.1 in
    let y = side-found true behind b.0 b.1 in
    let nine : 9 ≤ f.0.0 + b.0.0 = leb-true 9 (f.0.0 + b.0.0) p.0 in
    let left : f.0.0 ≡ 8 - length x.groups = omega (arith, x.counted) in
    record {
      before = before;
      behind = behind;
      text = t;
      front = x.groups;
      back = y.groups;
      front_is = x.text;
      back_is = y.text;
      fewer = omega (arith, x.counted, y.counted, nine);
      value = sym (same_Some _ n p.1) ∙ number f.0.1 (grouped 0 x.groups) f.0.0 (8 - length x.groups) b.0.1 (grouped 0 y.groups) x.number left y.number;
    }
  where
    number : (a a' k k' b b' : ℕ) → a ≡ a' → k ≡ k' → b ≡ b' → a * 65536 ^ k + b ≡ a' * 65536 ^ k' + b'
    number a a' k k' b b' d e f = cc

short-in : (bs : List ℕ) (n : ℕ) (h : IsShort bs n) → short_in h.before h.behind ≡ Some n
unfolding short_in
short-in bs n h =
    bound_on _ (8 - length h.front, grouped 0 h.front) _ n (side-again h.front false h.before h.front_is (omega (arith, h.fewer)))
    (bound_on _ (8 - length h.back, grouped 0 h.back) _ n (side-again h.back true h.behind h.back_is (omega (arith, h.fewer)))
    (cond-true (nat_le 9 ((8 - length h.front) + (8 - length h.back))) _ _ (le-leb 9 ((8 - length h.front) + (8 - length h.back)) (omega (arith, h.fewer))) ∙ ap Some (sym h.value)))

ipv6-step : (bs : List ℕ) (n : ℕ) (o : Option (List ℕ × List ℕ)) → gap_at bs ≡ o
    → option_map_or {U = Option ℕ} (λ p. short_in p.0 p.1) o (whole_in bs) ≡ Some n → IsIpv6 bs n
ipv6-step bs n None q e = inl (whole-is bs n e)
ipv6-step bs n (Some p) q e = inr (short-is bs p.0 p.1 n (gap-found bs p.0 p.1 q) e)

pub ipv6-is : (bs : List ℕ) (n : ℕ) → ipv6_in bs ≡ Some n → IsIpv6 bs n
unfolding ipv6_in
ipv6-is bs n e = ipv6-step bs n (gap_at bs) refl e

pub ipv6-in : (bs : List ℕ) (n : ℕ) → IsIpv6 bs n → ipv6_in bs ≡ Some n
unfolding ipv6_in
ipv6-in bs n (inl h) =
    ap (λ o. option_map_or {U = Option ℕ} (λ p. short_in p.0 p.1) o (whole_in bs)) (gap-none bs (groups-clean h.groups true bs h.text).clean)
    ∙ whole-in bs n h
ipv6-in bs n (inr h) =
    ap (λ o. option_map_or {U = Option ℕ} (λ p. short_in p.0 p.1) o (whole_in bs))
    (ap gap_at h.text ∙ gap-behind h.before h.behind (side-clean h.front false h.before h.front_is))
    ∙ short-in bs n h
