-- IPv6 addresses as text: what is read is an address's text, and an address's text is read.
use Rattle.std.proofs.Common.{◌≡◌, ℕ, zero, suc, ◌+◌, ◌-◌, ◌*◌, ◌/◌, ◌%◌, ◌^◌, ◌<◌, ◌≤◌, Bool, true, false, cond, ◌&&◌, ◌==◌, nat_lt, nat_le, List, [], ◌∷◌, ◌++◌, length, Option, None, Some, option_map, inl, inr, refl, ap, sym, subst, ◌∙◌, arith, lit<}
use Rattle.std.proofs.Math.Nat.{pow-le-pow_right}
use Rattle.std.specs.Option.{option_map_or}
use Rattle.std.proofs.lemmas.Bool.{cond-true, cond-false, and_parts, and_from, or_from, or_right, or_left, leb-true, le-leb, ltb-true, lt-ltb, eqb-true, eq-eqb, ne_eqb, both_ways}
use Rattle.std.proofs.lemmas.Bool.Decides.{nat_tests}
use Rattle.std.proofs.lemmas.Option.{none-some, same_Some}
use Rattle.std.proofs.lemmas.List.{length-append, nil_from_length}
use Rattle.std.proofs.lemmas.Nat.{pow-add}
use Rattle.acl_text.specs.OptionSteps.{◌>>=◌}
use Rattle.acl_text.specs.Cuts.{cut_at, has_byte}
use Rattle.acl_text.specs.Ipv4.{IsIpv4, ipv4_in}
use Rattle.acl_text.specs.Ipv6.{hex_value, hex_worth, IsGroup, IsGroups, IsSide, grouped, group_in, last_in, groups_in, side_in}
use Rattle.acl_packet.proofs.ChoiceLaws.{chosen, guarded}
use Rattle.acl_text.proofs.OptionStepLaws.{bound, bound_on, mapped}
use Rattle.acl_text.proofs.CutLaws.{cut-found, cut-again, cut-none}
use Rattle.acl_text.proofs.Dotted.{ipv4-is, ipv4-in, ipv4-lacks, ipv4-nonempty}
use Rattle.acl_text.proofs.GroupSteps.{step_more, step_last}

none-unless : {A : Type 0} (o : Option A) → ((x : A) → o ≡ Some x → ⊥) → o ≡ None
none-unless None h = refl
none-unless (Some x) h = absurd (h x refl)

-- ---- groups

hex-small : (b d : ℕ) → hex_value b ≡ Some d → d < 16
hex-small b d e = grind (arith, nat_tests)

-- one digit more
pub hex-step : (v d n b : ℕ) (bs : List ℕ) → hex_value b ≡ Some d → hex_worth (v * 16 + d) bs ≡ Some n → hex_worth v (b ∷ bs) ≡ Some n
hex-step v d n b bs h k = bound_on (hex_value b) d _ n h k

hex-below : (v i n : ℕ) (bs : List ℕ) → v < 16 ^ i → hex_worth v bs ≡ Some n → n < 16 ^ (i + length bs)
hex-below v i n [] h e =
    let s : v ≡ n = same_Some v n e in
    let same : i ≡ i + 0 = omega arith in
    let P : ℕ → Type 0 = λ k. n < 16 ^ k in
    let below : n < 16 ^ i = omega arith in
    subst P same below
hex-below v i n (b ∷ bs) h e =
    let p = bound (hex_value b) _ n e in
    let small = hex-small b p.0 p.1 in
    let next : v * 16 + p.0 < 16 ^ (i + 1) = omega (arith, pow-add 16 i 1) in
    let r = hex-below (v * 16 + p.0) (i + 1) n bs next p.2 in
    let same : (i + 1) + length bs ≡ i + suc (length bs) = omega arith in
    let P : ℕ → Type 0 = λ k. n < 16 ^ k in
    subst P same r

pub group-small : (bs : List ℕ) (n : ℕ) → IsGroup bs n → n < 65536
group-small bs n h =
    let below : n < 16 ^ (0 + length bs) = hex-below 0 0 n bs (lit< tt) h.value in
    let wide : 16 ^ length bs ≤ 16 ^ 4 = pow-le-pow_right {n = 16} (omega arith) {i = length bs} {j = 4} h.short in
    let same : 16 ^ (0 + length bs) ≡ 16 ^ length bs = ap (λ k. 16 ^ k) (omega arith) in
    omega (arith, below, wide, same)

pub group-is : (bs : List ℕ) (n : ℕ) → group_in bs ≡ Some n → IsGroup bs n
unfolding group_in
group-is bs n e =
    let p = guarded (nat_lt 0 (length bs) && nat_le (length bs) 4) (hex_worth 0 bs) n e in
    let t = and_parts (nat_lt 0 (length bs)) (nat_le (length bs) 4) p.0 in
    record { nonempty = ltb-true 0 (length bs) t.0; short = leb-true (length bs) 4 t.1; value = p.1 }

pub group-in : (bs : List ℕ) (n : ℕ) → IsGroup bs n → group_in bs ≡ Some n
unfolding group_in
group-in bs n h =
    cond-true (nat_lt 0 (length bs) && nat_le (length bs) 4) _ _
    (and_from (nat_lt 0 (length bs)) (nat_le (length bs) 4) (lt-ltb 0 (length bs) h.nonempty) (le-leb (length bs) 4 h.short))
    ∙ h.value

hex-lacks : (c v n : ℕ) (bs : List ℕ) → hex_worth v bs ≡ Some n → hex_value c ≡ None → has_byte c bs ≡ false
hex-lacks c v n [] e h = refl
hex-lacks c v n (b ∷ bs) e h =
    let p = bound (hex_value b) _ n e in
    or_from (b == c) (has_byte c bs) (ne_eqb b c (λ s. none-some p.0 (sym h ∙ ap hex_value (sym s) ∙ p.1))) (hex-lacks c (v * 16 + p.0) n bs p.2 h)

pub group-lacks : (c : ℕ) (bs : List ℕ) (n : ℕ) → IsGroup bs n → hex_value c ≡ None → has_byte c bs ≡ false
group-lacks c bs n h e = hex-lacks c 0 n bs h.value e

pub has-there : (c : ℕ) (xs ys : List ℕ) → has_byte c (xs ++ c ∷ ys) ≡ true
has-there c [] ys = or_left (c == c) (has_byte c ys) (eq-eqb c c refl)
has-there c (x ∷ xs) ys = or_right (x == c) (has_byte c (xs ++ c ∷ ys)) (has-there c xs ys)

-- an IPv4 address is no group
ipv4-no-group : (bs : List ℕ) (n : ℕ) → IsIpv4 bs n → group_in bs ≡ None
ipv4-no-group bs n h = none-unless (group_in bs) (λ g e.
    both_ways (has_byte 46 bs) (group-lacks 46 bs g (group-is bs g e) refl) (ap (has_byte 46) h.text ∙ has-there 46 h.first _))

-- ---- several groups

record IsRead (left : ℕ) (dotted : Bool) (value : ℕ) (bs : List ℕ) (r : ℕ × ℕ) : Type 0 where
  groups : List ℕ
  text : IsGroups dotted bs groups
  counted : length groups + r.0 ≡ left
  number : r.1 ≡ grouped value groups

groups-cons : (dotted : Bool) (bs xs ys : List ℕ) (g : ℕ) (gs : List ℕ) → bs ≡ xs ++ 58 ∷ ys → IsGroup xs g → IsGroups dotted ys gs → IsGroups dotted bs (g ∷ gs)
groups-cons dotted bs xs ys g [] e h k = absurd k
groups-cons dotted bs xs ys g (i ∷ gs) e h k = inl (xs, ys, e, h, k)

last-dotted : (left : ℕ) (value a : ℕ) (dotted : Bool) (bs : List ℕ) (r : ℕ × ℕ) → dotted ≡ true → 0 < left → IsIpv4 bs a → (left - 1, value * 2 ^ 32 + a) ≡ r → IsRead (suc left) dotted value bs r
last-dotted left value a dotted bs r d l h e =
    let P : ℕ → Type 0 = λ m. IsIpv4 bs m in
    let same : a ≡ a / 65536 * 65536 + a % 65536 = omega arith in
    let left_is : left - 1 ≡ r.0 = ap (λ p. p.0) e in
    let value_is : value * 2 ^ 32 + a ≡ r.1 = ap (λ p. p.1) e in
    record {
      groups = a / 65536 ∷ a % 65536 ∷ [];
      text = inr (d, refl, subst P same h, omega arith);
      counted = omega (arith, left_is);
      number = omega (arith, value_is);
    }

last-step : (left : ℕ) (dotted : Bool) (value : ℕ) (bs : List ℕ) (r : ℕ × ℕ) (o : Option ℕ) → group_in bs ≡ o
    → option_map_or {U = Option (ℕ × ℕ)} (λ g. Some (left, value * 65536 + g)) o
    (cond (dotted && nat_lt 0 left) (option_map {U = ℕ × ℕ} (λ a. (left - 1, value * 2 ^ 32 + a)) (ipv4_in bs)) None) ≡ Some r
    → IsRead (suc left) dotted value bs r
last-step left dotted value bs r None q e =
    let p = guarded (dotted && nat_lt 0 left) _ r e in
    let t = and_parts dotted (nat_lt 0 left) p.0 in
    let m = mapped _ (ipv4_in bs) r p.1 in
    last-dotted left value m.0 dotted bs r t.0 (ltb-true 0 left t.1) (ipv4-is bs m.0 m.1) m.2
last-step left dotted value bs r (Some g) q e =
    let s : (left, value * 65536 + g) ≡ r = same_Some _ r e in
    let left_is : left ≡ r.0 = ap (λ p. p.0) s in
    let value_is : value * 65536 + g ≡ r.1 = ap (λ p. p.1) s in
    record { groups = g ∷ []; text = group-is bs g q; counted = omega (arith, left_is); number = sym value_is }

last-found : (left : ℕ) (dotted : Bool) (value : ℕ) (bs : List ℕ) (r : ℕ × ℕ) → last_in left dotted value bs ≡ Some r → IsRead (suc left) dotted value bs r
unfolding last_in
last-found left dotted value bs r e = last-step left dotted value bs r (group_in bs) refl e

groups-step : (left : ℕ) (dotted : Bool) (value : ℕ) (bs : List ℕ) (r : ℕ × ℕ) (o : Option (List ℕ × List ℕ)) → cut_at 58 bs ≡ o
    → ((v : ℕ) (ys : List ℕ) → groups_in left dotted v ys ≡ Some r → IsRead left dotted v ys r)
    → option_map_or {U = Option (ℕ × ℕ)} (λ p. group_in p.0 >>= (λ g. groups_in left dotted (value * 65536 + g) p.1)) o (last_in left dotted value bs) ≡ Some r
    → IsRead (suc left) dotted value bs r
groups-step left dotted value bs r None q more e = last-found left dotted value bs r e
groups-step left dotted value bs r (Some p) q more e =
    let g = bound (group_in p.0) _ r e in
    let m = more (value * 65536 + g.0) p.1 g.2 in
    record {
      groups = g.0 ∷ m.groups;
      text = groups-cons dotted bs p.0 p.1 g.0 m.groups (cut-found 58 bs p.0 p.1 q).0 (group-is p.0 g.0 g.1) m.text;
      counted = omega (arith, m.counted);
      number = m.number;
    }

groups-found : (left : ℕ) (dotted : Bool) (value : ℕ) (bs : List ℕ) (r : ℕ × ℕ) → groups_in left dotted value bs ≡ Some r → IsRead left dotted value bs r
unfolding groups_in
groups-found zero dotted value bs r e = absurd (none-some r e)
groups-found (suc left) dotted value bs r e =
    groups-step left dotted value bs r (cut_at 58 bs) refl (λ v ys. groups-found left dotted v ys r) e

pub groups-nonempty : (dotted : Bool) (bs gs : List ℕ) → IsGroups dotted bs gs → 0 < length bs
groups-nonempty dotted bs [] h = absurd h
groups-nonempty dotted bs (g ∷ []) h = h.nonempty
groups-nonempty dotted bs (g ∷ i ∷ gs) (inl h) = omega (arith, ap length h.2, length-append h.0 (58 ∷ h.1))
groups-nonempty dotted bs (g ∷ i ∷ gs) (inr h) = ipv4-nonempty bs _ h.2

last-group : (left : ℕ) (dotted : Bool) (value g : ℕ) (bs : List ℕ) → group_in bs ≡ Some g → last_in left dotted value bs ≡ Some (left, value * 65536 + g)
unfolding last_in
last-group left dotted value g bs e =
    ap (λ o. option_map_or {U = Option (ℕ × ℕ)} (λ g. Some (left, value * 65536 + g)) o
    (cond (dotted && nat_lt 0 left) (option_map {U = ℕ × ℕ} (λ a. (left - 1, value * 2 ^ 32 + a)) (ipv4_in bs)) None)) e

last-ipv4 : (left : ℕ) (dotted : Bool) (value a : ℕ) (bs : List ℕ) → dotted ≡ true → 0 < left → IsIpv4 bs a → last_in left dotted value bs ≡ Some (left - 1, value * 2 ^ 32 + a)
unfolding last_in
last-ipv4 left dotted value a bs d l h =
    ap (λ o. option_map_or {U = Option (ℕ × ℕ)} (λ g. Some (left, value * 65536 + g)) o
    (cond (dotted && nat_lt 0 left) (option_map {U = ℕ × ℕ} (λ a. (left - 1, value * 2 ^ 32 + a)) (ipv4_in bs)) None)) (ipv4-no-group bs a h)
    ∙ cond-true (dotted && nat_lt 0 left) _ _ (and_from dotted (nat_lt 0 left) d (lt-ltb 0 left l))
    ∙ ap (option_map {U = ℕ × ℕ} (λ a. (left - 1, value * 2 ^ 32 + a))) (ipv4-in bs a h)

-- how many groups there might have been behind these, and the number of these
abbrev pub read_of : ℕ → ℕ → List ℕ → Option (ℕ × ℕ)
read_of left value gs = Some (left - length gs, grouped value gs)

pair-is : (a b c d : ℕ) → a ≡ c → b ≡ d → ◌≡◌ {A = Option (ℕ × ℕ)} (Some (a, b)) (Some (c, d))
pair-is a b c d e f = cc

pub groups-again : (gs : List ℕ) (left : ℕ) (dotted : Bool) (value : ℕ) (bs : List ℕ) → IsGroups dotted bs gs → length gs ≤ left
    → groups_in left dotted value bs ≡ read_of left value gs
groups-again [] left dotted value bs h l = absurd h
groups-again (g ∷ []) left dotted value bs h l =
    step_last left dotted value bs _ (omega arith) (cut-none 58 bs (group-lacks 58 bs g h refl)) (last-group (left - 1) dotted value g bs (group-in bs g h))
groups-again (g ∷ i ∷ gs) left dotted value bs (inl h) l =
    step_more left dotted value bs h.0 h.1 g _ (omega arith) (ap (cut_at 58) h.2 ∙ cut-again 58 h.0 h.1 (group-lacks 58 h.0 g h.3 refl))
    (group-in h.0 g h.3)
    (groups-again (i ∷ gs) (left - 1) dotted (value * 65536 + g) h.1 h.4 (omega arith) ∙ pair-is _ _ _ _ (omega arith) refl)
groups-again (g ∷ i ∷ gs) left dotted value bs (inr h) l =
    let all : ℕ = g * 65536 + i in
    step_last left dotted value bs _ (omega arith) (cut-none 58 bs (ipv4-lacks 58 bs all h.2 refl refl))
    (last-ipv4 (left - 1) dotted value all bs h.0 (omega arith) h.2
    ∙ pair-is _ _ _ _ (omega (arith, ap length h.1)) (two value g i ∙ ap (λ t. grouped value (g ∷ i ∷ t)) (sym h.1)))
  where
    two : (value g i : ℕ) → value * 2 ^ 32 + (g * 65536 + i) ≡ (value * 65536 + g) * 65536 + i
    two value g i = omega arith

-- ---- one side of `::`

pub record IsSideRead (dotted : Bool) (bs : List ℕ) (r : ℕ × ℕ) : Type 0 where
  pub groups : List ℕ
  pub text : IsSide dotted bs groups
  pub counted : length groups + r.0 ≡ 8
  pub number : r.1 ≡ grouped 0 groups

pub groups-read : (dotted : Bool) (bs : List ℕ) (r : ℕ × ℕ) → groups_in 8 dotted 0 bs ≡ Some r
    → (gs : List ℕ) × IsGroups dotted bs gs × (length gs + r.0 ≡ 8) × (r.1 ≡ grouped 0 gs)
groups-read dotted bs r e = let m = groups-found 8 dotted 0 bs r e in (m.groups, m.text, m.counted, m.number)

pub side-found : (dotted : Bool) (bs : List ℕ) (r : ℕ × ℕ) → side_in dotted bs ≡ Some r → IsSideRead dotted bs r
unfolding side_in
side-found dotted bs r e = elim (chosen (length bs == 0) (Some (8, 0)) (groups_in 8 dotted 0 bs) (Some r) e) [
  | inl h ↦
      let s : (8, 0) ≡ r = same_Some _ r h.1 in
      let left_is : 8 ≡ r.0 = ap (λ p. p.0) s in
      record { groups = []; text = inl (nil_from_length bs (eqb-true (length bs) 0 h.0), refl); counted = omega (arith, left_is); number = sym (ap (λ p. p.1) s) }
  | inr h ↦ let m = groups-read dotted bs r h.1 in record { groups = m.0; text = inr m.1; counted = m.2; number = m.3 }
]

pub side-again : (gs : List ℕ) (dotted : Bool) (bs : List ℕ) → IsSide dotted bs gs → length gs ≤ 8 → side_in dotted bs ≡ read_of 8 0 gs
unfolding side_in
side-again gs dotted bs (inl h) l =
    cond-true (length bs == 0) _ _ (eq-eqb (length bs) 0 (ap length h.0)) ∙ ap (λ t. read_of 8 0 t) (sym h.1)
side-again gs dotted bs (inr h) l =
    cond-false (length bs == 0) _ _ (ne_eqb (length bs) 0 (λ e. not-none (length bs) (groups-nonempty dotted bs gs h) e)) ∙ groups-again gs 8 dotted 0 bs h l
  where
    not-none : (n : ℕ) → 0 < n → n ≡ 0 → ⊥
    not-none n h e = omega arith
