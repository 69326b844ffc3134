-- The table of hexadecimal digits says of each byte what it is worth.
use Rattle.std.proofs.Common.{◌≡◌, ℕ, zero, suc, ◌-◌, ◌<◌, ◌≤◌, Bool, true, false, ◌&&◌, ◌==◌, nat_lt, cond, get_or, Option, None, Some, refl, ap, sym, subst, ◌∙◌, inl, inr, arith, eq-zero-or-pos}
use Rattle.std.proofs.lemmas.Bool.{and_parts, cond-true, cond-false, lt-ltb, le-ltb}
use Rattle.std.proofs.lemmas.Bool.Decides.{Decides-eqb}
use Rattle.acl_text.specs.declared.hex_digits.TheConstants.{VALUES}
use Rattle.acl_text.specs.Ipv6.{hex_value}

-- what a number of the table says
abbrev worth : ℕ → Option ℕ
worth v = cond (nat_lt v 16) (Some v) None

abbrev alike : Option ℕ → Option ℕ → Bool
alike None None = true
alike None (Some b) = false
alike (Some a) None = false
alike (Some a) (Some b) = a == b

same : (o p : Option ℕ) → alike o p ≡ true → o ≡ p
same None None h = refl
same None (Some b) h = absurd (cc)
same (Some a) None h = absurd (cc)
same (Some a) (Some b) h = ap Some ((Decides-eqb a b).0 h)

abbrev tells : ℕ → Bool
tells zero = true
tells (suc n) = alike (worth (get_or VALUES n 0)) (hex_value n) && tells n

told : (m n : ℕ) → tells m ≡ true → n < m → worth (get_or VALUES n 0) ≡ hex_value n
told zero n h l = absurd (omega arith)
told (suc m) n h l =
    let both = and_parts (alike (worth (get_or VALUES m 0)) (hex_value m)) (tells m) h in
    elim (eq-zero-or-pos (m - n)) [
      | inl z ↦ let here : m ≡ n = omega (arith, z, l) in
          subst (λ (i : ℕ). worth (get_or VALUES i 0) ≡ hex_value i) here (same (worth (get_or VALUES m 0)) (hex_value m) both.0)
      | inr g ↦ told m n both.1 (omega (arith, g))
    ]

value_at : (n i : ℕ) → n < 256 → i ≡ n → worth (get_or VALUES i 0) ≡ hex_value n
value_at n i h e = ap (λ (k : ℕ). worth (get_or VALUES k 0)) e ∙ told 256 n refl h

pub value_below : (n i v : ℕ) → n < 256 → i ≡ n → get_or VALUES i 0 < 16 → v ≡ get_or VALUES i 0 → Some v ≡ hex_value n
value_below n i v h e l is =
    ap Some is ∙ sym (cond-true (nat_lt (get_or VALUES i 0) 16) (Some (get_or VALUES i 0)) None (lt-ltb (get_or VALUES i 0) 16 l)) ∙ value_at n i h e

pub value_above : (n i : ℕ) → n < 256 → i ≡ n → 16 ≤ get_or VALUES i 0 → None ≡ hex_value n
value_above n i h e l =
    sym (cond-false (nat_lt (get_or VALUES i 0) 16) (Some (get_or VALUES i 0)) None (le-ltb (get_or VALUES i 0) 16 l)) ∙ value_at n i h e
