-- What a number of a sound rule's set is.
use Rattle.std.proofs.Common.{◌≡◌, ℕ, ◌≤◌, Bool, true, false, not, ◌&&◌, ◌||◌, ◌==◌, inl, inr, refl, ap, sym, ◌∙◌}
use Rattle.std.proofs.lemmas.Bool.{cases_lt, eqb-true, false_from_ne_true, false≢true}
use Rattle.std.proofs.Math.Nat.{le_antisymm, le_of_suc-le-suc}
use Rattle.acl_packet.specs.Packets.{has_ports}
use Rattle.acl_sets.specs.Ranges.{holds, IsNormal, Numbers, Only}
use Rattle.acl_sets.proofs.RangeLaws.{at_top}

-- ---- ports are those of TCP and UDP, where SCTP is not held

pub no-source : (held sports dports : Bool) → (held && not (sports && dports)) ≡ false → sports ≡ false → held ≡ false
no-source false sports dports e f = refl
no-source true false dports e f = absurd (false≢true (sym e))
no-source true true dports e f = absurd (false≢true (sym f))

pub no-destination : (held sports dports : Bool) → (held && not (sports && dports)) ≡ false → dports ≡ false → held ≡ false
no-destination false sports dports e f = refl
no-destination true false dports e f = absurd (false≢true (sym e))
no-destination true true false e f = absurd (false≢true (sym e))
no-destination true true true e f = absurd (false≢true (sym f))

not-that : (s : Numbers) (n m : ℕ) → holds s.ranges n ≡ true → holds s.ranges m ≡ false → (n == m) ≡ false
not-that s n m h k = false_from_ne_true (n == m) (λ e. false≢true (sym k ∙ ap (holds s.ranges) (sym (eqb-true n m e)) ∙ h))

two-left : (n : ℕ) → has_ports n ≡ true → (n == 132) ≡ false → ((n == 6) || (n == 17)) ≡ true
two-left n h e = by_tests (n == 6) (n == 17) (n == 132) h e
  where
    by_tests : (a b c : Bool) → (a || b || c) ≡ true → c ≡ false → (a || b) ≡ true
    by_tests true b c h e = refl
    by_tests false true c h e = refl
    by_tests false false true h e = absurd (false≢true (sym e))
    by_tests false false false h e = absurd (false≢true h)

pub tcp-or-udp : (s : Numbers) (n : ℕ) → Only has_ports s → holds s.ranges 132 ≡ false → holds s.ranges n ≡ true → ((n == 6) || (n == 17)) ≡ true
tcp-or-udp s n only none held = two-left n (only n held) (not-that s n 132 held none)

-- ---- types that are named

pub type-most : (s : Numbers) (n : ℕ) → IsNormal 0 255 s.ranges → holds s.ranges 255 ≡ false → holds s.ranges n ≡ true → n ≤ 254
type-most s n normal none held =
    let most = at_top 0 255 s.ranges n normal held in
    elim (cases_lt n 255) [
      | inl below ↦ le_of_suc-le-suc below
      | inr above ↦ let e : n ≡ 255 = le_antisymm most above in absurd (false≢true (sym none ∙ ap (holds s.ranges) (sym e) ∙ held))
    ]
