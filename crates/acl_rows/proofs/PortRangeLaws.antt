-- Ranges of ports: what the test says of them, and what their words are.
use Rattle.std.proofs.Common.{◌≡◌, ℕ, Bool, true, false, cond, ◌==◌, nat_le, nat_lt, List, ◌∷◌, ◌++◌, Some, inl, inr, refl, arith}
use Rattle.std.specs.Bool.{Decides}
use Rattle.std.specs.Char.{is_ascii_digit}
use Rattle.std.specs.Fmt.{decimal}
use Rattle.std.specs.List.{list_all, AllByRecursion}
use Rattle.std.proofs.lemmas.Bool.{eqb-true, or_from}
use Rattle.std.proofs.lemmas.Bool.Decides.{Decides-and, Decides-ltb}
use Rattle.acl_packet.proofs.DecimalLaws.{decimal-number}
use Rattle.acl_text.specs.Cuts.{has_byte}
use Rattle.acl_text.specs.PortRanges.{ports_in, IsPortsWord}
use Rattle.acl_text.proofs.CutLaws.{has-append}
use Rattle.acl_text.proofs.DigitLaws.{decimal-lacks}
use Rattle.acl_text.proofs.PortLaws.{ports-again}
use Rattle.acl_rows.specs.PortRanges.{IsPortRange, range_text}
use Rattle.acl_rows.specs.PortRangeSteps.{is_port_range}
use Rattle.acl_rows.specs.RowSteps.{IsWord}
use Rattle.acl_rows.proofs.DecisionLaws.{le_decides, all_decides}
use Rattle.acl_rows.proofs.WordLaws.{word}

pub range_decides : (ports : ℕ × ℕ) → Decides (is_port_range ports) (IsPortRange ports)
range_decides ports = Decides-and (nat_le ports.0 ports.1) (nat_lt ports.1 65536) (le_decides ports.0 ports.1) (Decides-ltb ports.1 65536)

pub ranges_decide : (ranges : List (ℕ × ℕ)) → Decides (list_all is_port_range ranges) (AllByRecursion IsPortRange ranges)
ranges_decide ranges = all_decides is_port_range IsPortRange range_decides ranges

-- a byte that is no digit and no separator
pub range-lacks : (separator c : ℕ) (ports : ℕ × ℕ) → IsPortRange ports → is_ascii_digit c ≡ false → (separator == c) ≡ false
    → has_byte c (range_text separator ports) ≡ false
unfolding range_text
range-lacks separator c (low, high) h d n = range_cases (low == high) where
  low_lacks : has_byte c (decimal low) ≡ false
  low_lacks = decimal-lacks c low (omega (arith, h.0, h.1)) d

  high_lacks : has_byte c (separator ∷ decimal high) ≡ false
  high_lacks = or_from (separator == c) (has_byte c (decimal high)) n (decimal-lacks c high (omega (arith, h.1)) d)

  range_cases : (a : Bool) → has_byte c (cond a (decimal low) (decimal low ++ separator ∷ decimal high)) ≡ false
  range_cases true = low_lacks
  range_cases false = has-append c (decimal low) (separator ∷ decimal high) low_lacks high_lacks

pub range_word : (separator : ℕ) (ports : ℕ × ℕ) → IsPortRange ports → (separator == 32) ≡ false → (separator == 10) ≡ false → IsWord (range_text separator ports)
range_word separator ports h s f =
    word (range_text separator ports) (range-lacks separator 32 ports h refl s) (range-lacks separator 10 ports h refl f)

range_spelled : (separator : ℕ) (ports : ℕ × ℕ) → IsPortRange ports → IsPortsWord separator (range_text separator ports) ports
unfolding range_text
range_spelled separator (low, high) h = range_cases (low == high) refl where
  range_cases : (a : Bool) → (low == high) ≡ a → IsPortsWord separator (cond a (decimal low) (decimal low ++ separator ∷ decimal high)) (low, high)
  range_cases true e = record { spelled = inl (decimal-number low (omega (arith, h.0, h.1)), eqb-true low high e); ordered = h.0; fit = h.1 }
  range_cases false e = record {
    spelled = inr (decimal low, decimal high, refl, decimal-number low (omega (arith, h.0, h.1)), decimal-number high (omega (arith, h.1)));
    ordered = h.0;
    fit = h.1;
  }

pub range-again : (separator : ℕ) → is_ascii_digit separator ≡ false → (ports : ℕ × ℕ) → IsPortRange ports → ports_in separator (range_text separator ports) ≡ Some ports
range-again separator d ports h = ports-again separator (range_text separator ports) ports d (range_spelled separator ports h)
