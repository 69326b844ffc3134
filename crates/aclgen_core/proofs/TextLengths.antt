-- The texts of a workload are short.
use Rattle.std.proofs.Common.{◌≡◌, ℕ, ◌+◌, ◌*◌, ◌≤◌, zero, suc, Bool, true, nat_le, List, length, flat_map, refl, arith}
use Rattle.std.specs.Fmt.{digits}
use Rattle.std.specs.List.{range_with_len}
use Rattle.std.proofs.lemmas.Bool.Decides.{nat_tests}
use Rattle.std.proofs.lemmas.List.{length-append}
use Rattle.aclgen_core.specs.WorkloadTexts.{header_text, network_line, networks_text, policy_text, service_line, services_text, term_text}
use Rattle.aclgen_core.proofs.RangeLaws.{SameBelow, computed}

abbrev is_short : List ℕ → Bool
is_short text = nat_le (length text) 256

network_short : SameBelow 1024 (λ i. is_short (network_line i)) (λ i. true)
unfolding network_line digits
network_short = computed 1024 _ _ refl

service_short : SameBelow 1024 (λ i. is_short (service_line i)) (λ i. true)
unfolding service_line digits
service_short = computed 1024 _ _ refl

term_short : SameBelow 1024 (λ i. is_short (term_text i)) (λ i. true)
unfolding term_text digits
term_short = computed 1024 _ _ refl

header_short : is_short header_text ≡ true
unfolding header_text
header_short = refl

at_most : (n m : ℕ) → nat_le n m ≡ true → n ≤ m
at_most n m h = grind (arith, nat_tests)

all_short : (text : ℕ → List ℕ) → SameBelow 1024 (λ i. is_short (text i)) (λ i. true) → (a n : ℕ) → a + n ≤ 1024
    → length (flat_map text (range_with_len a n)) ≤ 256 * n
all_short text h a zero few = omega arith
all_short text h a (suc n) few =
    omega (
      arith,
      length-append (text a) (flat_map text (range_with_len (a + 1) n)),
      at_most (length (text a)) 256 (h a (omega (arith, few))),
      all_short text h (a + 1) n (omega (arith, few)),
    )

pub networks_short : (n : ℕ) → n ≤ 1024 → length (networks_text n) ≤ 262144
networks_short n few = omega (arith, few, all_short network_line network_short 0 n (omega (arith, few)))

pub services_short : (n : ℕ) → n ≤ 1024 → length (services_text n) ≤ 262144
services_short n few = omega (arith, few, all_short service_line service_short 0 n (omega (arith, few)))

pub policy_short : (n : ℕ) → n ≤ 1024 → length (policy_text n) ≤ 262400
policy_short n few =
    omega (
      arith,
      few,
      all_short term_text term_short 0 n (omega (arith, few)),
      at_most (length header_text) 256 header_short,
      length-append header_text (flat_map term_text (range_with_len 0 n)),
    )
