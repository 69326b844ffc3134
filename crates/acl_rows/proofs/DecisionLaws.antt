-- The tests of numbers and prefixes say what they are.
use Rattle.std.proofs.Common.{◌≡◌, ℕ, ◌*◌, ◌/◌, ◌%◌, ◌^◌, ◌<◌, ◌≤◌, Bool, ◌&&◌, nat_le, Option, None, Some, IfSome, List, [], ◌∷◌, refl, ap, ◌∙◌, arith}
use Rattle.std.specs.Bool.{Decides}
use Rattle.std.specs.List.{list_all, AllByRecursion}
use Rattle.std.proofs.lemmas.Bool.{false≢true, leb-true, le-leb}
use Rattle.std.proofs.lemmas.Bool.Decides.{Decides-and, Decides-like, Decides-eqb}
use Rattle.std.proofs.lemmas.Nat.{pow_pos}
use Rattle.std.proofs.Math.Nat.{mod-add-div, mul-mod_left}
use Rattle.acl_packet.specs.declared.addresses.Family.{Family}
use Rattle.acl_packet.specs.declared.addresses.Family.TheVariants.{V4, V6}
use Rattle.acl_packet.specs.declared.addresses.Prefix.{Prefix}
use Rattle.acl_packet.specs.Addresses.{same_family, size_of, top_address, width_of, IsPrefixOf}
use Rattle.acl_rows.specs.PrefixCheckSteps.{is_addresses, is_aligned, is_prefix_of}
use Rattle.acl_rows.specs.RuleParts.{IsAddresses, number_fits}

pub le_decides : (m n : ℕ) → Decides (nat_le m n) (m ≤ n)
le_decides m n = (leb-true m n, le-leb m n)

-- a number that may not be written
pub number_decides : (least most : ℕ) (o : Option ℕ) → Decides (number_fits least most o) (IfSome o (λ n. (least ≤ n) × (n ≤ most)))
number_decides least most None = (λ h. tt, λ h. refl)
number_decides least most (Some n) = Decides-and (nat_le least n) (nat_le n most) (le_decides least n) (le_decides n most)

pub type_decides : (o : Option ℕ) → Decides (number_fits 0 254 o) (IfSome o (λ n. n ≤ 254))
type_decides None = (λ h. tt, λ h. refl)
type_decides (Some n) = Decides-like (number_fits 0 254 (Some n)) (λ h. h.1) (λ h. (omega arith, h)) (number_decides 0 254 (Some n))

pub family_decides : (f g : Family) → Decides (same_family f g) (f ≡ g)
family_decides V4 V4 = (λ h. refl, λ h. refl)
family_decides V4 V6 = (λ h. absurd (false≢true h), λ h. absurd cc)
family_decides V6 V4 = (λ h. absurd (false≢true h), λ h. absurd cc)
family_decides V6 V6 = (λ h. refl, λ h. refl)

aligned_decides : (p : Prefix) → Decides (is_aligned p) ((n : ℕ) × (p.first ≡ n * size_of p))
aligned_decides p =
    let parts = mod-add-div p.first (size_of p) in
    Decides-like (is_aligned p) (λ h. (p.first / size_of p, omega (arith, parts, h)))
    (λ h. ap (λ n. n % size_of p) h.1 ∙ mul-mod_left h.0 (size_of p)) (Decides-eqb (p.first % size_of p) 0)

first_decides : (p : Prefix) → Decides (nat_le p.first (top_address p.family)) (p.first < 2 ^ width_of p.family)
first_decides p =
    let some = pow_pos (width_of p.family) in
    Decides-like (nat_le p.first (top_address p.family)) (λ h. omega (arith, h, some)) (λ h. omega (arith, h)) (le_decides p.first (top_address p.family))

pub prefix_decides : (f : Family) (p : Prefix) → Decides (is_prefix_of f p) (IsPrefixOf f p)
prefix_decides f p =
    let len = le_decides p.len (width_of p.family) in
    let first = first_decides p in
    Decides-like (is_prefix_of f p)
    (λ h. (h.0.0, record { len_fits = h.0.1; first_fits = h.1.0; aligned = h.1.1 }))
    (λ h. ((h.0, h.1.len_fits), (h.1.first_fits, h.1.aligned)))
    (Decides-and (same_family p.family f && nat_le p.len (width_of p.family)) (nat_le p.first (top_address p.family) && is_aligned p)
    (Decides-and (same_family p.family f) (nat_le p.len (width_of p.family)) (family_decides p.family f) len)
    (Decides-and (nat_le p.first (top_address p.family)) (is_aligned p) first (aligned_decides p)))

pub addresses_decide : (f : Family) (p : Prefix) → Decides (is_addresses f p) (IsAddresses f p)
addresses_decide f p = Decides-and (is_prefix_of f p) (nat_le 1 p.len) (prefix_decides f p) (le_decides 1 p.len)

pub all_decides : {A : Type 0} (test : A → Bool) (P : A → Type 0) → ((x : A) → Decides (test x) (P x))
    → (xs : List A) → Decides (list_all test xs) (AllByRecursion P xs)
all_decides test P each [] = (λ h. tt, λ h. refl)
all_decides test P each (x ∷ xs) = Decides-and (test x) (list_all test xs) (each x) (all_decides test P each xs)
