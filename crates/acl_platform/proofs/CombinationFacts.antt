-- What each combination of a sound rule is made of, as a generator needs it to say that what it writes
-- is valid.
use Rattle.std.proofs.Common.{◌≡◌, ℕ, ◌≤◌, Bool, true, false, ◌==◌, cond, List, [], ◌∷◌, map, Option, None, Some, refl, sym, ◌∙◌, arith}
use Rattle.std.specs.List.{AllByRecursion, list_any}
use Rattle.std.proofs.lemmas.Bool.{or_left, or_right}
use Rattle.std.proofs.lemmas.Bool.Decides.{Decides-eqb}
use Rattle.std.proofs.lemmas.List.Elements.{recursion_from_All}
use Rattle.acl_packet.specs.declared.packet_fields.Field.TheVariants.{SourcePort, DestinationPort}
use Rattle.acl_packet.specs.declared.addresses.Families.{Families}
use Rattle.acl_packet.specs.declared.addresses.Family.{Family}
use Rattle.acl_packet.specs.declared.addresses.Prefix.{Prefix}
use Rattle.acl_packet.specs.Addresses.{IsPrefixOf}
use Rattle.acl_sets.specs.declared.sets.Range.{Range}
use Rattle.acl_sets.specs.ComputableSets.{is_all}
use Rattle.acl_sets.specs.LeastLists.{IsMaximal}
use Rattle.acl_packet.specs.AddressLists.{any_has}
use Rattle.acl_sets.specs.Ranges.{holds, IsNormal, IsRange, Numbers}
use Rattle.acl_target.specs.declared.targets.Kind.{Kind}
use Rattle.acl_platform.specs.declared.combinations.Combination.{Combination}
use Rattle.acl_platform.specs.declared.rules.Rule.{Rule}
use Rattle.acl_platform.specs.Choices.{number_choices, numbers_of, pairs, range_choices}
use Rattle.acl_platform.specs.Combinations.{combination_of, combinations, parts_of, Parts}
use Rattle.acl_platform.specs.SoundFilters.{IsFullList, IsSoundRule}
use Rattle.acl_platform.proofs.ChoiceLaws.{fit, numbers-any}
use Rattle.acl_platform.proofs.PairLaws.{all-pairs}

-- no condition stands for a set that is all, a number for one that is not, and is in it
abbrev pub OfNumbers : Numbers → Option ℕ → Type 0
OfNumbers s None = is_all s ≡ true
OfNumbers s (Some n) = (is_all s ≡ false) × (holds s.ranges n ≡ true)

abbrev pub OfRanges : Numbers → Option (ℕ × ℕ) → Type 0
OfRanges s None = is_all s ≡ true
OfRanges s (Some ports) = (is_all s ≡ false) × ((ports.0 ≤ ports.1) × (ports.1 ≤ s.top))

pub record IsCombinationOf (r : Rule) (c : Combination) : Type 0 where
  pub protocol : OfNumbers r.protos c.proto
  pub source : IsPrefixOf r.family c.src
  pub destination : IsPrefixOf r.family c.dst
  pub source_ports : OfRanges r.sports c.sport
  pub destination_ports : OfRanges r.dports c.dport
  pub type_of_icmp : OfNumbers r.itypes c.itype
  pub code_of_icmp : OfNumbers r.icodes c.icode

pub all-weaker : {A : Type 0} {P Q : A → Type 0} → ((x : A) → P x → Q x) → (xs : List A) → AllByRecursion P xs → AllByRecursion Q xs
all-weaker f [] h = tt
all-weaker f (x ∷ xs) h = (f x h.0, all-weaker f xs h.1)

pub all-map : {A B : Type 0} (P : B → Type 0) (f : A → B) (xs : List A) → AllByRecursion (λ x. P (f x)) xs → AllByRecursion P (map f xs)
all-map P f [] h = tt
all-map P f (x ∷ xs) h = (h.0, all-map P f xs h.1)

members : (xs ys : List ℕ) → ((x : ℕ) → list_any (λ m. x == m) xs ≡ true → list_any (λ m. x == m) ys ≡ true)
    → AllByRecursion (λ x. list_any (λ m. x == m) ys ≡ true) xs
members [] ys f = tt
members (x ∷ xs) ys f = (
  f x (or_left (x == x) (list_any (λ m. x == m) xs) ((Decides-eqb x x).1 refl)),
  members xs ys (λ z h. f z (or_right (z == x) (list_any (λ m. z == m) xs) h)),
)

pub held : (rs : List Range) → AllByRecursion (λ n. holds rs n ≡ true) (numbers_of rs)
held rs = all-weaker (λ n h. sym (numbers-any rs n) ∙ h) (numbers_of rs) (members (numbers_of rs) (numbers_of rs) (λ x h. h))

numbers-by : (s : Numbers) (b : Bool) → is_all s ≡ b → AllByRecursion (OfNumbers s) (cond b (None ∷ []) (map (λ n. Some n) (numbers_of s.ranges)))
numbers-by s true e = (e, tt)
numbers-by s false e =
    all-map (OfNumbers s) (λ n. Some n) (numbers_of s.ranges) (all-weaker (λ n h. (e, h)) (numbers_of s.ranges) (held s.ranges))

pub all-numbers : (s : Numbers) → AllByRecursion (OfNumbers s) (number_choices s)
all-numbers s = numbers-by s (is_all s) refl

ranges-by : (s : Numbers) (b : Bool) → is_all s ≡ b → AllByRecursion (λ r. IsRange s.top r) s.ranges
    → AllByRecursion (OfRanges s) (cond {A = List (Option (ℕ × ℕ))} b (None ∷ []) (map (λ r. Some (r.low, r.high)) s.ranges))
ranges-by s true e h = (e, tt)
ranges-by s false e h =
    all-map (OfRanges s) (λ r. Some (r.low, r.high)) s.ranges (all-weaker (λ r i. (e, i)) s.ranges h)

pub all-ranges : (floor top : ℕ) (s : Numbers) → s.top ≡ top → IsNormal floor top s.ranges → AllByRecursion (OfRanges s) (range_choices s)
all-ranges floor top s e h = ranges-by s (is_all s) refl (fit floor top s.top s.ranges h (omega (arith, e)))

pub all-prefixes : (family : Family) (prefixes : List Prefix) → IsFullList family prefixes → AllByRecursion (IsPrefixOf family) prefixes
all-prefixes family prefixes h =
    all-weaker (λ p m. m.form) prefixes (recursion_from_All (IsMaximal family (any_has prefixes)) prefixes h.least.maximal)

abbrev OfParts : Rule → Parts → Type 0
OfParts r c = OfNumbers r.protos c.0 × (IsPrefixOf r.family c.1.0 × (IsPrefixOf r.family c.1.1.0
    × (OfRanges r.sports c.1.1.1.0 × (OfRanges r.dports c.1.1.1.1.0
    × (OfNumbers r.itypes c.1.1.1.1.1.0 × OfNumbers r.icodes c.1.1.1.1.1.1)))))

pub combination-facts : (kind : Kind) (families : Families) (r : Rule) → IsSoundRule kind families r
    → AllByRecursion (IsCombinationOf r) (combinations r)
combination-facts kind families r h =
    let codes = number_choices r.icodes in
    let types = number_choices r.itypes in
    let dports = range_choices r.dports in
    let sports = range_choices r.sports in
    let P : Prefix → Type 0 = IsPrefixOf r.family in
    let Icmp : Option ℕ × Option ℕ → Type 0 = λ c. OfNumbers r.itypes c.0 × OfNumbers r.icodes c.1 in
    let Last : Option (ℕ × ℕ) × (Option ℕ × Option ℕ) → Type 0 = λ c. OfRanges r.dports c.0 × Icmp c.1 in
    let Ports : Option (ℕ × ℕ) × (Option (ℕ × ℕ) × (Option ℕ × Option ℕ)) → Type 0 = λ c. OfRanges r.sports c.0 × Last c.1 in
    let Third : Prefix × (Option (ℕ × ℕ) × (Option (ℕ × ℕ) × (Option ℕ × Option ℕ))) → Type 0 = λ c. P c.0 × Ports c.1 in
    let Second : Prefix × (Prefix × (Option (ℕ × ℕ) × (Option (ℕ × ℕ) × (Option ℕ × Option ℕ)))) → Type 0 =
    λ c. P c.0 × Third c.1 in
    let parts : AllByRecursion (OfParts r) (parts_of r) =
    all-pairs (OfNumbers r.protos) Second (number_choices r.protos) (pairs r.src (pairs r.dst (pairs sports (pairs dports (pairs types codes)))))
    (all-numbers r.protos)
    (all-pairs P Third r.src (pairs r.dst (pairs sports (pairs dports (pairs types codes)))) (all-prefixes r.family r.src h.sources)
    (all-pairs P Ports r.dst (pairs sports (pairs dports (pairs types codes))) (all-prefixes r.family r.dst h.destinations)
    (all-pairs (OfRanges r.sports) Last sports (pairs dports (pairs types codes)) (all-ranges 0 65535 r.sports (h.numbers SourcePort).top_is (h.numbers SourcePort).normal)
    (all-pairs (OfRanges r.dports) Icmp dports (pairs types codes)
    (all-ranges 0 65535 r.dports (h.numbers DestinationPort).top_is (h.numbers DestinationPort).normal)
    (all-pairs (OfNumbers r.itypes) (OfNumbers r.icodes) types codes (all-numbers r.itypes) (all-numbers r.icodes)))))) in
    all-map (IsCombinationOf r) combination_of (parts_of r)
    (all-weaker (λ c k. record {
      protocol = k.0;
      source = k.1.0;
      destination = k.1.1.0;
      source_ports = k.1.1.1.0;
      destination_ports = k.1.1.1.1.0;
      type_of_icmp = k.1.1.1.1.1.0;
      code_of_icmp = k.1.1.1.1.1.1;
    }) (parts_of r) parts)
