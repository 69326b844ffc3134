-- The rules of a chain that a sound rule gives are valid.
use Rattle.std.proofs.Common.{add-zero, zero-add, lit≤, ◌≡◌, ℕ, zero, suc, zero-le, ◌+◌, ◌-◌, ◌<◌, ◌≤◌, Bool, true, false, ◌&&◌, ◌||◌, ◌==◌, cond, nat_eq, nat_le, nat_lt, List, [], ◌∷◌, ◌++◌, map, Option, is_none, refl, ap, sym, subst, ◌∙◌, arith}
use Rattle.std.specs.List.{AllByRecursion, IsDistinct, list_any, range_with_len}
use Rattle.std.proofs.lemmas.Bool.{and_from, eqb-true, false_from_ne_true, false≢true, le-ltb, lt-leb, or_right}
use Rattle.std.proofs.lemmas.Nat.{pow_pos}
use Rattle.std.proofs.Math.Nat.{add-le-add, add-sub_of_le, add-suc, add_assoc, le-add_right, le_refl, le_trans, not-suc-le_self, suc-add}
use Rattle.acl_packet.specs.declared.packet_fields.Field.TheVariants.{SourcePort, DestinationPort, IcmpType, IcmpCode}
use Rattle.acl_packet.specs.declared.addresses.Families.{Families}
use Rattle.acl_packet.specs.declared.addresses.Family.{Family}
use Rattle.acl_packet.specs.declared.addresses.Prefix.{Prefix}
use Rattle.acl_packet.specs.declared.filtering.Verdict.{Verdict}
use Rattle.acl_packet.specs.declared.filtering.Verdict.TheVariants.{Accept, Deny, Reject, Reset, Left}
use Rattle.acl_packet.specs.Addresses.{size_of, width_of}
use Rattle.acl_packet.specs.Packets.{has_ports, icmp_of, is_icmp}
use Rattle.acl_sets.specs.declared.sets.Range.{Range}
use Rattle.acl_sets.specs.ComputableSets.{is_all}
use Rattle.acl_sets.specs.LeastLists.{IsInOrder}
use Rattle.acl_sets.specs.OneNumber.{IsOneNumber}
use Rattle.acl_sets.specs.Ranges.{holds, IsNormal, Numbers, Only}
use Rattle.acl_sets.proofs.ComputableSetLaws.{covers-holds}
use Rattle.acl_sets.proofs.RangeLaws.{at_top}
use Rattle.acl_target.specs.declared.targets.Kind.TheVariants.{Nftables}
use Rattle.acl_platform.specs.declared.rules.Rule.{Rule}
use Rattle.acl_platform.specs.declared.rules.Test.{Test}
use Rattle.acl_platform.specs.declared.rules.Test.TheVariants.{Plain, AckOrRst, SynNotAck, Rst, State}
use Rattle.acl_platform.specs.Choices.{numbers_of}
use Rattle.acl_platform.specs.Elements.{address_elements, number_elements, port_elements}
use Rattle.acl_platform.specs.SoundFilters.{has_verdict, IsFull, IsFullList, is_tcp, IsSoundRule, tests_flags}
use Rattle.acl_platform.proofs.CombinationFacts.{all-weaker, OfNumbers}
use Rattle.acl_platform.proofs.ElementLaws.{addresses-are, numbers-are, ports-are}
use Rattle.acl_platform.proofs.NamedNumbers.{named, no-icmp, protocol-is}
use Rattle.acl_platform.proofs.RuleNumbers.{type-most}
use Rattle.acl_rows.specs.PortRanges.{IsPortRange}
use Rattle.acl_rows.specs.RuleParts.{IsAddresses, has_port_proto, is_empty, is_proto}
use Rattle.nft_lang.specs.Documents.{codes_fit, flags_fit, icmp_fits, is_single, IsCode, IsRule, IsSet, IsType, ports_fit, ports_overlap, prefixes_overlap, types_fit, verdict_fits}
use Rattle.gen_nftables.specs.Sections.{chain_rule, flags_of}

-- ---- addresses

-- what is behind the end of a range does not begin before it
none-before : (a b s : ℕ) → a + s ≤ b → nat_lt b (a + s) ≡ false
none-before a b s h = le-ltb b (a + s) h

after : (a b s : ℕ) → 1 ≤ s → a + s ≤ b → a < b
after a b s h k = le_trans (subst (λ n. n ≤ a + s) (add-suc a 0 ∙ ap suc (add-zero a)) (add-le-add (le_refl a) h)) k

neither : (p q : Bool) {r s : Bool} → r ≡ false → s ≡ false → ((p && r) || (s && q)) ≡ false
neither true q {r = false} {s = false} h k = refl
neither true q {r = true} {s = s} h k = absurd (false≢true (sym h))
neither true q {r = false} {s = true} h k = absurd (false≢true (sym k))
neither false q {r = r} {s = false} h k = refl
neither false q {r = r} {s = true} h k = absurd (false≢true (sym k))

apart-prefixes : (p q : Prefix) → p.first + size_of p ≤ q.first → prefixes_overlap p q ≡ false
apart-prefixes p q h =
    neither (nat_le p.first q.first) (nat_lt p.first (q.first + size_of q)) (none-before p.first q.first (size_of p) h)
    (lt-leb q.first p.first (after p.first q.first (size_of p) (pow_pos (width_of p.family - p.len)) h))

behind : (floor : ℕ) (ps : List Prefix) → IsInOrder floor ps → AllByRecursion (λ q. floor ≤ q.first) ps
behind floor [] h = tt
behind floor (p ∷ ps) h =
    (h.0, all-weaker (λ q l. le_trans h.0 (le_trans (le-add_right p.first (size_of p)) l)) ps (behind (p.first + size_of p) ps h.1))

in-order-apart : (floor : ℕ) (ps : List Prefix) → IsInOrder floor ps → IsDistinct prefixes_overlap ps
unfolding IsDistinct
in-order-apart floor [] h = tt
in-order-apart floor (p ∷ ps) h =
    (all-weaker (λ q l. apart-prefixes p q l) ps (behind (p.first + size_of p) ps h.1), in-order-apart (p.first + size_of p) ps h.1)

addresses-apart : (ps : List Prefix) (b : Bool) → IsInOrder 0 ps → IsDistinct prefixes_overlap (cond b [] ps)
unfolding IsDistinct
addresses-apart ps true h = tt
addresses-apart ps false h = in-order-apart 0 ps h

addresses-set : (f : Family) (ps : List Prefix) → IsFullList f ps → IsSet (IsAddresses f) prefixes_overlap (address_elements ps)
addresses-set f ps h = record {
  each = addresses-are f ps h;
  apart = addresses-apart ps (list_any (λ p. p.len == 0) ps) h.least.in_order;
}

-- ---- ports

abbrev ends : Range → ℕ × ℕ
ends r = (r.low, r.high)

-- what lies behind a range, with a number between, lies behind its low end
past-range : (r : Range) {floor n : ℕ} → floor ≤ r.low → r.low ≤ r.high → r.high + 2 ≤ n → floor ≤ n
past-range r h k l = le_trans (le_trans h k) (le_trans (le-add_right r.high 2) l)

ports-behind : (floor top : ℕ) (rs : List Range) → IsNormal floor top rs → AllByRecursion (λ q. floor ≤ q.0) (map ends rs)
ports-behind floor top [] h = tt
ports-behind floor top (r ∷ rs) h =
    (h.0, all-weaker (λ q l. past-range r h.0 h.1 l) (map ends rs) (ports-behind (r.high + 2) top rs h.3))

none-second : (b : Bool) {c : Bool} → c ≡ false → (b && c) ≡ false
none-second true h = h
none-second false h = refl

apart-ports : (a b : ℕ × ℕ) → a.1 + 2 ≤ b.0 → ports_overlap a b ≡ false
apart-ports a b h = none-second (nat_le a.0 b.1) (lt-leb b.0 a.1 (after a.1 b.0 2 (lit≤ tt) h))

ranges-apart : (floor top : ℕ) (rs : List Range) → IsNormal floor top rs → IsDistinct ports_overlap (map ends rs)
unfolding IsDistinct
ranges-apart floor top [] h = tt
ranges-apart floor top (r ∷ rs) h =
    (all-weaker (λ q l. apart-ports (ends r) q l) (map ends rs) (ports-behind (r.high + 2) top rs h.3), ranges-apart (r.high + 2) top rs h.3)

ports-apart : (rs : List Range) (b : Bool) → IsNormal 0 65535 rs → IsDistinct ports_overlap (map ends (cond b [] rs))
unfolding IsDistinct
ports-apart rs true h = tt
ports-apart rs false h = ranges-apart 0 65535 rs h

ports-set : (s : Numbers) → IsFull 65535 s → IsSet IsPortRange ports_overlap (port_elements s)
ports-set s h = record { each = ports-are s h; apart = ports-apart s.ranges (is_all s) h.normal }

-- ---- types and codes

-- Each number once, and none below the first one.
abbrev IsRow : ℕ → List ℕ → Type 0
IsRow floor ns = IsDistinct nat_eq ns × AllByRecursion (λ n. floor ≤ n) ns

not-same : (a n : ℕ) → a < n → nat_eq a n ≡ false
not-same a n h = false_from_ne_true (nat_eq a n) (λ e. not-suc-le_self n (subst (λ m. suc m ≤ n) (eqb-true a n e) h))

turned : (a n : ℕ) → (a + 1) + n ≡ a + suc n
turned a n = add_assoc a 1 n ∙ ap (λ m. a + m) (suc-add 0 n ∙ ap suc (zero-add n))

row-apart : (a n : ℕ) (rest : List ℕ) → IsRow (a + n) rest → IsRow a (range_with_len a n ++ rest)
unfolding IsDistinct
row-apart a zero rest h = (h.0, all-weaker (λ m l. subst (λ k. k ≤ m) (add-zero a) l) rest h.1)
row-apart a (suc n) rest h =
    let more = row-apart (a + 1) n rest (h.0, all-weaker (λ m l. subst (λ k. k ≤ m) (sym (turned a n)) l) rest h.1) in
    let later = range_with_len (a + 1) n ++ rest in (
      (all-weaker (λ m l. not-same a m (after a m 1 (le_refl 1) l)) later more.1, more.0),
      (le_refl a, all-weaker (λ m l. le_trans (le-add_right a 1) l) later more.1),
    )

-- the end of a range, by its size
end-is : (low high : ℕ) → low ≤ high → low + (high + 1 - low) ≡ high + 1
end-is low high h = add-sub_of_le (le_trans h (le-add_right high 1))

numbers-apart : (floor top : ℕ) (rs : List Range) → IsNormal floor top rs → IsRow floor (numbers_of rs)
unfolding IsDistinct
numbers-apart floor top [] h = (tt, tt)
numbers-apart floor top (r ∷ rs) h =
    let more = numbers-apart (r.high + 2) top rs h.3 in
    let here = row-apart r.low (r.high + 1 - r.low) (numbers_of rs) (
      more.0,
      all-weaker (λ m l.
          subst (λ k. k ≤ m) (sym (end-is r.low r.high h.1)) (le_trans (add-le-add (le_refl r.high) (lit≤ tt)) l)) (numbers_of rs) more.1,
    ) in
    (here.0, all-weaker (λ m l. le_trans h.0 l) (numbers_of (r ∷ rs)) here.1)

elements-apart : (rs : List Range) (b : Bool) → IsNormal 0 255 rs → IsDistinct nat_eq (numbers_of (cond b [] rs))
unfolding IsDistinct
elements-apart rs true h = tt
elements-apart rs false h = (numbers-apart 0 255 rs h).0

types-set : (s : Numbers) → IsFull 255 s → (is_all s ≡ false → holds s.ranges 255 ≡ false) → IsSet IsType nat_eq (number_elements s)
types-set s h none = record {
  each = all-weaker (λ n k. type-most s n h.normal (none k.0) k.1) (number_elements s) (numbers-are s);
  apart = elements-apart s.ranges (is_all s) h.normal;
}

codes-set : (s : Numbers) → IsFull 255 s → IsSet IsCode nat_eq (number_elements s)
codes-set s h = record {
  each = all-weaker (λ n k. at_top 0 255 s.ranges n h.normal k.1) (number_elements s) (numbers-are s);
  apart = elements-apart s.ranges (is_all s) h.normal;
}

-- ---- what belongs to a protocol

ports-fit-by : (s d protos : Numbers) (proto : Option ℕ) (xs ys : List Range) (b c : Bool) → is_all s ≡ b → is_all d ≡ c → OfNumbers protos proto
    → (is_all s ≡ false → Only has_ports protos) → (is_all d ≡ false → Only has_ports protos)
    → (is_empty (map ends (cond b [] xs)) && is_empty (map ends (cond c [] ys)) || has_port_proto proto) ≡ true
ports-fit-by s d protos proto xs ys true true e f h k l = refl
ports-fit-by s d protos proto xs ys false c e f h k l =
    let one = named has_ports protos proto h refl (k e) in
    or_right (is_empty (map ends xs) && is_empty (map ends (cond c [] ys))) (has_port_proto proto) (ap has_port_proto one.1.0 ∙ one.1.1.1)
ports-fit-by s d protos proto xs ys true false e f h k l =
    let one = named has_ports protos proto h refl (l f) in
    or_right (is_empty (map ends ys)) (has_port_proto proto) (ap has_port_proto one.1.0 ∙ one.1.1.1)

types-fit-by : (f : Family) (s protos : Numbers) (proto : Option ℕ) (rs : List Range) (b : Bool) → is_all s ≡ b → OfNumbers protos proto
    → (is_all s ≡ false → Only (is_icmp f) protos) → (is_empty (numbers_of (cond b [] rs)) || is_proto proto (icmp_of f)) ≡ true
types-fit-by f s protos proto rs true e h k = refl
types-fit-by f s protos proto rs false e h k =
    let one = named (is_icmp f) protos proto h (no-icmp f) (k e) in
    or_right (is_empty (numbers_of rs)) (is_proto proto (icmp_of f)) (ap (λ o. is_proto o (icmp_of f)) one.1.0 ∙ one.1.1.1)

-- one number is not all, of which 0 and 1 are two
one-left : (n : ℕ) → holds (record { low = n; high = n } ∷ []) 0 ≡ true → holds (record { low = n; high = n } ∷ []) 1 ≡ true → ⊥
one-left zero h k = false≢true k
one-left (suc n) h k =
    let positive : 0 < suc n = omega arith in
    false≢true (sym (ap (λ b. (b && nat_le 0 (suc n)) || false) (lt-leb (suc n) 0 positive)) ∙ h)

not-all : (s : Numbers) → IsFull 255 s → IsOneNumber s → is_all s ≡ true → ⊥
not-all s full one e =
    let has : (x : ℕ) → x ≤ 255 → holds s.ranges x ≡ true = λ x l. covers-holds s.ranges 0 s.top x e zero-le (subst (λ t. x ≤ t) (sym full.top_is) l) in
    let same : (x : ℕ) → holds (record { low = one.0; high = one.0 } ∷ []) x ≡ holds s.ranges x = λ x. ap (λ rs. holds rs x) (sym one.1) in
    one-left one.0 (same 0 ∙ has 0 (lit≤ tt)) (same 1 ∙ has 1 (lit≤ tt))

single-by : (s : Numbers) (b : Bool) → is_all s ≡ b → IsFull 255 s → IsOneNumber s → is_single (numbers_of (cond b [] s.ranges)) ≡ true
single-by s true e full one = absurd (not-all s full one e)
single-by s false e full one =
    ap (λ rs. is_single (numbers_of rs)) one.1
    ∙ ap (λ k. is_single (range_with_len one.0 k ++ [])) (sub-self one.0)
  where
    sub-self : (n : ℕ) → n + 1 - n ≡ 1
    sub-self n = omega arith

codes-fit-by : (s types : Numbers) (b : Bool) → is_all s ≡ b → IsFull 255 types → (is_all s ≡ false → IsOneNumber types)
    → (is_empty (numbers_of (cond b [] s.ranges)) || is_single (number_elements types)) ≡ true
codes-fit-by s types true e full one = refl
codes-fit-by s types false e full one =
    or_right (is_empty (numbers_of s.ranges)) (is_single (number_elements types)) (single-by types (is_all types) refl full (one e))

only-tcp : (protos : Numbers) (proto : Option ℕ) → OfNumbers protos proto → Only is_tcp protos → is_proto proto 6 ≡ true
only-tcp protos proto h only =
    let one = named is_tcp protos proto h refl only in
    ap (λ o. is_proto o 6) one.1.0 ∙ one.1.1.1

flags-fit-by : (test : Test) (proto : Option ℕ) → (tests_flags test ≡ true → is_proto proto 6 ≡ true)
    → (is_none (flags_of test) || is_proto proto 6) ≡ true
flags-fit-by Plain proto h = refl
flags-fit-by AckOrRst proto h = refl
flags-fit-by SynNotAck proto h = h refl
flags-fit-by Rst proto h = h refl
flags-fit-by State proto h = refl

verdict-fits-by : (v : Verdict) (proto : Option ℕ) → has_verdict Nftables v ≡ true → (v ≡ Reset → is_proto proto 6 ≡ true)
    → verdict_fits proto v ≡ true
verdict-fits-by Accept proto h k = refl
verdict-fits-by Deny proto h k = refl
verdict-fits-by Reject proto h k = refl
verdict-fits-by Reset proto h k = k refl
verdict-fits-by Left proto h k = absurd (false≢true h)

-- ---- the rule

pub rule-is : (families : Families) (r : Rule) (o : Option ℕ) → IsSoundRule Nftables families r → OfNumbers r.protos o
    → IsRule families (chain_rule r o)
rule-is families r o h k =
    let c = chain_rule r o in
    record {
      family = h.family;
      protocol = protocol-is Nftables families r o h k;
      sources = addresses-set r.family r.src h.sources;
      destinations = addresses-set r.family r.dst h.destinations;
      source_ports = ports-set r.sports (h.numbers SourcePort);
      destination_ports = ports-set r.dports (h.numbers DestinationPort);
      icmp_types = types-set r.itypes (h.numbers IcmpType) h.types_named;
      icmp_codes = codes-set r.icodes (h.numbers IcmpCode);
      fit = and_from (ports_fit c && icmp_fits c) (flags_fit c && verdict_fits o r.verdict)
          (and_from (ports_fit c) (icmp_fits c)
          (ports-fit-by r.sports r.dports r.protos o r.sports.ranges r.dports.ranges (is_all r.sports) (is_all r.dports)
          refl refl k (h.numbers_fit SourcePort) (h.numbers_fit DestinationPort))
          (and_from (types_fit c) (codes_fit c)
          (types-fit-by r.family r.itypes r.protos o r.itypes.ranges (is_all r.itypes) refl k (h.numbers_fit IcmpType))
          (codes-fit-by r.icodes r.itypes (is_all r.icodes) refl (h.numbers IcmpType) h.codes_named)))
          (and_from (flags_fit c) (verdict_fits o r.verdict)
          (flags-fit-by r.test o (λ t. only-tcp r.protos o k (h.flags_fit t)))
          (verdict-fits-by r.verdict o h.verdict_known (λ v. only-tcp r.protos o k (h.reset_fits v))));
    }
