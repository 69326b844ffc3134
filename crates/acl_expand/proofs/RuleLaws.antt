-- A term that has a rule in a family has one there that holds some packet.
use Rattle.std.proofs.Common.{◌≡◌, ◌≢◌, ℕ, ◌≤◌, Bool, true, false, cond, ◌&&◌, List, [], ◌∷◌, map, flat_map, refl, sym, subst, ◌∙◌, inl, inr, arith}
use Rattle.std.specs.List.{AllByRecursion, list_any}
use Rattle.std.proofs.lemmas.Bool.{and_from, and_parts, both_ways, or_cases, or_left, or_right}
use Rattle.std.proofs.lemmas.List.Folds.{list_any-append}
use Rattle.acl_packet.specs.declared.addresses.Families.{Families}
use Rattle.acl_packet.specs.declared.addresses.Families.TheVariants.{Inet, Inet6, Mixed}
use Rattle.acl_packet.specs.declared.addresses.Family.{Family}
use Rattle.acl_packet.specs.declared.addresses.Family.TheVariants.{V4, V6}
use Rattle.acl_packet.specs.declared.packets.Conn.TheVariants as conns
use Rattle.acl_packet.specs.declared.packet_fields.Field.TheVariants.{IcmpType, IcmpCode}
use Rattle.acl_packet.specs.declared.packets.Packet.{Packet}
use Rattle.acl_packet.specs.Addresses.{covers, same_family}
use Rattle.acl_host.specs.declared.days.Day.{Day}
use Rattle.acl_sets.specs.declared.sets.Range.{Range}
use Rattle.acl_sets.specs.Ranges.{IsNormal, holds}
use Rattle.acl_sets.proofs.RangeLaws.{first-holds}
use Rattle.acl_target.specs.declared.targets.Kind.{Kind}
use Rattle.acl_target.specs.declared.targets.Kind.TheVariants.{Iptables}
use Rattle.acl_target.specs.declared.targets.Target.{Target}
use Rattle.acl_terms.specs.declared.options.Mode.{Mode}
use Rattle.acl_terms.specs.declared.options.Mode.TheVariants.{Stateful, Stateless}
use Rattle.acl_terms.specs.declared.sides.SidePair.{SidePair}
use Rattle.acl_terms.specs.declared.terms.Term.{Term}
use Rattle.acl_terms.specs.Outcomes.{mode_of}
use Rattle.acl_terms.specs.Resolved.{destinations_on, is_pair_empty, is_term_live, pairs_of, sources_on, sports_on}
use Rattle.acl_terms.proofs.FieldLaws.{icmp_match}
use Rattle.acl_platform.specs.declared.rules.Rule.{Rule}
use Rattle.acl_platform.specs.declared.rules.Test.{Test}
use Rattle.acl_platform.specs.declared.rules.Test.TheVariants as tests
use Rattle.acl_platform.specs.Rules.{passes, rule_holds, sets_hold}
use Rattle.acl_expand.specs.declared.conditions.Conditions.{Conditions}
use Rattle.acl_expand.specs.TermRules.{conditions_by, family_rules, members, pair_rules, rule_of, term_rules}
use Rattle.acl_expand.proofs.HoldLaws.{IsInRange, rule-sets, with-sets}
use Rattle.acl_expand.proofs.SideForms.{destinations-normal, some-on, some-ranges, sources-normal, sources-top, sports-normal, sports-top}
use Rattle.acl_expand.proofs.SoundLaws.{Fits, KnowsTests, option-fits}

-- A rule is of the family.
abbrev pub of_family : Family → Rule → Bool
of_family f r = same_family r.family f

-- Some packet of the family, which is one of the target's, is held by one of the rules.
abbrev pub HasPacket : Families → Family → List Rule → Type 0
HasPacket families f rules =
    (p : Packet) × IsInRange p × (p.family ≡ f) × (covers families f ≡ true) × (list_any (λ r. rule_holds r p) rules ≡ true)

-- ---- a packet for a rule

held-in : (top : ℕ) (rs : List Range) → IsNormal 0 top rs → rs ≢ [] → (x : ℕ) × (holds rs x ≡ true) × (x ≤ top)
held-in top [] n some = absurd (some refl)
held-in top (r ∷ rs) n some = (r.low, first-holds 0 top r rs n, omega (arith, n.1, n.2))

itself : (f : Family) → same_family f f ≡ true
itself V4 = refl
itself V6 = refl

-- Of a packet with SYN and RST, in a connection that is known, no test asks more.
passed : (test : Test) (f : Family) (src dst proto sport dport itype icode : ℕ)
    → passes test (record { family = f; src = src; dst = dst; proto = proto; sport = sport; dport = dport; flags = 6; itype = itype; icode = icode; conn = conns.Established }) ≡ true
passed tests.Plain f src dst proto sport dport itype icode = refl
passed tests.AckOrRst f src dst proto sport dport itype icode = refl
passed tests.SynNotAck f src dst proto sport dport itype icode = refl
passed tests.Rst f src dst proto sport dport itype icode = refl
passed tests.State f src dst proto sport dport itype icode = refl

-- A rule of a term holds some packet.
rule-packet : (kind : Kind) (families : Families) (f : Family) (t : Term) (pair : SidePair) (c : Conditions) → covers families f ≡ true
    → is_pair_empty f t pair ≡ false → Fits Iptables f t c → (more : List Rule)
    → HasPacket families f (rule_of kind f t pair c ∷ more)
rule-packet kind families f t pair c covered some fits more =
    let side = pair.addresses in
    let has = some-on f t pair some in
    let src = held-in (sources_on side f t).top (sources_on side f t).ranges (sources-normal side f t) (some-ranges (sources_on side f t) has.sources) in
    let dst = held-in (destinations_on side f t).top (destinations_on side f t).ranges (destinations-normal side f t)
    (some-ranges (destinations_on side f t) has.destinations) in
    let sport = held-in (sports_on pair.ports t).top (sports_on pair.ports t).ranges (sports-normal pair.ports t) (some-ranges (sports_on pair.ports t) has.sports) in
    let dport = held-in 65535 c.dports.ranges fits.dports.normal fits.dports.some in
    let proto = held-in 255 c.protos.ranges fits.protos.full.normal fits.protos.full.some in
    let itype = held-in t.itypes.top t.itypes.ranges (t.sound.normal IcmpType) (t.sound.some IcmpType refl) in
    let icode = held-in t.icodes.top t.icodes.ranges (t.sound.normal IcmpCode) (t.sound.some IcmpCode refl) in
    let p : Packet = record { family = f; src = src.0; dst = dst.0; proto = proto.0; sport = sport.0; dport = dport.0; flags = 6; itype = itype.0; icode = icode.0; conn = conns.Established } in
    let src_top = sources-top side f t in
    let sport_top = sports-top pair.ports t in
    let dports : Bool = holds c.dports.ranges dport.0 in
    let icmp : Bool = icmp_match f t p in
    let codes : Bool = holds t.icodes.ranges icode.0 in
    let tail = and_from dports icmp dport.1
    (and_from (holds t.itypes.ranges itype.0) (codes && true) itype.1 (and_from codes true icode.1 refl)) in
    let ports = and_from (holds (sports_on pair.ports t).ranges sport.0) (dports && icmp) sport.1 tail in
    let to = and_from (holds (destinations_on side f t).ranges dst.0) (holds (sports_on pair.ports t).ranges sport.0 && (dports && icmp)) dst.1 ports in
    let from = and_from (holds (sources_on side f t).ranges src.0)
    (holds (destinations_on side f t).ranges dst.0 && (holds (sports_on pair.ports t).ranges sport.0 && (dports && icmp))) src.1 to in
    let sets = and_from (holds c.protos.ranges proto.0) _ proto.1 from in (
      p,
      record {
        source = subst (λ n. src.0 ≤ n) src_top src.2;
        source_port = omega (arith, sport.2, sport_top);
        destination_port = omega (arith, dport.2);
      },
      refl,
      covered,
      or_left (rule_holds (rule_of kind f t pair c) p) (list_any (λ r. rule_holds r p) more)
          (rule-sets kind f t pair c p
          ∙ and_from (same_family f f) (with-sets f t pair p (holds c.protos.ranges proto.0) dports && passes c.test p) (itself f)
          (and_from (with-sets f t pair p (holds c.protos.ranges proto.0) dports) (passes c.test p) sets
          (passed c.test f src.0 dst.0 proto.0 sport.0 dport.0 itype.0 icode.0))),
    )

-- ---- all rules of a term

-- The rules of one family are all of it.
one-family : (kind : Kind) (g f : Family) (t : Term) (pair : SidePair) (cs : List Conditions)
    → list_any (of_family f) (map (rule_of kind g t pair) cs) ≡ true → same_family g f ≡ true
one-family kind g f t pair [] h = absurd (both_ways false refl h)
one-family kind g f t pair (c ∷ cs) h = elim (or_cases (same_family g f) (list_any (of_family f) (map (rule_of kind g t pair) cs)) h) [
  | inl e ↦ e
  | inr e ↦ one-family kind g f t pair cs e
]

-- Whatever the mode is, iptables knows its tests.
all-known : (mode : Mode) → KnowsTests Iptables mode
all-known Stateful = refl
all-known Stateless = refl

first-packet : (kind : Kind) (families : Families) (f : Family) (t : Term) (pair : SidePair) (cs : List Conditions) → covers families f ≡ true
    → is_pair_empty f t pair ≡ false → AllByRecursion (Fits Iptables f t) cs
    → list_any (of_family f) (map (rule_of kind f t pair) cs) ≡ true → HasPacket families f (map (rule_of kind f t pair) cs)
first-packet kind families f t pair [] covered some fits h = absurd (both_ways false refl h)
first-packet kind families f t pair (c ∷ cs) covered some fits h =
    rule-packet kind families f t pair c covered some fits.0 (map (rule_of kind f t pair) cs)

family-same : (g f : Family) → same_family g f ≡ true → g ≡ f
family-same V4 V4 e = refl
family-same V4 V6 e = absurd (both_ways false refl e)
family-same V6 V4 e = absurd (both_ways false refl e)
family-same V6 V6 e = refl

pair-packet : (target : Target) (t : Term) (g f : Family) (pair : SidePair) → covers target.families g ≡ true
    → list_any (of_family f) (pair_rules target t g pair) ≡ true → HasPacket target.families f (pair_rules target t g pair)
unfolding pair_rules
pair-packet target t g f pair covered = by (is_pair_empty g t pair) refl
  where
    by : (b : Bool) → is_pair_empty g t pair ≡ b
        → list_any (of_family f) (cond b [] (map (rule_of target.kind g t pair) (conditions_by t.option (mode_of target) g t pair.ports))) ≡ true
        → HasPacket target.families f (cond b [] (map (rule_of target.kind g t pair) (conditions_by t.option (mode_of target) g t pair.ports)))
    by true e h = absurd (both_ways false refl h)
    by false e h =
        let cs = conditions_by t.option (mode_of target) g t pair.ports in
        let same = family-same g f (one-family target.kind g f t pair cs h) in
        let rules = map (rule_of target.kind g t pair) cs in
        subst (λ k. HasPacket target.families k rules) same
        (first-packet target.kind target.families g t pair cs covered e
        (option-fits t.option (mode_of target) Iptables g t pair refl e (all-known (mode_of target)))
        (subst (λ k. list_any (of_family k) rules ≡ true) (sym same) h))

-- What is true of the rules of each element is true of all.
each-packet : {A : Type 0} (R : A → Type 0) (families : Families) (f : Family) (rows : A → List Rule)
    → ((x : A) → R x → list_any (of_family f) (rows x) ≡ true → HasPacket families f (rows x))
    → (xs : List A) → AllByRecursion R xs → list_any (of_family f) (flat_map rows xs) ≡ true → HasPacket families f (flat_map rows xs)
each-packet R families f rows each [] r h = absurd (both_ways false refl h)
each-packet R families f rows each (x ∷ xs) r h =
    elim (or_cases (list_any (of_family f) (rows x)) (list_any (of_family f) (flat_map rows xs))
    (sym (list_any-append (of_family f) (rows x) (flat_map rows xs)) ∙ h)) [
      | inl e ↦
          let q = each x r.0 e in (
            q.0,
            q.1,
            q.2,
            q.3,
            list_any-append (λ c. rule_holds c q.0) (rows x) (flat_map rows xs)
                ∙ or_left (list_any (λ c. rule_holds c q.0) (rows x)) (list_any (λ c. rule_holds c q.0) (flat_map rows xs)) q.4,
          )
      | inr e ↦
          let q = each-packet R families f rows each xs r.1 e in (
            q.0,
            q.1,
            q.2,
            q.3,
            list_any-append (λ c. rule_holds c q.0) (rows x) (flat_map rows xs)
                ∙ or_right (list_any (λ c. rule_holds c q.0) (rows x)) (list_any (λ c. rule_holds c q.0) (flat_map rows xs)) q.4,
          )
    ]

all-same : {A : Type 0} (P : Type 0) (xs : List A) → P → AllByRecursion (λ (x : A). P) xs
all-same P [] h = tt
all-same P (x ∷ xs) h = (h, all-same P xs h)

family-packet : (target : Target) (t : Term) (f g : Family) → covers target.families g ≡ true
    → list_any (of_family f) (family_rules target t g) ≡ true → HasPacket target.families f (family_rules target t g)
unfolding family_rules
family-packet target t f g covered =
    each-packet (λ _. covers target.families g ≡ true) target.families f (pair_rules target t g)
    (λ pair is h. pair-packet target t g f pair is h) (pairs_of t) (all-same (covers target.families g ≡ true) (pairs_of t) covered)

members-covered : (families : Families) → AllByRecursion (λ g. covers families g ≡ true) (members families)
members-covered Inet = (refl, tt)
members-covered Inet6 = (refl, tt)
members-covered Mixed = (refl, (refl, tt))

-- Where a term has a rule in a family, one of its rules holds some packet of the family.
pub term-packet : (target : Target) (today : Day) (t : Term) (f : Family) → list_any (of_family f) (term_rules target today t) ≡ true
    → HasPacket target.families f (term_rules target today t)
unfolding term_rules
term-packet target today t f = by (is_term_live t target.kind today)
  where
    by : (b : Bool) → list_any (of_family f) (cond b (flat_map (family_rules target t) (members target.families)) []) ≡ true
        → HasPacket target.families f (cond b (flat_map (family_rules target t) (members target.families)) [])
    by true h =
        each-packet (λ g. covers target.families g ≡ true) target.families f (family_rules target t)
        (λ g is k. family-packet target t f g is k) (members target.families) (members-covered target.families) h
    by false h = absurd (both_ways false refl h)

-- Where some rule holds a packet, some rule is of its family.
pub holds-in-family : (rules : List Rule) (p : Packet) → list_any (λ r. rule_holds r p) rules ≡ true → list_any (of_family p.family) rules ≡ true
holds-in-family [] p h = absurd (both_ways false refl h)
holds-in-family (r ∷ rules) p h =
    elim (or_cases (rule_holds r p) (list_any (λ c. rule_holds c p) rules) h) [
      | inl e ↦ or_left (same_family r.family p.family) (list_any (of_family p.family) rules)
          (and_parts (same_family r.family p.family) (sets_hold r p && passes r.test p) e).0
      | inr e ↦ or_right (same_family r.family p.family) (list_any (of_family p.family) rules) (holds-in-family rules p e)
    ]
