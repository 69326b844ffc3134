-- The rules of a workload's terms on its targets.
use Rattle.std.proofs.Common.{◌≡◌, ℕ, ◌+◌, ◌*◌, ◌<◌, ◌≤◌, zero, suc, true, false, nat_le, List, [], ◌∷◌, ◌++◌, flat_map, codes, None, refl, ap, ◌∙◌, arith}
use Rattle.std.specs.List.{range_with_len}
use Rattle.std.proofs.lemmas.Bool.{cond-true}
use Rattle.std.proofs.lemmas.Bool.Decides.{nat_tests}
use Rattle.acl_packet.specs.declared.addresses.Family.{Family}
use Rattle.acl_packet.specs.declared.addresses.Family.TheVariants.{V4, V6}
use Rattle.acl_packet.specs.declared.filtering.Verdict.TheVariants.{Accept}
use Rattle.acl_packet.specs.Addresses.{top_address, everywhere}
use Rattle.acl_host.specs.declared.days.Day.{Day}
use Rattle.acl_sets.specs.ComputableLeastLists.{halved_space}
use Rattle.acl_sets.specs.ComputableSets.{cut_all}
use Rattle.acl_naming.specs.Ports.{top_port}
use Rattle.acl_packet.specs.declared.addresses.Prefix.{Prefix}
use Rattle.acl_target.specs.declared.targets.Kind.{Kind}
use Rattle.acl_target.specs.declared.targets.Kind.TheVariants.{Cisco, Juniper, Iptables, Nftables}
use Rattle.acl_target.specs.declared.targets.Target.{Target}
use Rattle.acl_packet.specs.Packets.{foreign_of}
use Rattle.acl_terms.specs.Resolved.{is_empty_in, is_term_live}
use Rattle.acl_platform.specs.declared.rules.Rule.{Rule}
use Rattle.acl_platform.specs.declared.rules.Test.TheVariants.{Plain}
use Rattle.acl_expand.specs.TermRules.{family_rules, just, pair_rules, rules_of, term_rules, verdict_on}
use Rattle.acl_expand.specs.ExpansionSlips.{first_slip, header_slip, prefix_slip, prefixes_of}
use Rattle.acl_expand.specs.SlipSteps.{counted_slip, prefixes_with}
use Rattle.acl_expand.proofs.SlipLaws.{first_slip_is_counted}
use Rattle.policy_grammar.specs.TargetTexts.{LineText, line_meant}
use Rattle.policy_grammar.specs.TargetTexts.{Choice}
use Rattle.acl_packet.specs.declared.addresses.Families.TheVariants.{Inet, Mixed}
use Rattle.acl_packet.specs.declared.filtering.Hook.TheVariants.{Forward}
use Rattle.std.specs.Prelude.{Some}
use Rattle.std.specs.Option.{option_or}
use Rattle.aclgen_core.specs.WorkloadPolicies.{at_line, lines_before, term_name, word_at}
use Rattle.aclgen_core.specs.WorkloadTerms.{all_to, ports, protocols, range, source4, source6}
use Rattle.aclgen_core.proofs.OneBlock.{descend}
use Rattle.aclgen_core.proofs.ResolvedTerms.{first_small, resolved_term, rest_small, terms_from}

-- ---- the targets

abbrev pub cisco : Target
cisco = line_meant (at_line 2) 1 (LineText.CiscoLine (word_at 2 (codes "w")) (Some (at_line 2, Mixed)))

abbrev pub juniper : Target
juniper = line_meant (at_line 3) 1 (LineText.JuniperLine (word_at 3 (codes "w")) (Some (at_line 3, Inet)))

abbrev pub iptables : Target
iptables = line_meant (at_line 4) 1 (LineText.IptablesLine (at_line 4) Forward ((at_line 4, Choice.DropWord) ∷ []))

abbrev pub nftables : Target
nftables = line_meant (at_line 5) 1 (LineText.NftablesLine (at_line 5) Mixed (at_line 5) Forward [])

-- ---- the rules of a term

-- The networks as least lists, and the list of all addresses.
abbrev pub least4 : ℕ → List Prefix
least4 i = record { family = V4; first = 167772160 + i * 256; len = 24 } ∷ []

abbrev pub least6 : ℕ → List Prefix
least6 i = record { family = V6; first = 42540766411282592856903984951653826560 + i * 1208925819614629174706176; len = 48 } ∷ []

abbrev all_addresses : Family → List Prefix
all_addresses f = everywhere f ∷ []

halved4 : (i : ℕ) → i < 1024 → halved_space V4 (source4 i) ≡ least4 i
halved4 i below = descend V4 8 24 0 (167772160 + i * 256) (655360 + i) (omega arith) (omega (arith, below))

halved6 : (i : ℕ) → i < 1024 → halved_space V6 (source6 i) ≡ least6 i
halved6 i below = descend V6 80 48 0 (42540766411282592856903984951653826560 + i * 1208925819614629174706176) (35188897218560 + i) (omega arith) (omega (arith, below))

all4 : halved_space V4 (range 0 (top_address V4) ∷ []) ≡ all_addresses V4
all4 = descend V4 32 0 0 0 0 (omega arith) (omega arith)

all6 : halved_space V6 (range 0 (top_address V6) ∷ []) ≡ all_addresses V6
all6 = descend V6 128 0 0 0 0 (omega arith) (omega arith)

abbrev pub rule_at : Kind → ℕ → Family → List Prefix → List Prefix → Rule
rule_at kind i f src dst = record {
  name = term_name i ++ [];
  place = at_line (lines_before i + 1);
  note = [];
  family = f;
  src = src;
  dst = dst;
  protos = record { top = 255; ranges = cut_all (just (foreign_of f) ∷ []) protocols.ranges };
  sports = all_to top_port;
  dports = record { top = top_port; ranges = ports i };
  itypes = all_to 255;
  icodes = all_to 255;
  test = Plain;
  verdict = verdict_on kind Accept;
  log = false;
}

abbrev pub rule4 : Kind → ℕ → Rule
rule4 kind i = rule_at kind i V4 (least4 i) (all_addresses V4)

abbrev pub rule6 : Kind → ℕ → Rule
rule6 kind i = rule_at kind i V6 (least6 i) (all_addresses V6)

-- The rules by the networks and the list of all addresses, which the least lists are.
abbrev found4 : Kind → ℕ → Rule
found4 kind i = rule_at kind i V4 (halved_space V4 (source4 i)) (halved_space V4 (range 0 (top_address V4) ∷ []))

abbrev found6 : Kind → ℕ → Rule
found6 kind i = rule_at kind i V6 (halved_space V6 (source6 i)) (halved_space V6 (range 0 (top_address V6) ∷ []))

rule4_is : (kind : Kind) (i : ℕ) → i < 1024 → found4 kind i ≡ rule4 kind i
rule4_is kind i below = λ j. rule_at kind i V4 (halved4 i below j) (all4 j)

rule6_is : (kind : Kind) (i : ℕ) → i < 1024 → found6 kind i ≡ rule6 kind i
rule6_is kind i below = λ j. rule_at kind i V6 (halved6 i below j) (all6 j)

-- What a workload's terms are on a target: they have these rules, which have few prefixes, and no extension header.
pub record Expands (target : Target) (rules_at : ℕ → List Rule) : Type 0 where
  pub rules_are : (today : Day) (i : ℕ) (below : i < 1024) → term_rules target today (resolved_term i below) ≡ rules_at i
  pub few_prefixes : (i : ℕ) → prefixes_of (rules_at i) ≤ 4
  pub no_header : (today : Day) (i : ℕ) (below : i < 1024) → header_slip target today (resolved_term i below) ≡ None

abbrev pub inet_rules : Kind → ℕ → List Rule
inet_rules kind i = rule4 kind i ∷ []

abbrev pub mixed_rules : Kind → ℕ → List Rule
mixed_rules kind i = rule4 kind i ∷ rule6 kind i ∷ []

-- A target with such rules for each term, and no extension header.
record Finds (target : Target) (found : ℕ → List Rule) : Type 0 where
  rules_are : (today : Day) (i : ℕ) (below : i < 1024) → term_rules target today (resolved_term i below) ≡ found i
  no_header : (today : Day) (i : ℕ) (below : i < 1024) → header_slip target today (resolved_term i below) ≡ None

inet_expands : (kind : Kind) (target : Target) → Finds target (λ i. found4 kind i ∷ []) → Expands target (inet_rules kind)
inet_expands kind target finds = record {
  rules_are = λ today i below. finds.rules_are today i below ∙ ap (λ r. r ∷ []) (rule4_is kind i below);
  few_prefixes = λ i. omega arith;
  no_header = finds.no_header;
}

mixed_expands : (kind : Kind) (target : Target) → Finds target (λ i. found4 kind i ∷ found6 kind i ∷ [])
    → Expands target (mixed_rules kind)
mixed_expands kind target finds = record {
  rules_are = λ today i below. finds.rules_are today i below ∙ (λ j. rule4_is kind i below j ∷ rule6_is kind i below j ∷ []);
  few_prefixes = λ i. omega arith;
  no_header = finds.no_header;
}

pub cisco_expands : Expands cisco (mixed_rules Cisco)
unfolding term_rules family_rules pair_rules is_empty_in is_term_live header_slip
cisco_expands = mixed_expands Cisco cisco (record { rules_are = λ today i below. refl; no_header = λ today i below. refl })

pub juniper_expands : Expands juniper (inet_rules Juniper)
unfolding term_rules family_rules pair_rules is_empty_in is_term_live header_slip
juniper_expands = inet_expands Juniper juniper (record { rules_are = λ today i below. refl; no_header = λ today i below. refl })

pub iptables_expands : Expands iptables (inet_rules Iptables)
unfolding term_rules family_rules pair_rules is_empty_in is_term_live header_slip
iptables_expands = inet_expands Iptables iptables (record { rules_are = λ today i below. refl; no_header = λ today i below. refl })

pub nftables_expands : Expands nftables (mixed_rules Nftables)
unfolding term_rules family_rules pair_rules is_empty_in is_term_live header_slip
nftables_expands = mixed_expands Nftables nftables (record { rules_are = λ today i below. refl; no_header = λ today i below. refl })

-- ---- all terms

pub all_rules : (target : Target) (rules_at : ℕ → List Rule) → Expands target rules_at → (today : Day) (a n : ℕ) (room : a + n ≤ 1024)
    → rules_of target today (terms_from a n room) ≡ flat_map rules_at (range_with_len a n)
unfolding terms_from
all_rules target rules_at h today a zero room = refl
all_rules target rules_at h today a (suc n) room =
    ap (λ rules. rules ++ rules_of target today (terms_from (a + 1) n (rest_small a n room))) (h.rules_are today a (first_small a n room))
    ∙ ap (λ rules. rules_at a ++ rules) (all_rules target rules_at h today (a + 1) n (rest_small a n room))

is_few : (n m : ℕ) → n ≤ m → nat_le n m ≡ true
is_few n m h = grind (arith, nat_tests)

no_counted_slip : (target : Target) (rules_at : ℕ → List Rule) → Expands target rules_at → (today : Day) (a n before : ℕ) (room : a + n ≤ 1024)
    → before ≤ 4 * a → counted_slip target today before (terms_from a n room) ≡ None
unfolding terms_from
no_counted_slip target rules_at h today a zero before room so_far = refl
no_counted_slip target rules_at h today a (suc n) before room so_far =
    let below = first_small a n room in
    let t = resolved_term a below in
    let rest = terms_from (a + 1) n (rest_small a n room) in
    let counted : prefixes_of (term_rules target today t) ≡ prefixes_of (rules_at a) = ap prefixes_of (h.rules_are today a below) in
    let sum : prefixes_with target today before t ≤ 4 * (a + 1) = omega (arith, counted, h.few_prefixes a, so_far) in
    ap (λ o. option_or (option_or o (prefix_slip t (prefixes_with target today before t))) (counted_slip target today (prefixes_with target today before t) rest))
    (h.no_header today a below)
    ∙ ap (λ o. option_or o (counted_slip target today (prefixes_with target today before t) rest))
    (cond-true (nat_le (prefixes_with target today before t) 200000) None _ (is_few (prefixes_with target today before t) 200000 (omega (arith, sum, below))))
    ∙ no_counted_slip target rules_at h today (a + 1) n (prefixes_with target today before t) (rest_small a n room) sum

pub no_first_slip : (target : Target) (rules_at : ℕ → List Rule) → Expands target rules_at → (today : Day) (n : ℕ) (room : 0 + n ≤ 1024)
    → first_slip target today (terms_from 0 n room) ≡ None
no_first_slip target rules_at h today n room =
    first_slip_is_counted target today (terms_from 0 n room) ∙ no_counted_slip target rules_at h today 0 n 0 room (omega arith)
