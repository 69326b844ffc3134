-- The section of an accepted filter is a document.
use Rattle.std.proofs.Common.{◌≡◌, ℕ, suc, lit≤, ◌≤◌, Bool, true, false, cond, nat_lt, List, [], ◌∷◌, ◌++◌, length, map, flat_map, codes, None, Some, refl, ap, sym, subst, append-nil}
use Rattle.std.specs.List.{AllByRecursion, IsDistinct}
use Rattle.std.specs.Str.{bytes_eq}
use Rattle.std.proofs.lemmas.Bool.{false_from_ne_true}
use Rattle.std.proofs.Math.Nat.{le_refl, le_step, le_trans, not-suc-le_self}
use Rattle.std.proofs.lemmas.Slice.Eq.{bytes_eq-Decides}
use Rattle.acl_packet.specs.declared.addresses.Families.{Families}
use Rattle.acl_packet.specs.declared.addresses.Families.TheVariants.{Inet, Inet6, Mixed}
use Rattle.acl_packet.specs.declared.addresses.Family.{Family}
use Rattle.acl_packet.specs.declared.addresses.Family.TheVariants.{V4, V6}
use Rattle.acl_packet.specs.Addresses.{same_family}
use Rattle.acl_packet.proofs.PrefixLaws.{everywhere_is}
use Rattle.acl_text.specs.Names.{is_safe_text}
use Rattle.acl_rows.proofs.DecisionLaws.{family_decides}
use Rattle.acl_text.proofs.ListLaws.{all_append}
use Rattle.acl_target.specs.declared.targets.Ending.TheVariants.{Neighbours}
use Rattle.acl_target.specs.declared.targets.Kind.TheVariants.{Cisco}
use Rattle.acl_target.specs.TargetData.{IsDevice}
use Rattle.acl_platform.specs.declared.filters.Feature.TheVariants.{TcpInitial, SctpPorts}
use Rattle.acl_platform.specs.declared.filters.Filter.{Filter}
use Rattle.acl_platform.specs.declared.filters.Limit.TheVariants.{NameLength, Unsupported}
use Rattle.acl_platform.specs.declared.rules.Rule.{Rule}
use Rattle.acl_platform.proofs.CombinationFacts.{all-map, all-weaker, combination-facts, IsCombinationOf}
use Rattle.acl_platform.proofs.AcceptedFilters
use Rattle.acl_platform.proofs.AcceptedFilters.{not-limited, rules-within, short-name, target-fits}
use Rattle.acl_platform.proofs.RuleNames.{name-safe, notes-safe, rule-name}
use Rattle.acl_platform.specs.Combinations.{combinations}
use Rattle.acl_platform.specs.Limits.{names_sctp_ports}
use Rattle.acl_platform.specs.Platforms.{IsAccepted}
use Rattle.acl_platform.specs.Remarks.{remarks}
use Rattle.acl_platform.specs.SoundFilters.{IsRuleName, IsSoundRule, target_of}
use Rattle.cisco_lang.specs.declared.documents.Item.{Item}
use Rattle.cisco_lang.specs.declared.documents.Item.TheVariants.{Remark, Entry as AnEntry}
use Rattle.cisco_lang.specs.Documents.{heads_of, IsEntry, IsItem, IsList, match_all_fits}
use Rattle.cisco_lang.specs.Texts.{Spells, text_of}
use Rattle.gen_cisco.proofs.EntryLaws.{entry-is, IsSayable}
use Rattle.gen_cisco.specs.Limits.{asks_initial_in_ipv6, is_for_cisco, limit_of, rule_limit}
use Rattle.gen_cisco.specs.Sections.{closed, entry_of, entry_count, items_in, list_of, rule_items, section_of, wide_entry}

-- ---- an accepted filter

pub kind-is : (f : Filter) → is_for_cisco f ≡ true → f.kind ≡ Cisco
kind-is f h = AcceptedFilters.kind-is Cisco f h

pub device-is : (f : Filter) → IsAccepted is_for_cisco limit_of f → (stateful : Bool) × IsDevice Neighbours (target_of stateful f)
device-is f h = target-fits Cisco limit_of f h

pub rules-are : (f : Filter) → IsAccepted is_for_cisco limit_of f → AllByRecursion (IsSoundRule Cisco f.families) f.rules
rules-are f h = AcceptedFilters.rules-are Cisco limit_of f h

-- A rule without a limit.
abbrev pub IsWithin : Rule → Type 0
IsWithin r = (length r.name ≤ 64) × IsSayable r

rule-within : (earlier : List Rule) (r : Rule) → rule_limit earlier r ≡ None → IsWithin r
rule-within earlier r h =
    let place = length earlier in
    let last = cond (names_sctp_ports r) (Some (Unsupported place SctpPorts)) None in
    let behind = cond (asks_initial_in_ipv6 r) (Some (Unsupported place TcpInitial)) last in
    let name = not-limited (nat_lt 64 (length r.name)) (NameLength place) behind h in
    let initial = not-limited (asks_initial_in_ipv6 r) (Unsupported place TcpInitial) last name.1 in (
      short-name 64 (length r.name) name.0,
      record {
        initial = initial.0;
        ports = (not-limited (names_sctp_ports r) (Unsupported place SctpPorts) None initial.1).0;
      },
    )

rules-are-within : (f : Filter) → limit_of f ≡ None → AllByRecursion IsWithin f.rules
rules-are-within f h = rules-within rule_limit IsWithin rule-within (entry_count f) f h

-- ---- items

name-is-safe : (name : List ℕ) → IsRuleName name → length name ≤ 64 → is_safe_text name ≡ true
name-is-safe name h short = name-safe name (rule-name name h (le_trans short (lit≤ tt)))

rule-valid : (families : Families) (r : Rule) → IsSoundRule Cisco families r → IsWithin r → AllByRecursion (IsItem r.family) (rule_items r)
rule-valid families r h w =
    let texts = map (λ text. Remark text) (remarks r) in
    let entries = map (λ c. AnEntry (entry_of r c)) (combinations r) in
    all_append (IsItem r.family) texts entries
    (all-map (IsItem r.family) (λ text. Remark text) (remarks r) (name-is-safe r.name h.name w.0, notes-safe r.note h.note))
    (all-map (IsItem r.family) (λ c. AnEntry (entry_of r c)) (combinations r)
    (all-weaker {P = IsCombinationOf r} {Q = λ c. IsEntry r.family (entry_of r c)} (λ c k. entry-is families r c h w.1 k) (combinations r)
    (combination-facts Cisco families r h)))

valid-by : (families : Families) (family : Family) (r : Rule) (b : Bool) → same_family r.family family ≡ b → IsSoundRule Cisco families r → IsWithin r
    → AllByRecursion (IsItem family) (cond b (rule_items r) [])
valid-by families family r true e h w =
    let P : Family → Type 0 = λ g. AllByRecursion (IsItem g) (rule_items r) in
    subst P ((family_decides r.family family).0 e) (rule-valid families r h w)
valid-by families family r false e h w = tt

rules-valid : (families : Families) (family : Family) (rules : List Rule) → AllByRecursion (IsSoundRule Cisco families) rules → AllByRecursion IsWithin rules
    → AllByRecursion (IsItem family) (flat_map (items_in family) rules)
rules-valid families family [] h w = tt
rules-valid families family (r ∷ rules) h w =
    all_append (IsItem family) (items_in family r) (flat_map (items_in family) rules)
    (valid-by families family r (same_family r.family family) refl h.0 w.0) (rules-valid families family rules h.1 w.1)

no-flags : (family : Family) → match_all_fits family None ≡ true
no-flags V4 = refl
no-flags V6 = refl

denial-is : (family : Family) → IsEntry family (wide_entry family false None None)
denial-is family = record {
  protocol = tt;
  source = everywhere_is family;
  source_ports = tt;
  destination = everywhere_is family;
  destination_ports = tt;
  icmp_type = tt;
  icmp_code = tt;
  fit = no-flags family;
}

neighbours-are : (itype : ℕ) → itype ≤ 254 → IsEntry V6 (wide_entry V6 true (Some 58) (Some itype))
neighbours-are itype h = record {
  protocol = (lit≤ tt, lit≤ tt);
  source = everywhere_is V6;
  source_ports = tt;
  destination = everywhere_is V6;
  destination_ports = tt;
  icmp_type = h;
  icmp_code = tt;
  fit = refl;
}

closed-valid : (family : Family) (items : List Item) → AllByRecursion (IsItem family) items → AllByRecursion (IsItem family) (closed family items)
closed-valid V4 [] h = (denial-is V4, tt)
closed-valid V6 [] h = (neighbours-are 136 (lit≤ tt), (neighbours-are 135 (lit≤ tt), (denial-is V6, tt)))
closed-valid family (item ∷ items) h = h

list-valid : (f : Filter) → IsAccepted is_for_cisco limit_of f → (family : Family) (name : List ℕ) → IsList (list_of f.rules (family, name))
list-valid f h family name =
    closed-valid family (flat_map (items_in family) f.rules)
    (rules-valid f.families family f.rules (rules-are f h) (rules-are-within f h.within))

-- ---- lists

heads-same : (rules : List Rule) (fs : Families) (name : List ℕ) → map (λ l. (l.family, l.name)) (map (list_of rules) (heads_of fs name)) ≡ heads_of fs name
heads-same rules Inet name = refl
heads-same rules Inet6 name = refl
heads-same rules Mixed name = refl

lists-valid : (rules : List Rule) (fs : Families) (name : List ℕ) → ((family : Family) (n : List ℕ) → IsList (list_of rules (family, n)))
    → AllByRecursion IsList (map (list_of rules) (heads_of fs name))
lists-valid rules Inet name h = (h V4 name, tt)
lists-valid rules Inet6 name h = (h V6 name, tt)
lists-valid rules Mixed name h = (h V4 name, (h V6 (codes "ipv6-" ++ name), tt))

longer : (name : List ℕ) → bytes_eq name (codes "ipv6-" ++ name) ≡ false
longer name = false_from_ne_true (bytes_eq name (codes "ipv6-" ++ name)) (λ e.
    let n = length name in
    let size = ap length ((bytes_eq-Decides name (codes "ipv6-" ++ name)).0 e) in
    let above : suc n ≤ length (codes "ipv6-" ++ name) = le_step (le_step (le_step (le_step (le_refl (suc n))))) in
    absurd (not-suc-le_self n (subst (λ m. suc n ≤ m) (sym size) above)))

pub lists-differ : (rules : List Rule) (fs : Families) (name : List ℕ)
    → IsDistinct bytes_eq (map (λ l. l.name) (map (list_of rules) (heads_of fs name)))
unfolding IsDistinct
lists-differ rules Inet name = (tt, tt)
lists-differ rules Inet6 name = (tt, tt)
lists-differ rules Mixed name = ((longer name, tt), (tt, tt))

one-section : (names : List (List ℕ)) → IsDistinct bytes_eq names → IsDistinct bytes_eq (names ++ [])
one-section names h = subst (IsDistinct bytes_eq) (sym (append-nil names)) h

pub section_is_spelled : (f : Filter) → IsAccepted is_for_cisco limit_of f → Spells (text_of (section_of f ∷ [])) (section_of f ∷ [])
section_is_spelled f h = record {
  valid = record {
    sections = (
      record {
        named = (device-is f h).1.name_is;
        heads = heads-same f.rules f.families f.name;
        lists = lists-valid f.rules f.families f.name (list-valid f h);
      },
      tt,
    );
    names_differ = one-section (map (λ l. l.name) (section_of f).lists) (lists-differ f.rules f.families f.name);
  };
  written = refl;
}
