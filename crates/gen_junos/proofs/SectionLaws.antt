-- The section of an accepted filter is a document.
use Rattle.std.proofs.Common.{◌≡◌, ◌≤◌, false, cond, nat_lt, List, [], ◌∷◌, length, map, None, Some, refl, ap, subst}
use Rattle.std.specs.List.{AllByRecursion, IsDistinct}
use Rattle.std.specs.Str.{bytes_eq}
use Rattle.acl_packet.specs.declared.addresses.Families.{Families}
use Rattle.acl_packet.specs.declared.addresses.Family.{Family}
use Rattle.acl_target.specs.declared.targets.Kind.TheVariants.{Juniper}
use Rattle.acl_target.specs.Clashes.{is_mixed}
use Rattle.acl_platform.specs.declared.filters.Filter.{Filter}
use Rattle.acl_platform.specs.declared.filters.Feature.TheVariants.{SctpPorts}
use Rattle.acl_platform.specs.declared.filters.Limit.TheVariants.{NameLength, NameClash, Unsupported}
use Rattle.acl_platform.specs.declared.rules.Rule.{Rule}
use Rattle.acl_platform.specs.Limits.{is_name_taken, names_sctp_ports}
use Rattle.acl_platform.specs.Platforms.{IsAccepted}
use Rattle.acl_platform.specs.SoundFilters.{IsSoundRule}
use Rattle.acl_platform.proofs.AcceptedFilters.{names-differ, not-limited, rules-are, rules-within, short-name, target-fits}
use Rattle.acl_rows.specs.RuleParts.{is_empty}
use Rattle.junos_lang.specs.Documents.{IsTerm}
use Rattle.junos_lang.specs.Texts.{Spells, text_of}
use Rattle.gen_junos.proofs.DecisionLaws.{one-family}
use Rattle.gen_junos.specs.Limits.{is_for_junos, limit_of, rule_limit}
use Rattle.acl_packet.specs.Addresses.{first_family}
use Rattle.gen_junos.specs.Sections.{default_term, entry_count, section_of, term_of, terms_of}
use Rattle.gen_junos.proofs.TermLaws.{term-is}

-- ---- a rule without a limit

record IsWithin (earlier : List Rule) (r : Rule) : Type 0 where
  short : length r.name ≤ 64
  new : is_name_taken earlier r ≡ false
  supported : names_sctp_ports r ≡ false

rule-within : (earlier : List Rule) (r : Rule) → rule_limit earlier r ≡ None → IsWithin earlier r
rule-within earlier r h =
    let place = length earlier in
    let last = cond (names_sctp_ports r) (Some (Unsupported place SctpPorts)) None in
    let name = not-limited (nat_lt 64 (length r.name)) (NameLength place) (cond (is_name_taken earlier r) (Some (NameClash place)) last) h in
    let clash = not-limited (is_name_taken earlier r) (NameClash place) last name.1 in
    record {
      short = short-name 64 (length r.name) name.0;
      new = clash.0;
      supported = (not-limited (names_sctp_ports r) (Unsupported place SctpPorts) None clash.1).0;
    }

abbrev IsSayable : Rule → Type 0
IsSayable r = (length r.name ≤ 64) × (names_sctp_ports r ≡ false)

rules-sayable : (f : Filter) → limit_of f ≡ None → AllByRecursion IsSayable f.rules
rules-sayable f h =
    rules-within rule_limit IsSayable (λ earlier r k. let w = rule-within earlier r k in (w.short, w.supported)) (entry_count f) f h

-- ---- terms

terms-valid : (fs : Families) (rules : List Rule) → is_mixed fs ≡ false → AllByRecursion (IsSoundRule Juniper fs) rules → AllByRecursion IsSayable rules
    → AllByRecursion (IsTerm (first_family fs)) (map term_of rules)
terms-valid fs [] m h w = tt
terms-valid fs (r ∷ rules) m h w =
    (subst (λ f. IsTerm f (term_of r)) (one-family fs r.family m h.0.family) (term-is fs r h.0 w.0.0 w.0.1), terms-valid fs rules m h.1 w.1)

default-is : (f : Family) → IsTerm f default_term
default-is f = record {
  noted = tt;
  named = refl;
  sources = tt;
  destinations = tt;
  protocols = tt;
  source_ports = tt;
  destination_ports = tt;
  icmp_types = tt;
  icmp_codes = tt;
  fit = refl;
}

all-valid : (fs : Families) (rules : List Rule) → is_mixed fs ≡ false → AllByRecursion (IsSoundRule Juniper fs) rules → AllByRecursion IsSayable rules
    → AllByRecursion (IsTerm (first_family fs)) (terms_of rules)
all-valid fs [] m h w = (default-is (first_family fs), tt)
all-valid fs (r ∷ rules) m h w = terms-valid fs (r ∷ rules) m h w

some-term : (rules : List Rule) → is_empty (terms_of rules) ≡ false
some-term [] = refl
some-term (r ∷ rules) = refl

same-names : (rules : List Rule) → map (λ r. r.name) rules ≡ map (λ t. t.name) (map term_of rules)
same-names [] = refl
same-names (r ∷ rules) = ap (λ ns. r.name ∷ ns) (same-names rules)

terms-differ : (rules : List Rule) → IsDistinct bytes_eq (map (λ r. r.name) rules) → IsDistinct bytes_eq (map (λ t. t.name) (terms_of rules))
unfolding IsDistinct
terms-differ [] h = (tt, tt)
terms-differ (r ∷ rules) h = subst (IsDistinct bytes_eq) (same-names (r ∷ rules)) h

-- ---- the section

pub section_is_spelled : (f : Filter) → IsAccepted is_for_junos limit_of f → Spells (text_of (section_of f ∷ [])) (section_of f ∷ [])
unfolding IsDistinct
section_is_spelled f h =
    let target = (target-fits Juniper limit_of f h).1 in
    record {
      valid = record {
        sections = (
          record {
            named = target.0.name_is;
            has_terms = some-term f.rules;
            terms = all-valid f.families f.rules target.1 (rules-are Juniper limit_of f h) (rules-sayable f h.within);
            terms_differ = terms-differ f.rules
                (names-differ rule_limit (λ earlier r k. (rule-within earlier r k).new) (entry_count f) f h.within);
          },
          tt,
        );
        names_differ = (tt, tt);
      };
      written = refl;
    }
