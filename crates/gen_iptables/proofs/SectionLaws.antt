-- The section of an accepted filter is a document.
use Rattle.std.proofs.Common.{lit≤, ◌≡◌, ℕ, ◌≤◌, Bool, true, false, cond, nat_le, nat_lt, List, [], ◌∷◌, length, map, None, Some, refl, ap, sym, subst}
use Rattle.std.specs.List.{AllByRecursion, IsDistinct}
use Rattle.std.specs.Str.{bytes_eq}
use Rattle.std.proofs.lemmas.Bool.{and_from, false≢true}
use Rattle.std.proofs.Math.Nat.{le_trans}
use Rattle.acl_packet.specs.declared.addresses.Families.{Families}
use Rattle.acl_packet.specs.declared.addresses.Families.TheVariants.{Inet, Inet6, Mixed}
use Rattle.acl_packet.specs.declared.addresses.Family.{Family}
use Rattle.acl_packet.specs.declared.addresses.Family.TheVariants.{V4, V6}
use Rattle.acl_packet.specs.Addresses.{covers, first_family}
use Rattle.acl_text.specs.Names.{is_name}
use Rattle.acl_rows.proofs.DecisionLaws.{le_decides}
use Rattle.acl_target.specs.declared.targets.Kind.TheVariants.{Iptables}
use Rattle.acl_target.specs.Clashes.{is_mixed}
use Rattle.acl_target.specs.TargetData.{IsChain as IsChainTarget}
use Rattle.acl_platform.specs.declared.filters.Filter.{Filter}
use Rattle.acl_platform.specs.declared.filters.Limit.TheVariants.{NameLength, NameClash}
use Rattle.acl_platform.specs.declared.rules.Rule.{Rule}
use Rattle.acl_platform.specs.Limits.{is_name_taken}
use Rattle.acl_platform.specs.Platforms.{IsAccepted}
use Rattle.acl_platform.specs.SoundFilters.{IsRuleName, IsSoundRule, target_of}
use Rattle.acl_platform.proofs.AcceptedFilters.{names-differ, not-limited, rules-are, rules-within, short-name, target-fits}
use Rattle.acl_platform.proofs.RuleNames.{name-safe, notes-safe, rule-name}
use Rattle.ipt_lang.specs.Documents.{chain_names, IsChain}
use Rattle.ipt_lang.specs.Texts.{Spells, text_of}
use Rattle.gen_iptables.specs.Limits.{is_for_iptables, limit_of, rule_limit}
use Rattle.gen_iptables.proofs.RuleLaws.{rules-are-valid}
use Rattle.gen_iptables.specs.Sections.{chain_of, entry_count, section_of}

-- ---- an accepted filter

abbrev pub IsTaken : Filter → Type 0
IsTaken f = IsAccepted is_for_iptables limit_of f

pub chain-target : (f : Filter) → IsTaken f → (stateful : Bool) × IsChainTarget (target_of stateful f)
chain-target f h = target-fits Iptables limit_of f h

pub sound-rules : (f : Filter) → IsTaken f → AllByRecursion (IsSoundRule Iptables f.families) f.rules
sound-rules f h = rules-are Iptables limit_of f h

pub one-family : (fs : Families) (f : Family) → is_mixed fs ≡ false → covers fs f ≡ true → f ≡ first_family fs
one-family Inet V4 m h = refl
one-family Inet V6 m h = absurd (false≢true h)
one-family Inet6 V4 m h = absurd (false≢true h)
one-family Inet6 V6 m h = refl
one-family Mixed f m h = absurd (false≢true (sym m))

-- ---- a rule without a limit

record IsWithin (earlier : List Rule) (r : Rule) : Type 0 where
  short : length r.name ≤ 24
  new : is_name_taken earlier r ≡ false

rule-within : (earlier : List Rule) (r : Rule) → rule_limit earlier r ≡ None → IsWithin earlier r
rule-within earlier r h =
    let place = length earlier in
    let name = not-limited (nat_lt 24 (length r.name)) (NameLength place) (cond (is_name_taken earlier r) (Some (NameClash place)) None) h in
    record {
      short = short-name 24 (length r.name) name.0;
      new = (not-limited (is_name_taken earlier r) (NameClash place) None name.1).0;
    }

abbrev IsShort : Rule → Type 0
IsShort r = length r.name ≤ 24

rules-short : (f : Filter) → limit_of f ≡ None → AllByRecursion IsShort f.rules
rules-short f h = rules-within rule_limit IsShort (λ earlier r k. (rule-within earlier r k).short) (entry_count f) f h

-- ---- chains

named : (name : List ℕ) → IsRuleName name → length name ≤ 24 → is_name name ≡ true
named name h short = rule-name name h (le_trans short (lit≤ tt))

chain-is : (families : Families) (r : Rule) → IsSoundRule Iptables families r → IsShort r → IsChain r.family (chain_of r)
chain-is families r h short =
    let name = named r.name h.name short in
    record {
      remarks = (name-safe r.name name, notes-safe r.note h.note);
      named = and_from (is_name r.name) (nat_le (length r.name) 24) name ((le_decides (length r.name) 24).1 short);
      rules = rules-are-valid families r h;
    }

chains-are : (families : Families) (rules : List Rule) → is_mixed families ≡ false → AllByRecursion (IsSoundRule Iptables families) rules
    → AllByRecursion IsShort rules → AllByRecursion (IsChain (first_family families)) (map chain_of rules)
chains-are families [] m h w = tt
chains-are families (r ∷ rules) m h w = (
  subst (λ f. IsChain f (chain_of r)) (one-family families r.family m h.0.family) (chain-is families r h.0 w.0),
  chains-are families rules m h.1 w.1,
)

same-names : (rules : List Rule) → map (λ r. r.name) rules ≡ chain_names (map chain_of rules)
same-names [] = refl
same-names (r ∷ rules) = ap (λ ns. r.name ∷ ns) (same-names rules)

-- ---- the section

pub section_is_spelled : (f : Filter) → IsTaken f → Spells (text_of (section_of f ∷ [])) (section_of f ∷ [])
unfolding IsDistinct
section_is_spelled f h =
    let differ = names-differ rule_limit (λ earlier r k. (rule-within earlier r k).new) (entry_count f) f h.within in
    record {
      valid = record {
        sections = (
          record {
            chains = chains-are f.families f.rules (chain-target f h).1.one_family (sound-rules f h) (rules-short f h.within);
            names_differ = subst (IsDistinct bytes_eq) (same-names f.rules) differ;
          },
          tt,
        );
        names_differ = (tt, tt);
      };
      written = refl;
    }
