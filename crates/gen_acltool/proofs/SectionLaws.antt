-- The section of an accepted filter is a document.
use Rattle.std.proofs.Common.{◌≡◌, ℕ, lit≤, ◌≤◌, Bool, true, false, not, ◌&&◌, cond, nat_le, nat_lt, List, [], ◌∷◌, length, map, flat_map, None, Some, refl, subst, arith}
use Rattle.std.specs.List.{AllByRecursion, IsDistinct}
use Rattle.std.proofs.lemmas.Bool.{and_parts, false≢true, true≢false}
use Rattle.std.proofs.Math.Nat.{le_trans}
use Rattle.acl_packet.specs.declared.addresses.Families.{Families}
use Rattle.acl_packet.specs.declared.addresses.Families.TheVariants.{Inet, Inet6, Mixed}
use Rattle.acl_packet.specs.declared.addresses.Family.{Family}
use Rattle.acl_packet.specs.declared.addresses.Family.TheVariants.{V4, V6}
use Rattle.acl_packet.specs.Addresses.{covers, IsPrefixOf}
use Rattle.acl_packet.proofs.PrefixLaws.{everywhere_is}
use Rattle.acl_text.proofs.ListLaws.{all_append}
use Rattle.acl_rows.proofs.DecisionLaws.{le_decides}
use Rattle.acl_target.specs.declared.targets.Ending.TheVariants.{Neighbours}
use Rattle.acl_target.specs.declared.targets.Kind.TheVariants.{Cisco}
use Rattle.acl_target.specs.TargetData.{IsDevice}
use Rattle.acl_platform.specs.declared.filters.Feature.TheVariants.{MoreThanSources}
use Rattle.acl_platform.specs.declared.filters.Filter.{Filter}
use Rattle.acl_platform.specs.declared.filters.Limit.TheVariants.{NameLength, Unsupported}
use Rattle.acl_platform.specs.declared.rules.Rule.{Rule}
use Rattle.acl_platform.specs.Limits.{is_for}
use Rattle.acl_platform.specs.Platforms.{IsAccepted}
use Rattle.acl_platform.specs.Remarks.{remarks}
use Rattle.acl_platform.specs.SoundFilters.{IsSoundRule, target_of}
use Rattle.acl_platform.proofs.AcceptedFilters
use Rattle.acl_platform.proofs.AcceptedFilters.{not-limited, rules-within, short-name, target-fits}
use Rattle.acl_platform.proofs.CombinationFacts.{all-map, all-prefixes}
use Rattle.acl_platform.proofs.RuleNames.{name-safe, notes-safe, rule-name}
use Rattle.std_lang.specs.declared.documents.Item.TheVariants.{Remark, Entry as AnEntry}
use Rattle.std_lang.specs.Documents.{IsItem}
use Rattle.std_lang.specs.Texts.{Spells, text_of}
use Rattle.gen_acltool.specs.Limits.{has_number, is_for_standard, is_inet, limit_of, rule_limit, says_sources}
use Rattle.gen_acltool.specs.Sections.{entry_count, entry_of, list_items, list_number, rule_items, section_of}

-- ---- an accepted filter

inet-is : (fs : Families) → is_inet fs ≡ true → fs ≡ Inet
inet-is Inet h = refl
inet-is Inet6 h = absurd (false≢true h)
inet-is Mixed h = absurd (false≢true h)

pub families-are : (first : ℕ) (f : Filter) → is_for_standard first f ≡ true → f.families ≡ Inet
families-are first f h =
    inet-is f.families (and_parts (is_inet f.families) (has_number first f) (and_parts (is_for Cisco f) (is_inet f.families && has_number first f) h).1).0

pub number-is : (first : ℕ) (f : Filter) → is_for_standard first f ≡ true → (1 ≤ first) × (list_number first f ≤ 99)
number-is first f h =
    let own = and_parts (is_inet f.families) (has_number first f) (and_parts (is_for Cisco f) (is_inet f.families && has_number first f) h).1 in
    let parts = and_parts (nat_le 1 first) (nat_le (list_number first f) 99) own.1 in
    ((le_decides 1 first).0 parts.0, (le_decides (list_number first f) 99).0 parts.1)

as-cisco : (first : ℕ) (f : Filter) → IsAccepted (is_for_standard first) limit_of f → IsAccepted (is_for Cisco) limit_of f
as-cisco first f h = record {
  handled = (and_parts (is_for Cisco f) (is_inet f.families && has_number first f) h.handled).0;
  sound = h.sound;
  within = h.within;
}

pub device-is : (first : ℕ) (f : Filter) → IsAccepted (is_for_standard first) limit_of f
    → (stateful : Bool) × IsDevice Neighbours (target_of stateful f)
device-is first f h = target-fits Cisco limit_of f (as-cisco first f h)

pub rules-are : (first : ℕ) (f : Filter) → IsAccepted (is_for_standard first) limit_of f → AllByRecursion (IsSoundRule Cisco Inet) f.rules
rules-are first f h =
    let P : Families → Type 0 = λ fs. AllByRecursion (IsSoundRule Cisco fs) f.rules in
    subst P (families-are first f h.handled) (AcceptedFilters.rules-are Cisco limit_of f (as-cisco first f h))

pub family-is : (r : Rule) → IsSoundRule Cisco Inet r → r.family ≡ V4
family-is r h = by r.family h.family where
  by : (f : Family) → covers Inet f ≡ true → f ≡ V4
  by V4 k = refl
  by V6 k = absurd (false≢true k)

-- A rule without a limit.
abbrev pub IsWithin : Rule → Type 0
IsWithin r = (length r.name ≤ 64) × (says_sources r ≡ true)

rule-within : (earlier : List Rule) (r : Rule) → rule_limit earlier r ≡ None → IsWithin r
rule-within earlier r h =
    let place = length earlier in
    let last = cond (not (says_sources r)) (Some (Unsupported place MoreThanSources)) None in
    let name = not-limited (nat_lt 64 (length r.name)) (NameLength place) last h in (
      short-name 64 (length r.name) name.0,
      said (says_sources r) (not-limited (not (says_sources r)) (Unsupported place MoreThanSources) None name.1).0,
    ) where
      said : (b : Bool) → not b ≡ false → b ≡ true
      said true k = refl
      said false k = absurd (true≢false k)

pub rules-are-within : (f : Filter) → limit_of f ≡ None → AllByRecursion IsWithin f.rules
rules-are-within f h = rules-within rule_limit IsWithin rule-within (entry_count f) f h

-- ---- items

rule-valid : (r : Rule) → IsSoundRule Cisco Inet r → IsWithin r → AllByRecursion IsItem (rule_items r)
rule-valid r h w =
    let texts = map (λ text. Remark text) (remarks r) in
    let entries = map (λ s. AnEntry (entry_of r s)) r.src in
    let name = name-safe r.name (rule-name r.name h.name (le_trans w.0 (lit≤ tt))) in
    let P : Family → Type 0 = λ family. AllByRecursion (IsPrefixOf family) r.src in
    all_append IsItem texts entries (all-map IsItem (λ text. Remark text) (remarks r) (name, notes-safe r.note h.note))
    (all-map IsItem (λ s. AnEntry (entry_of r s)) r.src (subst P (family-is r h) (all-prefixes r.family r.src h.sources)))

rules-valid : (rules : List Rule) → AllByRecursion (IsSoundRule Cisco Inet) rules → AllByRecursion IsWithin rules → AllByRecursion IsItem (flat_map rule_items rules)
rules-valid [] h w = tt
rules-valid (r ∷ rules) h w = all_append IsItem (rule_items r) (flat_map rule_items rules) (rule-valid r h.0 w.0) (rules-valid rules h.1 w.1)

items-valid : (rules : List Rule) → AllByRecursion (IsSoundRule Cisco Inet) rules → AllByRecursion IsWithin rules → AllByRecursion IsItem (list_items rules)
items-valid [] h w = (everywhere_is V4, tt)
items-valid (r ∷ rules) h w = rules-valid (r ∷ rules) h w

-- ---- the section

pub section_is_spelled : (first : ℕ) (f : Filter) → IsAccepted (is_for_standard first) limit_of f
    → Spells (text_of (section_of first f ∷ [])) (section_of first f ∷ [])
unfolding IsDistinct
section_is_spelled first f h =
    let number = number-is first f h.handled in
    let own = h.sound.target.1.number_from in
    record {
      valid = record {
        sections = (
          record {
            number_from = omega (arith, number.0, own);
            number_to = number.1;
            items = items-valid f.rules (rules-are first f h) (rules-are-within f h.within);
          },
          tt,
        );
        names_differ = (tt, tt);
      };
      written = refl;
    }
