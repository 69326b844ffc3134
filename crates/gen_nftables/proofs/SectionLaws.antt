-- The section of an accepted filter is a document.
use Rattle.std.proofs.Common.{lit≤, ◌≡◌, ℕ, ◌^◌, ◌≤◌, Bool, true, false, nat_le, nat_lt, T, ℤ, pos, negsuc, List, [], ◌∷◌, length, map, flat_map, None, refl}
use Rattle.std.specs.List.{AllByRecursion, IsDistinct}
use Rattle.std.proofs.lemmas.Bool.{lt-ltb}
use Rattle.std.proofs.Math.Nat.{le_trans, suc-le-suc_iff}
use Rattle.acl_packet.specs.declared.addresses.Families.{Families}
use Rattle.acl_rows.proofs.DecisionLaws.{le_decides}
use Rattle.acl_text.proofs.ListLaws.{all_append}
use Rattle.acl_target.specs.declared.targets.Kind.TheVariants.{Nftables}
use Rattle.acl_target.specs.TargetData.{IsHooked, IsPriority}
use Rattle.acl_platform.specs.declared.filters.Filter.{Filter}
use Rattle.acl_platform.specs.declared.filters.Limit.TheVariants.{NameLength}
use Rattle.acl_platform.specs.declared.rules.Rule.{Rule}
use Rattle.acl_platform.specs.Choices.{number_choices}
use Rattle.acl_platform.specs.Platforms.{IsAccepted}
use Rattle.acl_platform.specs.Remarks.{notes}
use Rattle.acl_platform.specs.SoundFilters.{IsSoundRule, target_of}
use Rattle.acl_platform.proofs.AcceptedFilters.{not-limited, rules-are, rules-within, short-name, target-fits}
use Rattle.acl_platform.proofs.CombinationFacts.{all-map, all-numbers, all-weaker, OfNumbers}
use Rattle.acl_platform.proofs.RuleNames.{name-safe, notes-safe, rule-name}
use Rattle.nft_lang.specs.declared.documents.Item.TheVariants.{Remark, Rule as ARule}
use Rattle.nft_lang.specs.Documents.{fits_i32, IsItem}
use Rattle.nft_lang.specs.Texts.{Spells, text_of}
use Rattle.gen_nftables.specs.Limits.{is_for_nftables, limit_of, rule_limit}
use Rattle.gen_nftables.proofs.RuleLaws.{rule-is}
use Rattle.gen_nftables.specs.Sections.{chain_rule, entry_count, remarks_in, rule_items, section_of}

abbrev pub IsTaken : Filter → Type 0
IsTaken f = IsAccepted is_for_nftables limit_of f

pub hooked-is : (f : Filter) → IsTaken f → (stateful : Bool) × IsHooked (target_of stateful f)
hooked-is f h = target-fits Nftables limit_of f h

pub sound-rules : (f : Filter) → IsTaken f → AllByRecursion (IsSoundRule Nftables f.families) f.rules
sound-rules f h = rules-are Nftables limit_of f h

-- ---- names

abbrev IsShort : Rule → Type 0
IsShort r = length r.name ≤ 128

rule-short : (earlier : List Rule) (r : Rule) → rule_limit earlier r ≡ None → IsShort r
rule-short earlier r h =
    short-name 128 (length r.name) (not-limited (nat_lt 128 (length r.name)) (NameLength (length earlier)) None h).0

rules-short : (f : Filter) → limit_of f ≡ None → AllByRecursion IsShort f.rules
rules-short f h = rules-within rule_limit IsShort rule-short (entry_count f) f h

-- ---- items

remarks-safe : (families : Families) (verbose : Bool) (r : Rule) → IsSoundRule Nftables families r → IsShort r
    → AllByRecursion (IsItem families) (map (λ text. Remark text) (remarks_in verbose r))
remarks-safe families true r h short =
    (name-safe r.name (rule-name r.name h.name short), all-map (IsItem families) (λ text. Remark text) (notes r.note) (notes-safe r.note h.note))
remarks-safe families false r h short = tt

rule-valid : (families : Families) (verbose : Bool) (r : Rule) → IsSoundRule Nftables families r → IsShort r
    → AllByRecursion (IsItem families) (rule_items verbose r)
rule-valid families verbose r h short =
    all_append (IsItem families) (map (λ text. Remark text) (remarks_in verbose r)) (map (λ o. ARule (chain_rule r o)) (number_choices r.protos))
    (remarks-safe families verbose r h short)
    (all-map (IsItem families) (λ o. ARule (chain_rule r o)) (number_choices r.protos)
    (all-weaker {P = OfNumbers r.protos} (λ o k. rule-is families r o h k) (number_choices r.protos) (all-numbers r.protos)))

rules-valid : (families : Families) (verbose : Bool) (rules : List Rule) → AllByRecursion (IsSoundRule Nftables families) rules
    → AllByRecursion IsShort rules → AllByRecursion (IsItem families) (flat_map (rule_items verbose) rules)
rules-valid families verbose [] h short = tt
rules-valid families verbose (r ∷ rules) h short =
    all_append (IsItem families) (rule_items verbose r) (flat_map (rule_items verbose) rules)
    (rule-valid families verbose r h.0 short.0) (rules-valid families verbose rules h.1 short.1)

-- ---- the section

passed : (b : Bool) → T b → b ≡ true
passed true h = refl
passed false h = absurd h

below : (n : ℕ) → T (nat_le n 32767) → nat_lt n (2 ^ 31) ≡ true
below n h = lt-ltb n (2 ^ 31) (le_trans (suc-le-suc_iff.1 ((le_decides n 32767).0 (passed (nat_le n 32767) h))) (lit≤ tt))

fits : (z : ℤ) → IsPriority z → fits_i32 z ≡ true
fits (pos n) h = below n h.1.le
fits (negsuc n) h = below n h.0.le

pub section_is_spelled : (f : Filter) → IsTaken f → Spells (text_of (section_of f ∷ [])) (section_of f ∷ [])
unfolding IsDistinct
section_is_spelled f h =
    record {
      valid = record {
        sections = (
          record {
            number = le_trans (suc-le-suc_iff.1 h.sound.target.1.number_to) (lit≤ tt);
            priority = fits f.priority (hooked-is f h).1.priority_is;
            items = rules-valid f.families f.verbose f.rules (sound-rules f h) (rules-short f h.within);
          },
          tt,
        );
        names_differ = (tt, tt);
      };
      written = refl;
    }
