-- The section of an accepted filter is a document for iptables-restore, and decides packets as the filter does.
use Rattle.std.proofs.Common.{◌≡◌, true, false, not, [], ◌∷◌, is_some, refl, sym}
use Rattle.std.proofs.lemmas.Bool.{and_parts, false≢true}
use Rattle.acl_target.specs.declared.targets.Ending.{Ending}
use Rattle.acl_target.specs.declared.targets.Ending.TheVariants as endings
use Rattle.acl_target.specs.TargetData.{is_neighbours}
use Rattle.acl_platform.specs.declared.filters.Filter.{Filter}
use Rattle.acl_platform.specs.Platforms.{DecidesAs, IsAccepted}
use Rattle.ipt_lang.specs.Walks.{section_outcome}
use Rattle.ipr_lang.specs.Texts.{Spells, text_of}
use Rattle.gen_iptables.specs.Limits.{is_for_iptables, limit_of}
use Rattle.gen_iptables.specs.Sections.{policy_of, section_of}
use Rattle.gen_iptables.proofs.DecisionLaws.{section_decides}
use Rattle.gen_iptables.proofs.SectionLaws.{chain-target, IsTaken}
use Rattle.gen_iptables.proofs.SectionLaws as arguments
use Rattle.gen_acltool.specs.RestoredFilters.{is_for_speedway, leaves_packets}

abbrev IsRestored : Filter → Type 0
IsRestored f = IsAccepted is_for_speedway limit_of f

-- it is one for iptables
taken : (f : Filter) → IsRestored f → IsTaken f
taken f h = record {
  handled = (and_parts (is_for_iptables f) (not (leaves_packets f.ending)) h.handled).0;
  sound = h.sound;
  within = h.within;
}

-- and says a policy
says-policy : (ending : Ending) → not (leaves_packets ending) ≡ true → is_neighbours ending ≡ false → is_some (policy_of ending) ≡ true
says-policy endings.Accept h k = refl
says-policy endings.Deny h k = refl
says-policy endings.Left h k = absurd (false≢true h)
says-policy endings.Neighbours h k = absurd (false≢true (sym k))

pub section_is_spelled : (f : Filter) → IsRestored f → Spells (text_of (section_of f ∷ [])) (section_of f ∷ [])
section_is_spelled f h =
    let own = arguments.section_is_spelled f (taken f h) in
    let handled = and_parts (is_for_iptables f) (not (leaves_packets f.ending)) h.handled in
    let target = (chain-target f (taken f h)).1 in
    record {
      valid = record {
        sections = (record { valid = own.valid.sections.0; policy = says-policy f.ending handled.1 target.ending_is }, tt);
        names_differ = own.valid.names_differ;
      };
      written = refl;
    }

pub restored_decides : (f : Filter) → IsRestored f → DecidesAs f (section_outcome (section_of f))
restored_decides f h = section_decides f (taken f h)
