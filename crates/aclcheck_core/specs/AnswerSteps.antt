-- The lines on a policy's targets, as the code puts them: over resolved terms, block by block.
use Rattle.std.specs.Prelude.{◌≡◌, ℕ, ◌++◌, List, [], find, flat_map, if◌then◌else◌, codes, Option, None, Some}
use Rattle.acl_packet.specs.Addresses.{covers}
use Rattle.acl_packet.specs.declared.filtering.Outcome.{Outcome}
use Rattle.acl_packet.specs.declared.packets.Packet.{Packet}
use Rattle.acl_host.specs.declared.days.Day.{Day}
use Rattle.acl_filters.specs.AskedFilters.{FilterRequest}
use Rattle.acl_policy.specs.declared.blocks.Block.{Block}
use Rattle.acl_target.specs.FilterEndings.{ending_outcome}
use Rattle.acl_target.specs.TargetTexts.{target_text}
use Rattle.acl_target.specs.declared.targets.Target.{Target}
use Rattle.acl_terms.specs.Outcomes.{decides, expressed_on, outcome_of}
use Rattle.acl_terms.specs.declared.terms.Term.{Term}
use Rattle.aclcheck_core.specs.Deciders.{Decided}
use Rattle.aclcheck_core.specs.PolicyAnswers.{Answered, decider_text, outcome_text}

-- The first term that decides.
abbrev pub deciding_term : Target → Day → Packet → List Term → Option Term
deciding_term target today p terms = find (decides target today p) terms

abbrev pub decided_or : Target → Packet → Option Term → Decided
decided_or target p (Some t) = record { outcome = outcome_of t; by = Some t.name }
decided_or target p None = record { outcome = ending_outcome target.ending p; by = None }

abbrev pub decided_of : Target → Day → Packet → List Term → Decided
decided_of target today p terms = decided_or target p (deciding_term target today p terms)

-- What is shown of the outcome on the target, and who decided.
unfoldable pub named_line : Target → Outcome → List ℕ → List ℕ
named_line target outcome name = target_text target ++ codes ": " ++ outcome_text (expressed_on target.kind outcome)
    ++ codes " by " ++ name ++ codes "\n"

abbrev pub decided_line : Target → Decided → List ℕ
decided_line target d = named_line target d.outcome (decider_text d.by)

abbrev pub target_lines : Day → Packet → List Term → Target → List ℕ
target_lines today p terms target =
    if covers target.families p.family then decided_line target (decided_of target today p terms) else []

abbrev pub block_lines : Day → Packet → Block × List Term → List ℕ
block_lines today p b = flat_map (target_lines today p b.1) b.0.targets

abbrev pub answered : Day → Packet → FilterRequest → Answered
answered today p r = record { request = r; decided = decided_of r.target today p r.terms }
