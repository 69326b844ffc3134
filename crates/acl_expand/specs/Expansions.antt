-- The filter that terms become on a target, and what it decides.
use Rattle.std.specs.Prelude.{◌≡◌, true, List}
use Rattle.std.specs.List.{AllZip}
use Rattle.acl_packet.specs.declared.filtering.Outcome.{Outcome}
use Rattle.acl_packet.specs.declared.packets.Packet.{Packet}
use Rattle.acl_packet.specs.Addresses.{covers}
use Rattle.acl_packet.specs.Packets.{IsPacket}
use Rattle.acl_host.specs.declared.days.Day.{Day}
use Rattle.acl_target.specs.declared.targets.Target.{Target}
use Rattle.acl_policy.specs.RawTerms.{RawTerm}
use Rattle.acl_naming.specs.Definitions.{Naming}
use Rattle.acl_terms.specs.declared.terms.Term.{Term}
use Rattle.acl_terms.specs.Outcomes.{PolicyDecides, policy_outcome, expressed_on}
use Rattle.acl_terms.specs.Resolved.{IsResolved}
use Rattle.acl_platform.specs.declared.filters.Filter.{Filter}
use Rattle.acl_platform.specs.declared.rules.Rule.{Rule}
use Rattle.acl_platform.specs.Rules.{filter_outcome}
use Rattle.acl_expand.specs.TermRules.{rules_of}

-- The data of the target, with rules.
abbrev pub filter_with : Target → List Rule → Filter
filter_with target rules = record {
  place = target.place;
  kind = target.kind;
  name = target.name;
  families = target.families;
  hook = target.hook;
  ending = target.ending;
  priority = target.priority;
  verbose = target.verbose;
  number = target.number;
  rules = rules;
}

abbrev pub filter_of : Target → Day → List Term → Filter
filter_of target today terms = filter_with target (rules_of target today terms)

-- A filter decides each packet of the target's families as the terms do, as far as the platform can show it.
abbrev pub DecidesAsTerms : Target → Day → List Term → Filter → Type 0
DecidesAsTerms target today terms f = (p : Packet) → IsPacket p → covers target.families p.family ≡ true
    → filter_outcome f p ≡ expressed_on target.kind (policy_outcome target today terms p)

-- The same of the block's terms as they are written.
abbrev pub DecidesAsWritten : Naming → Target → Day → List RawTerm → Filter → Type 0
DecidesAsWritten n target today raws f = (p : Packet) → IsPacket p → covers target.families p.family ≡ true
    → (o : Outcome) × (PolicyDecides n target today raws p o × (filter_outcome f p ≡ expressed_on target.kind o))

-- So the filter of resolved terms decides as the written terms that they stand for.
abbrev pub FiltersDecideAsWritten : Type 0
FiltersDecideAsWritten = (n : Naming) (target : Target) (today : Day) (raws : List RawTerm) (terms : List Term)
    → AllZip (IsResolved n) raws terms → DecidesAsWritten n target today raws (filter_of target today terms)
