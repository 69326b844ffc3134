-- What a policy does with a packet, and which of its terms decides: the first live one that matches.
use Rattle.std.specs.Prelude.{◌≡◌, ◌⊎◌, ℕ, List, [], ◌∷◌, Option, None, Some}
use Rattle.acl_packet.specs.declared.filtering.Outcome.{Outcome}
use Rattle.acl_packet.specs.declared.packets.Packet.{Packet}
use Rattle.acl_host.specs.declared.days.Day.{Day}
use Rattle.acl_naming.specs.Definitions.{Naming}
use Rattle.acl_policy.specs.RawTerms.{RawTerm}
use Rattle.acl_target.specs.FilterEndings.{ending_outcome}
use Rattle.acl_target.specs.declared.targets.Target.{Target}
use Rattle.acl_terms.specs.Outcomes.{Decides, PolicyDecides, written_outcome}

-- What becomes of the packet, and the name of the term that decides it; none where the target's ending does.
pub record Decided : Type 0 where
  pub outcome : Outcome
  pub by : Option (List ℕ)

abbrev pub decided_by_term : RawTerm → Decided
decided_by_term t = record { outcome = written_outcome t; by = Some t.name.text }

-- `acl_terms: PolicyDecides` with the name of the term.
abbrev pub IsDecided : Naming → Target → Day → List RawTerm → Packet → Decided → Type 0
IsDecided n target today [] p d = d ≡ record { outcome = ending_outcome target.ending p; by = None }
IsDecided n target today (t ∷ ts) p d =
    (Decides n t target today p × (d ≡ decided_by_term t))
    ⊎ ((Decides n t target today p → ⊥) × IsDecided n target today ts p d)

-- So the outcome is the policy's.
abbrev pub OutcomesAreThePolicys : Type 0
OutcomesAreThePolicys = (n : Naming) (target : Target) (today : Day) (ts : List RawTerm) (p : Packet)
    (d : Decided) → IsDecided n target today ts p d → PolicyDecides n target today ts p d.outcome
