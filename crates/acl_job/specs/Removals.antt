-- A block of a policy from which all shaded terms are taken out at once.
use Rattle.std.specs.Prelude.{◌≡◌, ◌≢◌, ◌↔◌, List, [], map, zip, Contains, None}
use Rattle.std.specs.List.{AllByRecursion}
use Rattle.acl_packet.specs.declared.filtering.Outcome.{Outcome}
use Rattle.acl_packet.specs.declared.packets.Packet.{Packet}
use Rattle.acl_packet.specs.Packets.{IsPacket}
use Rattle.acl_host.specs.declared.days.Day.{Day}
use Rattle.acl_naming.specs.Definitions.{Naming}
use Rattle.acl_target.specs.declared.targets.Target.{Target}
use Rattle.acl_policy.specs.declared.blocks.Block.{Block}
use Rattle.acl_policy.specs.RawTerms.{RawTerm}
use Rattle.acl_terms.specs.declared.terms.Term.{Term}
use Rattle.acl_terms.specs.Outcomes.{PolicyDecides}
use Rattle.acl_shade.specs.ComputableShading.{unshaded, unshaded_behind}
use Rattle.acl_load.specs.declared.policy_loading.Loaded.{Loaded}
use Rattle.acl_load.specs.LoadedPolicies.{AreResolved, terms_slip}
use Rattle.acl_filters.specs.FilterRequests.{request_of, request_slip}

-- A block of a policy: its targets, and its terms, as they are written and with their words read as numbers.
pub record PlanBlock : Type 0 where
  pub targets : List Target
  pub written : List RawTerm
  pub terms : List Term

abbrev pub plan_block : Block × List Term → PlanBlock
plan_block b = record { targets = b.0.targets; written = b.0.terms; terms = b.1 }

abbrev pub blocks_of : Loaded → List PlanBlock
blocks_of loaded = map plan_block (zip loaded.policy.blocks loaded.terms)

-- ---- without the shaded terms

abbrev pub kept_terms : Day → PlanBlock → List Term
kept_terms today b = unshaded b.targets today b.terms

abbrev pub kept_written : Day → PlanBlock → List RawTerm
kept_written today b =
    map (λ pair. pair.0) (unshaded_behind (λ pair. pair.1) b.targets today [] (zip b.written b.terms))

-- All shaded terms of the block can go at once: a term is left, none that is left has a slip, neither has their filter
-- on any target, and there each packet gets the outcome that it gets with all terms.
pub record ShadedCanGo (naming : Naming) (today : Day) (b : PlanBlock) : Type 0 where
  pub some_left : kept_terms today b ≢ []
  pub no_slip : terms_slip naming (kept_written today b) ≡ None
  pub resolved : AreResolved naming (kept_written today b) (kept_terms today b)
  pub filters_fit : AllByRecursion (λ target. request_slip today
      (request_of (kept_written today b) (kept_terms today b) target) ≡ None) b.targets
  pub decide : (target : Target) → Contains b.targets target → (p : Packet) → IsPacket p → (o : Outcome)
      → PolicyDecides naming target today b.written p o
      ↔ PolicyDecides naming target today (kept_written today b) p o
