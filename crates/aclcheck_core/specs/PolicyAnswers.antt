-- What the targets of a policy do with one packet, in order, and the lines that say so.
use Rattle.std.specs.Prelude.{◌≡◌, ℕ, Bool, List, [], ◌∷◌, ◌++◌, codes, filter, flat_map, map, if◌then◌else◌, Option, None, Some}
use Rattle.std.specs.List.{AllByRecursion}
use Rattle.acl_packet.specs.Addresses.{covers}
use Rattle.acl_packet.specs.declared.filtering.Outcome.{Outcome}
use Rattle.acl_packet.specs.declared.filtering.Verdict.{Verdict}
use Rattle.acl_packet.specs.declared.filtering.Verdict.TheVariants as verdicts
use Rattle.acl_packet.specs.declared.packets.Packet.{Packet}
use Rattle.acl_host.specs.declared.days.Day.{Day}
use Rattle.acl_filters.specs.AskedFilters.{FilterRequest}
use Rattle.acl_filters.specs.FilterRequests.{filter_for, request_slip, requests_of}
use Rattle.acl_filters.specs.PlatformLanguages.{outcome_on}
use Rattle.acl_load.specs.declared.policy_loading.Loaded.{Loaded}
use Rattle.acl_naming.specs.Definitions.{Naming}
use Rattle.acl_filters.specs.PlatformFiles.{sections_on}
use Rattle.acl_target.specs.TargetTexts.{target_text}
use Rattle.acl_terms.specs.Outcomes.{expressed_on}
use Rattle.aclcheck_core.specs.Deciders.{Decided, IsDecided}

-- ---- lines

abbrev pub verdict_text : Verdict → List ℕ
verdict_text verdicts.Accept = codes "accept"
verdict_text verdicts.Deny = codes "deny"
verdict_text verdicts.Reject = codes "reject"
verdict_text verdicts.Reset = codes "reset"
verdict_text verdicts.Left = codes "left"

abbrev pub logged_text : Bool → List ℕ
logged_text logged = if logged then codes " logged" else codes ""

abbrev pub outcome_text : Outcome → List ℕ
outcome_text o = verdict_text o.verdict ++ logged_text o.logged

abbrev pub decider_text : Option (List ℕ) → List ℕ
decider_text (Some name) = name
decider_text None = codes "default"

-- ---- answers

-- A target, with the terms of its block, and what becomes of the packet there.
pub record Answered : Type 0 where
  pub request : FilterRequest
  pub decided : Decided

-- What the target's platform can show of it.
abbrev pub shown : Answered → Outcome
shown a = expressed_on a.request.target.kind a.decided.outcome

-- `TARGET: VERDICT by NAME`, or `TARGET: VERDICT by default`
unfoldable pub answer_line : Answered → List ℕ
answer_line a = target_text a.request.target ++ codes ": " ++ outcome_text (shown a) ++ codes " by "
    ++ decider_text a.decided.by ++ codes "\n"

-- The targets of the policy, in order, whose families hold the packet's.
abbrev pub asked_of : Packet → Loaded → List FilterRequest
asked_of packet loaded = filter (λ r. covers r.target.families packet.family) (requests_of loaded)

-- What is told of a policy: the day, the packet, and an answer for each target.
pub record PolicyAnswer : Type 0 where
  pub today : Day
  pub packet : Packet
  pub answers : List Answered

abbrev pub IsAnswered : Naming → Day → Packet → Answered → Type 0
IsAnswered n today packet a = IsDecided n a.request.target today a.request.written packet a.decided

-- Each of these targets has its answer, in order.
pub record AnswersPolicy (loaded : Loaded) (today : Day) (packet : Packet) (answer : PolicyAnswer) : Type 0 where
  pub today_is : answer.today ≡ today
  pub packet_is : answer.packet ≡ packet
  pub targets_are : map (λ a. a.request) answer.answers ≡ asked_of packet loaded
  pub decided : AllByRecursion (IsAnswered loaded.definitions today packet) answer.answers

-- ---- the section of a target

-- Where neither a term on the target nor a limit of its platform has a slip, the section that is written for the target
-- does to the packet, by its language, what is told.
abbrev pub IsAnsweredBySection : Day → Packet → Answered → Type 0
IsAnsweredBySection today packet a = request_slip today a.request ≡ None
    → outcome_on a.request.target.kind (sections_on a.request.target.kind (filter_for today a.request ∷ [])) 0 packet
    ≡ Some (shown a)

abbrev pub SectionsAnswer : PolicyAnswer → Type 0
SectionsAnswer answer = AllByRecursion (IsAnsweredBySection answer.today answer.packet) answer.answers
