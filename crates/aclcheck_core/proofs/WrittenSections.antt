-- What is told of a policy is what the sections do that are written for its targets.
use Rattle.std.proofs.Common.{◌≡◌, ℕ, Bool, true, false, cond, List, [], ◌∷◌, filter, map, Option, None, Some, Result, Ok, Err, refl, ap, sym, subst, ◌∙◌}
use Rattle.std.specs.List.{AllByRecursion, IsDistinct}
use Rattle.std.proofs.lemmas.List.Elements.{recursion_from_All}
use Rattle.acl_packet.specs.Addresses.{covers}
use Rattle.acl_packet.specs.Packets.{IsPacket}
use Rattle.acl_packet.specs.declared.packets.Packet.{Packet}
use Rattle.acl_text.specs.declared.faults.Fault.{Fault}
use Rattle.acl_host.specs.declared.days.Day.{Day}
use Rattle.acl_host.specs.Files.{File}
use Rattle.acl_filters.specs.AskedFilters.{FilterRequest}
use Rattle.acl_filters.specs.CheckedFilters.{IsTakenFor}
use Rattle.acl_filters.specs.FilterRequests.{filter_for, request_slip, requests_of}
use Rattle.acl_filters.proofs.ApartLaws.{all-taken}
use Rattle.acl_filters.proofs.FilterLaws.{both-none, requests-taken, targets-stand}
use Rattle.acl_filters.proofs.MeantFilters.{decides-at, resolved-requests}
use Rattle.acl_filters.specs.PlatformLanguages.{outcome_on}
use Rattle.acl_load.specs.declared.policy_loading.Loaded.{Loaded}
use Rattle.acl_load.specs.LoadedPolicies.{AreResolved, FirstFaultOr, LoadedStands, LoadsPolicy}
use Rattle.acl_load.proofs.AnswersThere.{loaded-stands}
use Rattle.acl_naming.specs.Definitions.{Naming}
use Rattle.acl_options.specs.Commands.{Inputs}
use Rattle.acl_policy.specs.Conditions.{IsBlock}
use Rattle.acl_filters.specs.PlatformFiles.{AreApart, sections_on}
use Rattle.acl_filters.proofs.MeantTextsLaws.{sections-meant}
use Rattle.acl_platform.specs.declared.filters.Filter.{Filter}
use Rattle.acl_target.specs.TargetData.{IsTarget}
use Rattle.acl_terms.specs.Outcomes.{expressed_on}
use Rattle.aclcheck_core.specs.CheckAnswers.{AsksLoaded, CheckAnswer, OfPolicy}
use Rattle.aclcheck_core.specs.CheckLaws.{SectionsAnswerAsThePolicy}
use Rattle.aclcheck_core.specs.PolicyAnswers.{Answered, AnswersPolicy, IsAnswered, IsAnsweredBySection, PolicyAnswer, SectionsAnswer, asked_of}
use Rattle.aclcheck_core.proofs.DeciderLaws.{one-outcome, outcome-is-the-policys}

-- What is known of a target that is asked.
record IsAsked (n : Naming) (p : Packet) (r : FilterRequest) : Type 0 where
  pub target : IsTarget r.target
  pub resolved : AreResolved n r.written r.terms
  pub covered : covers r.target.families p.family ≡ true

one-apart : (f : Filter) → AreApart (f ∷ [])
unfolding IsDistinct
one-apart f = record { clash_not = (tt, tt); numbers_differ = (tt, tt) }

section-answers : (n : Naming) (today : Day) (p : Packet) (a : Answered) → IsPacket p → IsAsked n p a.request → IsAnswered n today p a
    → IsAnsweredBySection today p a
section-answers n today p a fits asked decided none =
    let r = a.request in
    let kind = r.target.kind in
    let taken = requests-taken today (r ∷ []) (asked.target, tt) (both-none (request_slip today r) None none refl) in
    let doc = sections-meant kind (filter_for today r ∷ []) (all-taken today kind (r ∷ []) taken) (one-apart (filter_for today r)) in
    let outcome = outcome_on kind (sections_on kind (filter_for today r ∷ [])) 0 in
    let d = decides-at n today (r ∷ []) 0 outcome (asked.resolved, tt) (doc.decides 0) p fits asked.covered in
    d.2 ∙ ap (λ o. Some (expressed_on kind o))
    (one-outcome n r.target today r.written p d.0 a.decided.outcome d.1 (outcome-is-the-policys n r.target today r.written p a.decided decided))

-- ---- all targets

all-asked : (n : Naming) (p : Packet) (rs : List FilterRequest) → AllByRecursion (λ (r : FilterRequest). IsTarget r.target) rs
    → AllByRecursion (λ (r : FilterRequest). AreResolved n r.written r.terms) rs
    → AllByRecursion (IsAsked n p) (filter (λ r. covers r.target.families p.family) rs)
all-asked n p [] h k = tt
all-asked n p (r ∷ rs) h k = by (all-asked n p rs h.1 k.1) (covers r.target.families p.family) refl
  where
    by : AllByRecursion (IsAsked n p) (filter (λ x. covers x.target.families p.family) rs) → (b : Bool) → covers r.target.families p.family ≡ b
        → AllByRecursion (IsAsked n p) (cond b (r ∷ filter (λ x. covers x.target.families p.family) rs) (filter (λ x. covers x.target.families p.family) rs))
    by more true e = (record { target = h.0; resolved = k.0; covered = e }, more)
    by more false e = more

all-answer : (n : Naming) (today : Day) (p : Packet) → IsPacket p → (xs : List Answered)
    → AllByRecursion (IsAsked n p) (map (λ (a : Answered). a.request) xs) → AllByRecursion (IsAnswered n today p) xs
    → AllByRecursion (IsAnsweredBySection today p) xs
all-answer n today p fits [] h k = tt
all-answer n today p fits (a ∷ xs) h k = (section-answers n today p a fits h.0 k.0, all-answer n today p fits xs h.1 k.1)

loaded-answers : (loaded : Loaded) (today : Day) (p : Packet) (answer : PolicyAnswer) → IsPacket p → LoadedStands loaded
    → AnswersPolicy loaded today p answer → SectionsAnswer answer
loaded-answers loaded today p answer fits stands is =
    let n = loaded.definitions in
    let blocks = recursion_from_All IsBlock loaded.policy.blocks stands.policy_fits.blocks_are in
    let targets = targets-stand loaded.policy.blocks loaded.terms blocks in
    let resolved = resolved-requests n loaded.policy.blocks loaded.terms stands.resolved in
    let asked = subst (AllByRecursion (IsAsked n p)) (sym is.targets_are) (all-asked n p (requests_of loaded) targets resolved) in
    let all = all-answer n today p fits answer.answers asked is.decided in
    subst (λ t. AllByRecursion (IsAnsweredBySection t answer.packet) answer.answers) (sym is.today_is)
    (subst (λ q. AllByRecursion (IsAnsweredBySection today q) answer.answers) (sym is.packet_is) all)

pub sections-answer : SectionsAnswerAsThePolicy
sections-answer inputs p today files answer fits (Ok loaded, loads, is) =
    loaded-answers loaded today p answer fits (loaded-stands inputs.definitions inputs.policy files loaded loads) is
sections-answer inputs p today files answer fits (Err fault, loads, is) = absurd (other is)
  where
    other : (λ (r : Result CheckAnswer Fault). r) (Ok (OfPolicy answer)) ≡ Err fault → ⊥
    other e = cc
