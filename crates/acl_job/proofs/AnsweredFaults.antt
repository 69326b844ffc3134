-- What is wrong with a job has a code that `aclgen` answers.
use Rattle.std.proofs.Common.{◌≡◌, ℕ, List, zip, Option, None, Some, Result, Err, sym, subst}
use Rattle.std.specs.List.{enumerate_from}
use Rattle.acl_text.specs.AnsweredCodes.{FailsAnswered, IsAnswered, SlipIsAnswered}
use Rattle.acl_text.specs.declared.faults.Fault.{Fault}
use Rattle.acl_text.specs.declared.faults.Slip.{Slip}
use Rattle.acl_text.proofs.AnsweredLaws.{either, either_answered, first_answered}
use Rattle.acl_host.specs.declared.days.Day.{Day}
use Rattle.acl_host.specs.Files.{File}
use Rattle.acl_target.specs.declared.targets.Target.{Target}
use Rattle.acl_terms.specs.declared.terms.Term.{Term}
use Rattle.acl_shade.specs.ComputableShading.{shading_term}
use Rattle.acl_load.specs.declared.policy_loading.Loaded.{Loaded}
use Rattle.acl_load.specs.declared.resolved_policies.ResolvedPolicy.{ResolvedPolicy}
use Rattle.acl_load.specs.ResolvedPolicies.{resolved_of}
use Rattle.acl_load.proofs.AnsweredFaults.{goes_on_answered, policy_loads_answered}
use Rattle.acl_options.specs.CommandLines.{Options}
use Rattle.acl_options.specs.ComputableOptions.{options_of}
use Rattle.acl_filters.specs.FilterRequests.{loaded_slip, request_slip, requests_of}
use Rattle.acl_job.specs.Job.{IsJob, IsJobOf, Plan, Plans, job_slip, or_slip, plan_of, planned}
use Rattle.acl_run.specs.Told.{or_day}
use Rattle.acl_job.specs.ShadedSlips.{asked_shaded, block_shaded, policy_shaded, shaded_slip, slip_at}
use Rattle.acl_filters.proofs.AnsweredSlips.{map_good, request_good}

shaded_good : (targets : List Target) (today : Day) (terms : List Term) (p : ℕ × Term) → SlipIsAnswered (slip_at targets today terms p)
shaded_good targets today terms (place, t) = map_good (shaded_slip t) (shading_term targets today terms place) (λ _. tt)

policy_good : (today : Day) (policy : ResolvedPolicy) → SlipIsAnswered (policy_shaded today policy)
policy_good today policy = first_answered (block_shaded today) (zip policy.targets policy.terms)
    (λ b. first_answered (slip_at b.0 today b.1) (enumerate_from 0 b.1) (shaded_good b.0 today b.1))

job_good : (o : Options) (today : Day) (loaded : Loaded) → SlipIsAnswered (job_slip o today loaded)
job_good o today loaded = either_answered (loaded_slip today loaded) (asked_shaded o.shade_check today loaded)
    (first_answered (request_slip today) (requests_of loaded) (request_good today))
    (either (λ (s : Option Slip). SlipIsAnswered s) o.shade_check _ _ (policy_good today (resolved_of loaded)) tt)

or_slip_good : (labels : List (List ℕ)) (o : Option Slip) (plan : Plan) → SlipIsAnswered o → FailsAnswered (or_slip labels o plan)
or_slip_good labels (Some slip) plan h = h
or_slip_good labels None plan h = tt

plans_good : (o : Options) (today : Day) (files : List File) (answer : Result Plan Fault) → Plans o today files answer → FailsAnswered answer
plans_good o today files answer h = goes_on_answered (λ l a. a ≡ planned o today l) h.0 answer
    (policy_loads_answered o.definitions o.policy files h.0 h.1)
    (λ l e. subst (λ (r : Result Plan Fault). FailsAnswered r) (sym e)
    (or_slip_good l.sources.labels (job_slip o today l) (plan_of o today l) (job_good o today l))) h.2

pub job_answered : (words : List (List ℕ)) (day : Day) (files : List File) (fault : Fault) → IsJob words day files (Some (Err fault)) → IsAnswered fault.code
job_answered words day files fault h = by (options_of words) h where
  by : (o : Option Options) → IsJobOf o day files (Some (Err fault)) → IsAnswered fault.code
  by None e = absurd e
  by (Some o) e = plans_good o (or_day o.date day) files (Err fault) e
