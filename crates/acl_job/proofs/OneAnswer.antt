-- A job has one answer, and it has some.
use Rattle.std.proofs.Common.{◌≡◌, ℕ, List, Option, None, Some, Result, Ok, Err, refl, ap, sym, subst, ◌∙◌}
use Rattle.acl_text.specs.declared.faults.Fault.{Fault}
use Rattle.acl_host.specs.declared.days.Day.{Day}
use Rattle.acl_host.specs.Files.{File}
use Rattle.acl_load.specs.declared.policy_loading.Loaded.{Loaded}
use Rattle.acl_load.specs.LoadedPolicies.{FirstFaultOr, LoadsPolicy}
use Rattle.acl_load.proofs.AnswersThere.{answer-there}
use Rattle.acl_load.proofs.OneAnswer.{one-answer}
use Rattle.acl_options.specs.CommandLines.{Options}
use Rattle.acl_options.specs.ComputableOptions.{options_of}
use Rattle.acl_job.specs.Job.{Plan, Plans, IsJobOf, IsJob, planned}
use Rattle.acl_run.specs.Told.{or_day}

same-planned : (o : Options) (today : Day) (r : Result Loaded Fault) (a b : Result Plan Fault) → FirstFaultOr (λ l x. x ≡ planned o today l) r a
    → FirstFaultOr (λ l x. x ≡ planned o today l) r b → a ≡ b
same-planned o today (Err f) a b p q = p ∙ sym q
same-planned o today (Ok l) a b p q = p ∙ sym q

pub same-plan : (o : Options) (today : Day) (files : List File) (a b : Result Plan Fault) → Plans o today files a → Plans o today files b → a ≡ b
same-plan o today files a b p q =
    let same = one-answer o.definitions o.policy files p.0 q.0 p.1 q.1 in
    let G : Result Loaded Fault → Type 0 = λ r. FirstFaultOr (λ l x. x ≡ planned o today l) r a in
    same-planned o today q.0 a b (subst G same p.2) q.2

same-job-of : (o : Option Options) (day : Day) (files : List File) (a b : Option (Result Plan Fault)) → IsJobOf o day files a → IsJobOf o day files b → a ≡ b
same-job-of None day files None None p q = refl
same-job-of None day files None (Some b) p q = absurd q
same-job-of None day files (Some a) b p q = absurd p
same-job-of (Some o) day files None b p q = absurd p
same-job-of (Some o) day files (Some a) None p q = absurd q
same-job-of (Some o) day files (Some a) (Some b) p q = ap Some (same-plan o (or_day o.date day) files a b p q)

pub one-job : (words : List (List ℕ)) (day : Day) (files : List File) (a b : Option (Result Plan Fault)) → IsJob words day files a → IsJob words day files b → a ≡ b
one-job words day files a b p q = same-job-of (options_of words) day files a b p q

plan-there : (o : Options) (today : Day) (files : List File) (loaded : Result Loaded Fault) → LoadsPolicy o.definitions o.policy files loaded
    → (answer : Result Plan Fault) × Plans o today files answer
plan-there o today files (Err fault) h = (Err fault, (Err fault, h, refl))
plan-there o today files (Ok l) h = (planned o today l, (Ok l, h, refl))

job-of-there : (o : Option Options) (day : Day) (files : List File) → (job : Option (Result Plan Fault)) × IsJobOf o day files job
job-of-there None day files = (None, tt)
job-of-there (Some o) day files =
    let loaded = answer-there o.definitions o.policy files in
    let plan = plan-there o (or_day o.date day) files loaded.0 loaded.1 in
    (Some plan.0, plan.1)

pub some-job : (words : List (List ℕ)) (day : Day) (files : List File) → (job : Option (Result Plan Fault)) × IsJob words day files job
some-job words day files = job-of-there (options_of words) day files
