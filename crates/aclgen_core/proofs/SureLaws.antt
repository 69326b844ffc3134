-- Over objects that never fail no run ends outside.
use Rattle.std.proofs.Common.{◌≡◌, ℕ, inl, inr, List, Option, None, Some, IfSome, IfNone, refl, arith}
use Rattle.acl_text.specs.Output.{Rose}
use Rattle.acl_memory.specs.declared.sure_clocks.SureClock.{SureClock}
use Rattle.acl_memory.specs.declared.sure_sinks.SureSink.{SureSink}
use Rattle.acl_memory.specs.declared.sure_trees.SureTree.{SureTree}
use Rattle.acl_options.specs.WorkloadWords.{workload_of}
use Rattle.aclgen_core.specs.Endings.{Keeps}
use Rattle.acl_run.specs.Failures.{faults_at}
use Rattle.aclgen_core.specs.Runs.{Runs}
use Rattle.aclgen_core.specs.SureRuns.{sure_world}
use Rattle.aclgen_core.specs.WorkloadRuns.{EndsWorkload, RunsWorkload}
use Rattle.acl_run.specs.Telling.{Reports}
use Rattle.acl_run.specs.Worlds.{Stream, World}
use Rattle.acl_run.specs.declared.endings.Ended.TheVariants as ended
use Rattle.acl_run.specs.declared.endings.Which.{Which}
use Rattle.acl_run.specs.declared.endings.Which.TheVariants as which
use Rattle.aclgen_core.proofs.Rows.{outside-cause}

none-rose : (a b : ℕ) → a ≡ 0 → b ≡ 0 → Rose a b → ⊥
none-rose a b p q rose = let more = rose (omega (arith, q)) in omega (arith, p, q, more)

sure-count : (tree : SureTree) (out err : SureSink) (clock : SureClock) (w : Which) → faults_at w (sure_world tree out err clock) ≡ 0
sure-count tree out err clock which.List = refl
sure-count tree out err clock which.Read = refl
sure-count tree out err clock which.Write = refl
sure-count tree out err clock which.Out = refl
sure-count tree out err clock which.Err = refl
sure-count tree out err clock which.Clock = refl

report-fails : (line text : List ℕ) (o o' e e' : Stream) (w : Which) → Reports line text o o' e e' (ended.Outside w) → Rose o.faults o'.faults
report-fails line text o o' e e' which.List h = absurd h
report-fails line text o o' e e' which.Read h = absurd h
report-fails line text o o' e e' which.Write h = absurd h
report-fails line text o o' e e' which.Out h = h.0
report-fails line text o o' e e' which.Err h = absurd h
report-fails line text o o' e e' which.Clock h = absurd h

workload-fails : (n : ℕ) (o o' e e' : Stream) (w : Which) → RunsWorkload n o o' e e' (ended.Outside w) → Rose o.faults o'.faults
workload-fails n o o' e e' w h = elim h.tells [
  | inl t ↦ report-fails _ _ o o' e e' w t.2
  | inr m ↦ absurd (let other : ended.Outside w ≡ ended.Memory = m.0 in cc)
]

pub never-outside : (words : List (List ℕ)) (t t' : SureTree) (o o' e e' : SureSink) (c c' : SureClock) (w : Which)
    → Runs words (sure_world t o e c) (sure_world t' o' e' c') (ended.Outside w) → ⊥
never-outside words t t' o o' e e' c c' w h = by (workload_of words) h.0 h.1
  where
    old : World
    old = sure_world t o e c

    new : World
    new = sure_world t' o' e' c'

    by : (asked : Option ℕ) → IfSome asked (λ n. EndsWorkload n old new (ended.Outside w)) → IfNone asked (Keeps words old new (ended.Outside w)) → ⊥
    by (Some n) h k = none-rose 0 0 refl refl (workload-fails n old.out new.out old.err new.err w h.runs)
    by None h k = none-rose _ _ (sure-count t o e c w) (sure-count t' o' e' c' w) (outside-cause words w old new k.ending)
