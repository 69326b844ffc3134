-- No call of writing failed but those that an ending tells of.
use Rattle.std.proofs.Common.{◌≡◌, ◌≢◌, refl, sym, subst}
use Rattle.acl_run.specs.Failures.{faults_at}
use Rattle.acl_run.specs.Worlds.{Disk, Stream, world}
use Rattle.acl_run.specs.declared.endings.Ended.{Ended}
use Rattle.acl_run.specs.declared.endings.Ended.TheVariants as ended
use Rattle.acl_run.specs.declared.endings.Which.TheVariants as which
use Rattle.acl_run.proofs.FaultCounts.{by-kind, none-failed}
use Rattle.aclgen_core.specs.ActingSteps.{ActsAlone}

pub writing-alone : (d d' : Disk) (o e e' : Stream) (result : Ended) → d'.list_faults ≡ d.list_faults → d'.read_faults ≡ d.read_faults → result ≡ ended.Outside which.Write
    → ActsAlone d d' o o e e' result
writing-alone d d' o e e' result l r is =
    subst (λ (x : Ended). ActsAlone d d' o o e e' x) (sym is)
    (λ c. by-kind (λ v. v ≢ which.Write → v ≢ which.Err → faults_at v (world d' o e' c) ≡ faults_at v (world d o e c))
    (λ _ _. l) (λ _ _. r) (λ n _. absurd (n refl)) (λ _ _. refl) (λ _ n. absurd (n refl)) (λ _ _. refl))

pub wanting-alone : (d d' : Disk) (o e : Stream) → d'.list_faults ≡ d.list_faults → d'.read_faults ≡ d.read_faults → d'.write_faults ≡ d.write_faults
    → ActsAlone d d' o o e e ended.Memory
wanting-alone d d' o e l r w = λ c. none-failed d d' o o e e c c l r w refl refl refl
