-- How often the calls of each kind failed, and which of them did in a run.
use Rattle.std.specs.Prelude.{◌≡◌, ◌≢◌, ℕ, ◌⊎◌}
use Rattle.acl_text.specs.Output.{Rose}
use Rattle.acl_run.specs.Worlds.{World}
use Rattle.acl_run.specs.declared.endings.Ended.{Ended}
use Rattle.acl_run.specs.declared.endings.Ended.TheVariants as ended
use Rattle.acl_run.specs.declared.endings.Which.{Which}
use Rattle.acl_run.specs.declared.endings.Which.TheVariants as which

-- How often the calls of a kind failed.
abbrev pub faults_at : Which → World → ℕ
faults_at which.List w = w.disk.list_faults
faults_at which.Read w = w.disk.read_faults
faults_at which.Write w = w.disk.write_faults
faults_at which.Out w = w.out.faults
faults_at which.Err w = w.err.faults
faults_at which.Clock w = w.clock.faults

-- A count of faults rose.
abbrev pub RoseAt : Which → World → World → Type 0
RoseAt w old new = Rose (faults_at w old) (faults_at w new)

abbrev pub NoneRose : World → World → Type 0
NoneRose old new = (w : Which) → RoseAt w old new → ⊥

-- No call failed.
abbrev pub NoneFailed : World → World → Type 0
NoneFailed old new = (w : Which) → faults_at w new ≡ faults_at w old

-- No call failed but those that the ending tells of; and standard error may have refused the line that told of it.
abbrev pub FailedAlone : Ended → World → World → Type 0
FailedAlone (ended.Outside w) old new =
    (v : Which) → v ≢ w → v ≢ which.Err → faults_at v new ≡ faults_at v old
FailedAlone result old new = NoneFailed old new

-- The tree, or standard output, refused for want of memory.
abbrev pub RefusedMemory : World → World → Type 0
RefusedMemory old new = Rose old.disk.write_refusals new.disk.write_refusals ⊎ Rose old.out.refusals new.out.refusals
