-- What the private step of a run gives that writes the files and the report.
use Rattle.std.specs.Prelude.{◌≡◌, ◌⊎◌, None}
use Rattle.acl_text.specs.Output.{Rose}
use Rattle.acl_host.specs.Files.{BothTell}
use Rattle.acl_host.specs.Outside.{AddsFront}
use Rattle.acl_job.specs.FileLists.{HoldsTexts, Interrupted}
use Rattle.acl_job.specs.Works.{texts_in}
use Rattle.acl_job.specs.declared.planning.Work.{Work}
use Rattle.acl_run.specs.Failures.{FailedAlone}
use Rattle.acl_run.specs.Lines.{outside_line}
use Rattle.acl_run.specs.Told.{Got, Tried}
use Rattle.acl_run.specs.Worlds.{Disk, DiskCountsGrow, Stream, StreamCountsGrow, Watch, world}
use Rattle.acl_run.specs.declared.endings.Ended.{Ended}
use Rattle.acl_run.specs.declared.endings.Ended.TheVariants as ended
use Rattle.acl_run.specs.declared.endings.Which.TheVariants as which
use Rattle.aclgen_core.specs.FaultLines.{program_name}

pub record ActsDone (work : Work) (old new : Disk) (out out' err err' : Stream) : Type 0 where
  pub written : BothTell old.files new.files (HoldsTexts (texts_in work))
  pub report_got : Got work.report.bytes out.told out'.told
  pub err_rests : err'.told ≡ err.told

pub record ActsWrite (work : Work) (old new : Disk) (out out' err err' : Stream) : Type 0 where
  pub cause : Rose old.write_faults new.write_faults
  pub left : BothTell old.files new.files (Interrupted (texts_in work))
  pub out_rests : out'.told ≡ out.told
  pub line : Tried (outside_line program_name which.Write) err err'

pub record ActsOut (work : Work) (old new : Disk) (out out' err err' : Stream) : Type 0 where
  pub cause : Rose out.faults out'.faults
  pub written : BothTell old.files new.files (HoldsTexts (texts_in work))
  pub report_front : BothTell out.told out'.told (AddsFront work.report.bytes)
  pub line : Tried (outside_line program_name which.Out) err err'

pub record ActsMemory (work : Work) (old new : Disk) (out out' err err' : Stream) : Type 0 where
  pub cause : Rose old.write_refusals new.write_refusals ⊎ Rose out.refusals out'.refusals
  pub left : BothTell old.files new.files (Interrupted (texts_in work))
  pub report_front : BothTell out.told out'.told (AddsFront work.report.bytes)
  pub err_rests : err'.told ≡ err.told

abbrev pub ActsSo : Work → Disk → Disk → Stream → Stream → Stream → Stream → Ended → Type 0
ActsSo work d d' o o' e e' ended.Done = ActsDone work d d' o o' e e'
ActsSo work d d' o o' e e' ended.Usage = ⊥
ActsSo work d d' o o' e e' (ended.Rejected fault) = ⊥
ActsSo work d d' o o' e e' (ended.Outside which.List) = ⊥
ActsSo work d d' o o' e e' (ended.Outside which.Read) = ⊥
ActsSo work d d' o o' e e' (ended.Outside which.Write) = ActsWrite work d d' o o' e e'
ActsSo work d d' o o' e e' (ended.Outside which.Out) = ActsOut work d d' o o' e e'
ActsSo work d d' o o' e e' (ended.Outside which.Err) = ⊥
ActsSo work d d' o o' e e' (ended.Outside which.Clock) = ⊥
ActsSo work d d' o o' e e' ended.Memory = ActsMemory work d d' o o' e e'

pub record Acts (work : Work) (d d' : Disk) (o o' e e' : Stream) (result : Ended) : Type 0 where
  pub none_begun : d'.begun ≡ None
  pub disk_counts : DiskCountsGrow d d'
  pub out_counts : StreamCountsGrow o o'
  pub err_counts : StreamCountsGrow e e'
  pub so : ActsSo work d d' o o' e e' result

-- No call of acting failed but the one that the ending tells of, whatever the clock is.
abbrev pub ActsAlone : Disk → Disk → Stream → Stream → Stream → Stream → Ended → Type 0
ActsAlone d d' o o' e e' result =
    (c : Watch) → FailedAlone result (world d o e c) (world d' o' e' c)
