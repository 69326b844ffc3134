-- What is done where the files are written and the report is not yet.
use Rattle.std.proofs.Common.{◌≡◌, None, ap, inr}
use Rattle.acl_host.specs.Files.{BothTell}
use Rattle.acl_run.specs.declared.endings.Ended.{Ended}
use Rattle.acl_run.specs.declared.endings.Ended.TheVariants as ended
use Rattle.acl_run.specs.declared.endings.Which.TheVariants as which
use Rattle.acl_job.specs.declared.planning.Work.{Work}
use Rattle.acl_job.specs.FileLists.{HoldsTexts}
use Rattle.acl_run.specs.Worlds.{Disk, DiskCountsGrow, Stream}
use Rattle.acl_job.specs.Works.{texts_in}
use Rattle.acl_run.specs.Lines.{outside_line}
use Rattle.acl_run.specs.Telling.{ReportsOn}
use Rattle.aclgen_core.specs.ActingSteps.{Acts, ActsSo}
use Rattle.aclgen_core.specs.FaultLines.{program_name}
use Rattle.acl_job.proofs.FileListLaws.{both-more, whole-stops}

reported_so : (work : Work) (d d' : Disk) (o o' e e' : Stream) (result : Ended)
    → BothTell d.files d'.files (HoldsTexts (texts_in work))
    → ReportsOn (outside_line program_name which.Out) work.report.bytes o o' e e' result → ActsSo work d d' o o' e e' result
reported_so work d d' o o' e e' ended.Done held r =
    record { written = held; report_got = r.so.0; err_rests = ap (λ (s : Stream). s.told) r.so.2 }
reported_so work d d' o o' e e' ended.Usage held r = absurd r.so
reported_so work d d' o o' e e' (ended.Rejected fault) held r = absurd r.so
reported_so work d d' o o' e e' (ended.Outside which.List) held r = absurd r.so
reported_so work d d' o o' e e' (ended.Outside which.Read) held r = absurd r.so
reported_so work d d' o o' e e' (ended.Outside which.Write) held r = absurd r.so
reported_so work d d' o o' e e' (ended.Outside which.Out) held r =
    record { cause = r.so.0; written = held; report_front = r.so.1; line = r.so.2 }
reported_so work d d' o o' e e' (ended.Outside which.Err) held r = absurd r.so
reported_so work d d' o o' e e' (ended.Outside which.Clock) held r = absurd r.so
reported_so work d d' o o' e e' ended.Memory held r =
    record {
      left = both-more (HoldsTexts (texts_in work)) _ d.files d'.files
          (λ x y h. whole-stops (texts_in work) x y h) held;
      cause = inr r.so.0;
      report_front = r.so.1;
      err_rests = ap (λ (s : Stream). s.told) r.so.3;
    }

-- The files are whole, and the report was written behind them, or not.
pub reported : (work : Work) (d d' : Disk) (o o' e e' : Stream) (result : Ended) → d'.begun ≡ None
    → DiskCountsGrow d d' → BothTell d.files d'.files (HoldsTexts (texts_in work))
    → ReportsOn (outside_line program_name which.Out) work.report.bytes o o' e e' result → Acts work d d' o o' e e' result
reported work d d' o o' e e' result begun counts held r = record {
  none_begun = begun;
  disk_counts = counts;
  out_counts = r.out_counts;
  err_counts = r.err_counts;
  so = reported_so work d d' o o' e e' result held r;
}
