-- What is to be written, as the code has it: files of filters and the report, from the plan of a job.
use Rattle.std.specs.Prelude.{◌≡◌, List, map, Option, Result, Ok, Err, IfSome}
use Rattle.std.specs.List.{All, AllByRecursion}
use Rattle.std.specs.String.{string_bytes}
use Rattle.acl_host.specs.declared.days.Day.{Day}
use Rattle.acl_host.specs.Files.{File}
use Rattle.acl_load.specs.declared.load_faults.LoadFault.{LoadFault}
use Rattle.acl_load.specs.LoadFaults.{load_told}
use Rattle.acl_options.specs.CommandLines.{Options}
use Rattle.acl_filters.specs.PlatformFiles.{AreApart, IsTaken, text_on}
use Rattle.acl_filters.specs.CheckedFilters.{IsShort}
use Rattle.acl_job.specs.FileLists.{PathsDiffer}
use Rattle.acl_job.specs.Job.{Plan, Plans, filters_of, report_of, texts_of}
use Rattle.acl_job.specs.declared.filter_files.FilterFile.{FilterFile}
use Rattle.acl_job.specs.declared.planning.Work.{Work}

-- A file's path, and the text of its filters.
abbrev pub file_view : FilterFile → File
file_view f = (string_bytes f.path, text_on f.kind f.filters)

-- The file's platform takes its filters, and they are apart.
pub record IsWritable (f : FilterFile) : Type 0 where
  pub taken : All (IsTaken f.kind) f.filters
  pub apart : AreApart f.filters

-- Files that have each its own path, and whose filters can be written.
pub record AreWritable (files : List FilterFile) : Type 0 where
  pub differ : PathsDiffer (map file_view files)
  pub fit : All IsWritable files

abbrev pub texts_in : Work → List File
texts_in work = map file_view work.files.items

-- The texts and the report are those of the plan, and the filters are short.
pub record IsReady (plan : Plan) (work : Work) : Type 0 where
  pub texts_are : texts_in work ≡ texts_of plan
  pub report_is : work.report.bytes ≡ report_of plan
  pub short : AllByRecursion (λ f. AllByRecursion IsShort (filters_of plan.today f)) plan.files

-- What is to be written of the tree's files.
abbrev pub MakesWork : Options → Day → Option (List File) → Result Work LoadFault → Type 0
MakesWork o today told (Ok work) = IfSome told (λ files. (plan : Plan) × Plans o today files (Ok plan)
    × IsReady plan work) × AreWritable work.files.items
MakesWork o today told (Err e) =
    IfSome told (λ files. IfSome (load_told e) (λ fault. Plans o today files (Err fault)))
