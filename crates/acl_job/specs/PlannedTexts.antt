-- What the texts of a plan are: each is that of the sections which its file's filters become.
use Rattle.std.specs.Prelude.{ℕ, List, Some, Ok}
use Rattle.std.specs.List.{AllByRecursion}
use Rattle.acl_host.specs.declared.days.Day.{Day}
use Rattle.acl_host.specs.Files.{File}
use Rattle.acl_filters.specs.PlatformLanguages.{IsDocumentFor}
use Rattle.acl_naming.specs.Definitions.{Naming}
use Rattle.acl_filters.specs.PlatformFiles.{sections_on, text_on}
use Rattle.acl_job.specs.AskedFiles.{PlanFile}
use Rattle.acl_filters.specs.FilterMeanings.{DecidesAsPolicy}
use Rattle.acl_job.specs.Job.{IsJob, Plan, filters_of}

-- The text of the file's filters spells the document of their sections, one for each target, in order, which decide as
-- the policy does.
abbrev pub IsOfSections : Naming → Day → PlanFile → Type 0
IsOfSections naming today f = IsDocumentFor f.kind (DecidesAsPolicy naming today) f.requests
    (text_on f.kind (filters_of today f)) (sections_on f.kind (filters_of today f))

-- So it is of each file of a job's plan.
abbrev pub PlannedTextsAreOfSections : Type 0
PlannedTextsAreOfSections = (words : List (List ℕ)) (day : Day) (files : List File) (plan : Plan)
    → IsJob words day files (Some (Ok plan))
    → AllByRecursion (IsOfSections plan.naming plan.today) plan.files
