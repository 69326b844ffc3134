-- What the text of a file has to mean: the headline of a run, said over the policy and the languages alone. No
-- generator is named here.
use Rattle.std.specs.Prelude.{ℕ, List, IsSomeAnd}
use Rattle.acl_host.specs.declared.days.Day.{Day}
use Rattle.acl_host.specs.Files.{File, file_at}
use Rattle.acl_target.specs.declared.targets.Kind.{Kind}
use Rattle.acl_filters.specs.PlatformLanguages.{IsTextFor}
use Rattle.acl_naming.specs.Definitions.{Naming}
use Rattle.acl_filters.specs.AskedFilters.{FilterRequest}
use Rattle.acl_filters.specs.FilterMeanings.{DecidesAsPolicy}
use Rattle.acl_job.specs.AskedFiles.{PlanFile}

-- The text is one that the platform's language accepts as one document, with one section for each target, in order; and
-- each section decides every packet of its target as the policy does.
abbrev pub Means : Naming → Day → Kind → List FilterRequest → List ℕ → Type 0
Means naming today kind requests text =
    IsTextFor kind (DecidesAsPolicy naming today) requests text

-- Such a text lies at the file's path.
abbrev pub HoldsMeaning : Naming → Day → List File → PlanFile → Type 0
HoldsMeaning naming today files f =
    IsSomeAnd (file_at files f.path) (Means naming today f.kind f.requests)
