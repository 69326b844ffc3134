-- What the program does with the words that the machine gives, or where it gives none; and its exit status.
use Rattle.std.specs.Prelude.{◌≡◌, ℕ, Bool, List}
use Rattle.acl_run.specs.Telling.{RunsWithoutWords}
use Rattle.acl_run.specs.Statuses.{status}
use Rattle.acl_run.specs.Worlds.{Stream, World}
use Rattle.acl_run.specs.declared.endings.Ended.{Ended}
use Rattle.aclgen_core.specs.FaultLines.{usage_line}
use Rattle.aclgen_core.specs.Runs.{Runs}

-- The run on the words that are given ends with the status of its ending.
abbrev pub RunsWithStatus : List (List ℕ) → World → World → ℕ → Type 0
RunsWithStatus words old new given = (result : Ended) × (given ≡ status result) × Runs words old new result

-- No words were given: memory was wanted for them, or some are no text, and so they are no command line.
abbrev pub EndsWithoutWords : Bool → Stream → Stream → ℕ → Type 0
EndsWithoutWords wanted old new given =
    (result : Ended) × (given ≡ status result) × RunsWithoutWords usage_line wanted old new result
