-- What telling leaves on the two streams: a line on standard error, or a text on standard output.
use Rattle.std.specs.Prelude.{◌≡◌, ℕ, ◌⊎◌, Bool, true, false, List}
use Rattle.acl_text.specs.Output.{Rose}
use Rattle.acl_host.specs.Files.{BothTell}
use Rattle.acl_host.specs.Outside.{AddsFront}
use Rattle.acl_run.specs.Told.{Got, Tried}
use Rattle.acl_run.specs.Worlds.{Stream, StreamCountsGrow}
use Rattle.acl_run.specs.declared.endings.Ended.{Ended}
use Rattle.acl_run.specs.declared.endings.Ended.TheVariants as ended
use Rattle.acl_run.specs.declared.endings.Which.TheVariants as which

-- ---- standard output

-- The text; or a front of it, where standard output failed, of which the line tells, or memory was wanted.
abbrev pub Reports : List ℕ → List ℕ → Stream → Stream → Stream → Stream → Ended → Type 0
Reports line text o o' e e' ended.Done =
    Got text o.told o'.told × (o'.faults ≡ o.faults) × (e' ≡ e)
Reports line text o o' e e' (ended.Outside which.Out) = Rose o.faults o'.faults
    × BothTell o.told o'.told (AddsFront text) × Tried line e e'
Reports line text o o' e e' ended.Memory = Rose o.refusals o'.refusals
    × BothTell o.told o'.told (AddsFront text) × (o'.faults ≡ o.faults) × (e' ≡ e)
Reports line text o o' e e' result = ⊥

-- ---- calls

-- A line is written, and the ending is the one that is asked for; else what was written is a front of it.
abbrev pub RefusesSo : List ℕ → Ended → Stream → Stream → Ended → Type 0
RefusesSo line asked old new result =
    ((result ≡ asked) × Got line old.told new.told × (new.faults ≡ old.faults))
    ⊎ (((result ≡ ended.Outside which.Err) × Rose old.faults new.faults
    × BothTell old.told new.told (AddsFront line))
    ⊎ ((result ≡ ended.Memory) × Rose old.refusals new.refusals
    × BothTell old.told new.told (AddsFront line) × (new.faults ≡ old.faults)))

pub record Refuses (line : List ℕ) (asked : Ended) (old new : Stream) (result : Ended) : Type 0 where
  pub counts : StreamCountsGrow old new
  pub so : RefusesSo line asked old new result

-- The text is written to standard output, or a front of it.
pub record ReportsOn (line text : List ℕ) (o o' e e' : Stream) (result : Ended) : Type 0 where
  pub out_counts : StreamCountsGrow o o'
  pub err_counts : StreamCountsGrow e e'
  pub so : Reports line text o o' e e' result

-- A line was tried on the stream, and its counts did not fall.
pub record TriesLine (line : List ℕ) (old new : Stream) : Type 0 where
  pub tried : Tried line old new
  pub counts : StreamCountsGrow old new

-- No words were given: memory was wanted for them, or some are no text, and so they are no command line.
abbrev pub RunsWithoutWords : List ℕ → Bool → Stream → Stream → Ended → Type 0
RunsWithoutWords usage true old new result = (result ≡ ended.Memory) × (new ≡ old)
RunsWithoutWords usage false old new result = Refuses usage ended.Usage old new result
