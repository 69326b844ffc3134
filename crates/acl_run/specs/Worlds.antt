-- What lies outside a run: the files, the two streams and the clock, as their traits tell them.
use Rattle.std.specs.Prelude.{ℕ, ◌≤◌, ℤ, List, Option}
use Rattle.acl_host.specs.Files.{File}
use Rattle.acl_host.specs.Outside.{TreeMembers}
use Rattle.acl_host.specs.declared.sinks.Sink as sinks
use Rattle.acl_host.specs.declared.clocks.Clock as clocks

-- A tree: its files, the path that is begun, and how often its calls failed or wanted memory.
pub record Disk : Type 0 where
  pub files : Option (List File)
  pub begun : Option (List ℕ)
  pub list_faults : ℕ
  pub read_faults : ℕ
  pub write_faults : ℕ
  pub write_refusals : ℕ

-- A stream: what it got so far, and the same counts.
pub record Stream : Type 0 where
  pub told : Option (List ℕ)
  pub faults : ℕ
  pub refusals : ℕ

-- A clock: its day as a number, and how often it failed.
pub record Watch : Type 0 where
  pub day : Option ℤ
  pub faults : ℕ

pub record World : Type 0 where
  pub disk : Disk
  pub out : Stream
  pub err : Stream
  pub clock : Watch

abbrev pub disk : {S : Type 0} → TreeMembers S → S → Disk
disk t s = record {
  files = t.files s;
  begun = t.begun s;
  list_faults = t.list_faults s;
  read_faults = t.read_faults s;
  write_faults = t.faults s;
  write_refusals = t.refusals s;
}

abbrev pub stream : {S : Type 0} → sinks.Ghosts S → S → Stream
stream t s = record { told = t.told s; faults = t.faults s; refusals = t.refusals s }

abbrev pub watch : {S : Type 0} → clocks.Ghosts S → S → Watch
watch t s = record { day = t.day s; faults = t.faults s }

abbrev pub world : Disk → Stream → Stream → Watch → World
world d o e c = record { disk = d; out = o; err = e; clock = c }

-- The world as the members of its four traits tell it.
abbrev pub world_of : {T O E C : Type 0} → TreeMembers T → sinks.Ghosts O → sinks.Ghosts E
    → clocks.Ghosts C → T → O → E → C → World
world_of t o e c tree out err clock =
    world (disk t tree) (stream o out) (stream e err) (watch c clock)

-- No count falls.
pub record DiskCountsGrow (old new : Disk) : Type 0 where
  pub lists : old.list_faults ≤ new.list_faults
  pub reads : old.read_faults ≤ new.read_faults
  pub writes : old.write_faults ≤ new.write_faults
  pub refusals : old.write_refusals ≤ new.write_refusals

pub record StreamCountsGrow (old new : Stream) : Type 0 where
  pub faults_grow : old.faults ≤ new.faults
  pub refusals_grow : old.refusals ≤ new.refusals

pub record CountsGrow (old new : World) : Type 0 where
  pub disk_counts : DiskCountsGrow old.disk new.disk
  pub out_counts : StreamCountsGrow old.out new.out
  pub err_counts : StreamCountsGrow old.err new.err
  pub clock_count : old.clock.faults ≤ new.clock.faults
