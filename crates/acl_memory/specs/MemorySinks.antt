-- What a write leaves of a stream into memory, and what a clock that stands still is.
use Rattle.std.specs.Prelude.{ℕ, ℤ, Bool, ◌++◌, List, Some, Result, Ok, Err}
use Rattle.acl_text.specs.Output.{one_more}
use Rattle.acl_host.specs.Outside.{Writes, Tells}
use Rattle.acl_memory.specs.Memory.{CallsMade, after_one}
use Rattle.acl_host.specs.declared.clocks.ClockFault.{ClockFault}
use Rattle.acl_host.specs.declared.days.Day.{Day}
use Rattle.acl_host.specs.declared.sinks.WriteFault.{WriteFault}
use Rattle.acl_host.specs.declared.sinks.WriteFault.TheVariants.{Failed, Memory}

-- A stream into memory: its bytes, its calls, and its counts.
pub record Written : Type 0 where
  pub bytes : List ℕ
  pub writes : CallsMade
  pub faults : ℕ
  pub refusals : ℕ

-- A write into it: all its bytes are told.
abbrev pub WritesInMemory : {T : Type 0} → Written → Written → List ℕ → Result T WriteFault → Type 0
WritesInMemory old new bytes result =
    Writes (λ (s : Written). Some s.bytes) (λ s. s.faults) (λ s. s.refusals) old new bytes result

-- The stream after a write: each write is counted, and a refused one adds no bytes.
abbrev pub after_write : {T : Type 0} → Result T WriteFault → List ℕ → Written → Written
after_write (Ok done) bytes s = record s { writes = after_one s.writes; bytes = s.bytes ++ bytes }
after_write (Err Failed) bytes s =
    record s { writes = after_one s.writes; faults = one_more s.faults }
after_write (Err Memory) bytes s =
    record s { writes = after_one s.writes; refusals = one_more s.refusals }

-- A clock that stands still: its day, whether it fails, and its count.
pub record Standing : Type 0 where
  pub day : ℤ
  pub fails : Bool
  pub faults : ℕ

-- The day that it tells.
abbrev pub TellsItsDay : Standing → Standing → Result Day ClockFault → Type 0
TellsItsDay old new result = Tells (λ (c : Standing). Some c.day) (λ c. c.faults) old new result
