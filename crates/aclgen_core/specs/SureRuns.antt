-- The world of a run over the objects in memory that never fail.
use Rattle.std.specs.Prelude.{Some}
use Rattle.acl_memory.specs.SureObjects.{sure_members}
use Rattle.acl_memory.specs.declared.sure_clocks.SureClock.{SureClock}
use Rattle.acl_memory.specs.declared.sure_sinks.SureSink.{SureSink}
use Rattle.acl_memory.specs.declared.sure_trees.SureTree.{SureTree}
use Rattle.acl_run.specs.Worlds.{Stream, World, disk, world}

abbrev pub sure_stream : SureSink → Stream
sure_stream s = record { told = Some s.sink.bytes; faults = 0; refusals = s.sink.refusals }

abbrev pub sure_world : SureTree → SureSink → SureSink → SureClock → World
sure_world tree out err clock =
    world (disk sure_members tree) (sure_stream out) (sure_stream err)
    (record { day = Some clock.day.number; faults = 0 })
