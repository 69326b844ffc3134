-- Outcomes that are not logged.
use Rattle.std.specs.Prelude.{false}
use Rattle.acl_packet.specs.declared.filtering.Outcome.{Outcome}
use Rattle.acl_packet.specs.declared.filtering.Verdict.{Verdict}

abbrev pub unlogged : Verdict → Outcome
unlogged verdict = record { verdict = verdict; logged = false }
