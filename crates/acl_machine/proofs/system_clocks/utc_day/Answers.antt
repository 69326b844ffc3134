use Rattle.std.proofs.Common.{arith}
use Rattle.jiff_core.proofs.DateTimeLemmas.{civil_nanos-parts, time_nanos_bound}
use Rattle.jiff_core.proofs.SignedLemmas.{signed_arith}
use Rattle.acl_machine.proofs.system_clocks.utc_day.Goals as goal

pub returns-clause-low : goal.returns-clause-low
returns-clause-low c =
    let shown = c.to_datetime.result in
    let day = rw (c.to_plain.ensures, c.date-date.ensures) at c.to_unix_epoch_day.ensures.value in
    omega (arith, signed_arith, c.requires, c.to_datetime.ensures, civil_nanos-parts shown, time_nanos_bound shown.time, day)
