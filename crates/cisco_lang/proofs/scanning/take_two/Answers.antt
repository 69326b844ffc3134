use Rattle.cisco_lang.proofs.SectionScanLaws.{no_first, no_second, no_second_name, two_taken}
use Rattle.cisco_lang.proofs.scanning.take_two.Goals as goal

pub returns-in_err-first : goal.returns-in_err-first
returns-in_err-first c =
    rw c.from_residual.ensures (no_first c.args.name.now c.args.packet.now c.args.text.now c.in_err-first.ensures)

pub returns-in_err-second : goal.returns-in_err-second
returns-in_err-second c =
    rw c.from_residual-in_err-second.ensures
    (no_second_name c.args.name.now c.args.packet.now c.args.text.now c.in_ok-first.first c.in_ok-first.ensures c.in_err-second.ensures)

pub returns-in_err-other : goal.returns-in_err-other
returns-in_err-other c =
    rw c.from_residual-in_err-other.ensures
    (no_second c.args.name.now c.args.packet.now c.args.text.now c.in_ok-second.second.now c.in_ok-first.first c.in_ok-first.ensures
    c.in_ok-second.ensures c.in_err-other.ensures)

pub returns : goal.returns
returns c =
    two_taken c.args.name.now c.args.packet.now c.args.text.now c.in_ok-second.second c.in_ok-first.first c.in_ok-other.other
    c.by_family-outcome.result c.in_ok-first.ensures c.in_ok-second.ensures c.in_ok-other.ensures c.by_family-outcome.ensures
