use Rattle.std.proofs.Common.{refl}
use Rattle.cisco_lang.proofs.ScanLaws.{list_taken, no_end, no_head}
use Rattle.cisco_lang.proofs.scanning.take_list.Goals as goal

pub returns-in_err-begun : goal.returns-in_err-begun
returns-in_err-begun c =
    rw c.from_residual.ensures
    (no_head c.args.family c.args.name.now c.args.packet.now c.args.text.now c.in_err-begun.ensures)

pub returns-in_err-rest : goal.returns-in_err-rest
returns-in_err-rest c =
    rw c.from_residual-in_err-rest.ensures
    (no_end c.args.family c.args.name.now c.args.packet.now c.args.text.now c.in_ok-begun.begun.now c.take_items-items.result c.in_ok-begun.ensures
    c.take_items-items.ensures c.in_err-rest.ensures)

pub returns : goal.returns
returns c =
    let items = c.take_items-items.result in
    list_taken c.args.family c.args.name.now c.args.packet.now c.args.text.now c.in_ok-begun.begun.now items (record { outcome = items.outcome; rest = c.in_ok-rest.rest })
    c.in_ok-begun.ensures c.take_items-items.ensures c.in_ok-rest.ensures refl
