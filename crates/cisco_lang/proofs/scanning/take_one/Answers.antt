use Rattle.cisco_lang.proofs.SectionScanLaws.{one_none, one_taken}
use Rattle.cisco_lang.proofs.scanning.take_one.Goals as goal

pub returns-in_err-list : goal.returns-in_err-list
returns-in_err-list c =
    rw c.from_residual.ensures (one_none c.args.family c.args.name.now c.args.packet.now c.args.text.now c.in_err-list.ensures)

pub returns : goal.returns
returns c =
    one_taken c.args.family c.args.name.now c.args.packet.now c.args.text.now c.in_ok-list.list c.where_family.result c.in_ok-list.ensures
    c.where_family.ensures
