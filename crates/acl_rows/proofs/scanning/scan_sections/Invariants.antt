use Rattle.std.proofs.Common.{length}
use Rattle.acl_text.specs.Cuts.{views}
use Rattle.acl_rows.proofs.ScanLaws.{Going}
use Rattle.acl_rows.proofs.scanning.scan_sections.Given as goal

abbrev pub invariant-loop-rest : goal.invariant-loop-rest
invariant-loop-rest g l =
    let of = g.L.Language in
    Going of.is_section of.names of.rows of.outcome l.text l.rest l.which l.count l.packet (views l.names.items) l.outcome

abbrev pub decreases-loop-rest : goal.decreases-loop-rest
decreases-loop-rest g l = length l.rest
