use Rattle.std.proofs.Common.{◌≡◌, length}
use Rattle.std.specs.List.{fold}
use Rattle.acl_rows.specs.RowSteps.{rows_in}
use Rattle.acl_rows.proofs.drafts.read_rows.Given as goal

abbrev pub invariant-loop-line : goal.invariant-loop-line
invariant-loop-line g l =
    let step = g.D.Draft.step in
    fold step l.draft (rows_in l.rest) ≡ fold step l.initial.draft (rows_in l.fn.text)

abbrev pub decreases-loop-line : goal.decreases-loop-line
decreases-loop-line g l = length l.rest
