use Rattle.std.proofs.Common.{◌≡◌, length}
use Rattle.acl_rows.specs.RowSteps.{rows_in}
use Rattle.junos_lang.specs.ScanSteps.{read_term}
use Rattle.junos_lang.proofs.term_taking.take_rows.Given as goal

abbrev pub invariant-loop-line : goal.invariant-loop-line
invariant-loop-line l = read_term l.draft (rows_in l.rest) ≡ read_term l.fn.draft (rows_in l.fn.text)

abbrev pub decreases-loop-line : goal.decreases-loop-line
decreases-loop-line l = length l.rest
