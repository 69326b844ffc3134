use Rattle.std.proofs.Common.{take}
use Rattle.acl_rows.specs.LineHalfSteps.{AreHalves}
use Rattle.acl_rows.proofs.line_halves.keep_backs.Given as goal

abbrev pub invariant-loop-i : goal.invariant-loop-i
invariant-loop-i g l = AreHalves (g.F.LineHalves.back l.form) (g.B.Listed.items l.seconds) (take l.i l.texts) (g.B.Listed.items l.left)
