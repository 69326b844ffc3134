use Rattle.std.proofs.Common.{replicate}
use Rattle.acl_text.specs.Puts.{Puts}
use Rattle.acl_text.proofs.Putting.{done}
use Rattle.acl_rows.proofs.rows.put_each_space.Given as goal

abbrev pub invariant-loop-space : goal.invariant-loop-space
invariant-loop-space g l =
    Puts g.O.Out l.initial.out l.out (replicate l._space 32) done
