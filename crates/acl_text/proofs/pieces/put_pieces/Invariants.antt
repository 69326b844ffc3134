use Rattle.std.proofs.Common.{map, take}
use Rattle.acl_text.specs.Output.{joined}
use Rattle.acl_text.specs.Puts.{Puts}
use Rattle.acl_text.proofs.Putting.{done}
use Rattle.acl_text.proofs.pieces.put_pieces.Given as goal

abbrev pub invariant-loop-piece : goal.invariant-loop-piece
invariant-loop-piece g l =
    Puts g.O.Out l.initial.out l.out (joined (map (λ p. p.now) (take l.piece-index l.pieces))) done
