use Rattle.std.proofs.Common.{◌≡◌, ℕ, List, ◌++◌, flat_map, length}
use Rattle.acl_text.specs.Puts.{Puts}
use Rattle.acl_text.proofs.Putting.{done}
use Rattle.acl_rows.specs.LineHalfSteps.{IsHalf}
use Rattle.acl_rows.proofs.line_halves.put_behind.Given as goal

abbrev pub invariant-loop-second : goal.invariant-loop-second
invariant-loop-second g l = record {
  text : List ℕ;
  put : Puts g.O.Out l.initial.out l.out text done;
  whole : text ++ flat_map (λ b. g.F.LineHalves.front l.form l.first ++ g.F.LineHalves.back l.form b) (g.B.Listed.items l.rest)
      ≡ flat_map (λ b. g.F.LineHalves.front l.form l.first ++ g.F.LineHalves.back l.form b) (g.B.Listed.items l.seconds);
  front : IsHalf (g.F.LineHalves.front l.form l.first) l.line;
}

abbrev pub decreases-loop-second : goal.decreases-loop-second
decreases-loop-second g l = length (g.B.Listed.items l.rest)
