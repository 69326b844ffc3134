use Rattle.std.proofs.Common.{◌≡◌, ℕ, List, ◌++◌, flat_map, length}
use Rattle.acl_text.specs.Puts.{Puts}
use Rattle.acl_text.proofs.Putting.{done}
use Rattle.acl_rows.proofs.line_halves.put_each.Given as goal

abbrev pub invariant-loop-first : goal.invariant-loop-first
invariant-loop-first g l = record {
  text : List ℕ;
  put : Puts g.O.Out l.initial.out l.out text done;
  whole : text ++ flat_map (λ a. flat_map (λ b. g.F.LineHalves.front l.form a ++ g.F.LineHalves.back l.form b) (g.B.Listed.items l.seconds)) (g.A.Listed.items l.rest)
      ≡ flat_map (λ a. flat_map (λ b. g.F.LineHalves.front l.form a ++ g.F.LineHalves.back l.form b) (g.B.Listed.items l.seconds)) (g.A.Listed.items l.firsts);
}

abbrev pub decreases-loop-first : goal.decreases-loop-first
decreases-loop-first g l = length (g.A.Listed.items l.rest)
