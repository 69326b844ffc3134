use Rattle.std.proofs.Common.{ℕ, List, ◌==◌, map, ap, ◌∙◌, arith}
use Rattle.acl_naming.proofs.ClearedMarks.{first_walk, later_walk}
use Rattle.acl_naming.proofs.marks.Marks.clear.Goals as goal

pub returns-then-self-lt4294967295 : goal.returns-then-self-lt4294967295
returns-then-self-lt4294967295 c =
    later_walk c.self.inside.walk c.self.inside.walks.items c.args.len c.self.invariant
    (omega (arith, c.len.ensures, c.if-len.true))

pub returns : goal.returns
returns c = ap (λ (ws : List ℕ). map (λ w. w == 1) ws) c.in_ok-self-inside.ensures ∙ first_walk c.args.len
