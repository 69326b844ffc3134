use Rattle.std.proofs.Common.{◌<◌, ℕ, length, map, take, ap, sym, subst, ◌∙◌, arith}
use Rattle.acl_rows.specs.LineHalfSteps.{AreHalves}
use Rattle.acl_rows.proofs.HalfLaws.{one_half_more}
use Rattle.acl_rows.proofs.line_halves.keep_backs.Goals as goal

pub loop-i-init : goal.loop-i-init
loop-i-init g c = ap (map (g.F.LineHalves.back c.args.form.now)) (sym c.copy-left.ensures)

pub returns-in_default-clause-halves : goal.returns-in_default-clause-halves
returns-in_default-clause-halves g c = c.loop-i.invariant

pub returns-then-not-is_open-clause-halves : goal.returns-then-not-is_open-clause-halves
returns-then-not-is_open-clause-halves g c = c.loop-i.invariant

pub loop-i-preserved : goal.loop-i-preserved
loop-i-preserved g c =
    let within : c.loop-i.i < length c.loop-i.texts = omega (arith, c.loop-i-test.true, c.loop-i.auto.texts) in
    one_half_more (g.F.LineHalves.back c.args.form.now) (g.B.Listed.items c.args.seconds.now) (g.B.Listed.items c.loop-i.left)
    (g.B.Listed.items c.next.new.self) c.in-Some.second c.loop-i.texts c.loop-i.i c.back_text-text.result c.loop-i.invariant
    (sym c.copy-behind.ensures ∙ c.in-Some.ensures.some) (c.back_text-text.ensures (sym c.is_open.ensures ∙ c.if-not-is_open.false)) within

pub returns-clause-halves : goal.returns-clause-halves
returns-clause-halves g c =
    let P : ℕ → Type 0 = λ n. AreHalves (g.F.LineHalves.back c.args.form.now) (g.B.Listed.items c.args.seconds.now) (take n c.loop-i.texts) (g.B.Listed.items c.loop-i.left) in
    subst P (omega (arith, c.loop-i-test.false, c.loop-i.auto.texts, c.loop-i.auto.i-end)) c.loop-i.invariant
