use Rattle.std.proofs.Common.{arith}
use Rattle.acl_naming.specs.LineSteps.{is_plain}
use Rattle.acl_naming.proofs.LaneLaws.{more_pass}
use Rattle.acl_naming.proofs.byte_runs.plain_front.Goals as goal

pub returns-then-run-lt-LANES-clause-plain : goal.returns-then-run-lt-LANES-clause-plain
returns-then-run-lt-LANES-clause-plain c =
    more_pass is_plain c.args.text.now c.loop-from.from c.plain_run-run.result c.loop-from.invariant.plain c.plain_run-run.ensures.1

pub loop-from-preserved : goal.loop-from-preserved
loop-from-preserved c =
    let text = c.args.text.now in
    record {
      within = omega (arith, c.plain_run-run.ensures.0, c.loop-from-test.true);
      plain = more_pass is_plain text c.loop-from.from c.plain_run-run.result c.loop-from.invariant.plain c.plain_run-run.ensures.1;
    }

pub returns-clause-plain : goal.returns-clause-plain
returns-clause-plain c =
    more_pass is_plain c.args.text.now c.loop-from.from c.short_plain_front.result c.loop-from.invariant.plain c.short_plain_front.ensures.plain
