use Rattle.std.proofs.Common.{arith}
use Rattle.acl_words.specs.ReadingSteps.{is_inner}
use Rattle.acl_words.proofs.LaneLaws.{more_pass}
use Rattle.acl_words.proofs.inner_runs.long_inner_count.Goals as goal

pub returns-then-run-lt-LANES-clause-inner : goal.returns-then-run-lt-LANES-clause-inner
returns-then-run-lt-LANES-clause-inner c =
    more_pass is_inner c.args.text.now c.loop-from.from c.inner_run-run.result c.loop-from.invariant.inner c.inner_run-run.ensures.1

pub loop-from-preserved : goal.loop-from-preserved
loop-from-preserved c =
    let text = c.args.text.now in
    record {
      within = omega (arith, c.inner_run-run.ensures.0, c.loop-from-test.true);
      inner = more_pass is_inner text c.loop-from.from c.inner_run-run.result c.loop-from.invariant.inner c.inner_run-run.ensures.1;
    }

pub returns-clause-inner : goal.returns-clause-inner
returns-clause-inner c =
    more_pass is_inner c.args.text.now c.loop-from.from c.short_inner_count.result c.loop-from.invariant.inner c.short_inner_count.ensures.inner
