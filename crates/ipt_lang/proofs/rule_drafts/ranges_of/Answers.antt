use Rattle.std.proofs.Common.{◌++◌, ap, sym, ◌∙◌}
use Rattle.ipt_lang.specs.ReadingSteps.{ranges_in}
use Rattle.ipt_lang.proofs.RuleReadingLaws.{more_ranges}
use Rattle.ipt_lang.proofs.rule_drafts.ranges_of.Goals as goal

pub loop-part-preserved : goal.loop-part-preserved
loop-part-preserved c =
    ap (λ rs. rs ++ ranges_in c.in-Some.behind.now) c.in_ok-push_range.ensures
    ∙ more_ranges c.loop-part.ranges c.loop-part.rest.now c.in-Some.part.now c.in-Some.behind.now (sym c.in-Some.ensures)
    ∙ c.loop-part.invariant
