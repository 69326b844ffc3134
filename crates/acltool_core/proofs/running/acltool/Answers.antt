use Rattle.std.proofs.Common.{map}
use Rattle.std.specs.String.{string_bytes}
use Rattle.acl_run.proofs.PrintingLaws.{prints}
use Rattle.acltool_core.specs.ToolRuns.{MeansAnswer, asked, told_text}
use Rattle.acltool_core.proofs.ToolJobs.{one}
use Rattle.acltool_core.proofs.running.acltool.Goals as goal

pub returns : goal.returns
returns g c =
    let words = map string_bytes c.args.words.now in
    prints (asked words) told_text MeansAnswer (one c.dead_answers_are_one.ensures words) c.decide-decision.result _ _ _ _ _ _ _ _ c.finish.result c.requires c.decide-decision.ensures.decides c.decide-decision.ensures.alone
    c.finish.ensures
