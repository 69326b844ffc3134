use Rattle.std.proofs.Common.{◌∙◌, Option, IfSome, ap, map, option_map, subst, sym}
use Rattle.std.specs.String.{string_bytes}
use Rattle.acl_options.specs.CodeViews.{tool_view}
use Rattle.acl_options.specs.ComputableTools.{date_for}
use Rattle.acl_options.specs.ToolCommands.{AsksForTool}
use Rattle.acl_options.specs.declared.tool_commands.ToolCommand.{ToolCommand}
use Rattle.acl_run.specs.Finishing.{IsTextOf}
use Rattle.acl_run.proofs.DecidingTexts.{fault-decided, work-decided}
use Rattle.acltool_core.specs.ToolRuns.{Answers, MeansAnswer, asked, told_text}
use Rattle.acltool_core.proofs.ToolJobs.{answers-job, askable, asks-as}
use Rattle.acltool_core.proofs.deciding.decide.Goals as goal

pub returns-in-Ok-answer-clause-decides : goal.returns-in-Ok-answer-clause-decides
returns-in-Ok-answer-clause-decides g c =
    let words = map string_bytes c.args.words.now in
    let r = tool_view c.in-Ok-Some.command in
    let is = sym c.in-Ok-Some.ensures.exact ∙ ap (option_map tool_view) c.in-Ok-Some.field-0-is in
    work-decided (asked words) (IsTextOf told_text MeansAnswer) (Answers r) r (date_for r) c.in-Ok.today _ _ _ _ _ is (asks-as words r is) (answers-job words r is)
    (rw c.date.ensures at c.in-Ok.ensures) c.in-Ok-answer.text c.in-Ok-answer.ensures.looks c.in-Ok-answer.ensures.makes

pub returns-in-Err-answer-clause-decides : goal.returns-in-Err-answer-clause-decides
returns-in-Err-answer-clause-decides g c =
    let words = map string_bytes c.args.words.now in
    let r = tool_view c.in-Ok-Some.command in
    let is = sym c.in-Ok-Some.ensures.exact ∙ ap (option_map tool_view) c.in-Ok-Some.field-0-is in
    fault-decided (asked words) (IsTextOf told_text MeansAnswer) (Answers r) r (date_for r) c.in-Ok.today _ _ _ _ _ is (asks-as words r is) (answers-job words r is)
    (rw c.date.ensures at c.in-Ok.ensures) c.in-Err-answer.fault c.decision_on.result c.in-Err-answer.ensures.looks c.in-Err-answer.ensures.makes c.decision_on.ensures

pub answer-requires : goal.answer-requires
answer-requires g c =
    let words = map string_bytes c.args.words.now in
    askable words (tool_view c.in-Ok-Some.command)
    (subst (λ (o : Option ToolCommand). IfSome o (λ r. AsksForTool words (tool_view r))) c.in-Ok-Some.field-0-is c.in-Ok-Some.ensures.some)
