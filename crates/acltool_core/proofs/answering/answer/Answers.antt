use Rattle.std.proofs.Common.{ap, sym, subst}
use Rattle.acl_options.specs.CodeViews.{inputs_view, tool_view}
use Rattle.acl_options.specs.ToolCommands.{ToolRequest}
use Rattle.acl_run.specs.Finishing.{IsTextOf}
use Rattle.acl_run.specs.PolicyAnswers.{Makes}
use Rattle.acltool_core.specs.RestorePlans.{MeansPlan, Restores, restored_text}
use Rattle.acltool_core.specs.TermAnswers.{AnswersDead, dead_text}
use Rattle.acltool_core.specs.ListPlans.{Lists, MeansPlan as MeansListPlan, listed_text}
use Rattle.acltool_core.specs.ToolRuns.{Answers, MeansAnswer, Restored, Decided, Listed, told_text}
use Rattle.acltool_core.proofs.ToolJobs.{made-as}
use Rattle.acltool_core.proofs.answering.answer.Goals as goal

pub returns-in-Speedway-clause-makes : goal.returns-in-Speedway-clause-makes
returns-in-Speedway-clause-makes g c =
    let P : ToolRequest → Type 0 = λ r. Makes (Answers r c.args.today) (IsTextOf told_text MeansAnswer) (g.T.Tree.files c.args.tree.now) c.restore.result in
    subst P (sym (ap tool_view c.in-Speedway.is))
    (made-as Restored (Restores (inputs_view c.in-Speedway.inputs) c.in-Speedway.family c.args.today) restored_text MeansPlan
    (λ x work h. record { text_is = h.text_is; means = h.means }) _ c.restore.result c.restore.ensures.makes)

pub returns-in-Dead-clause-makes : goal.returns-in-Dead-clause-makes
returns-in-Dead-clause-makes g c =
    let P : ToolRequest → Type 0 = λ r. Makes (Answers r c.args.today) (IsTextOf told_text MeansAnswer) (g.T.Tree.files c.args.tree.now) c.tell_dead.result in
    subst P (sym (ap tool_view c.in-Dead.is))
    (made-as Decided (AnswersDead (inputs_view c.in-Dead.inputs) c.args.today) dead_text (λ answer. Unit {0})
    (λ x work h. record { text_is = h.text_is; means = h.means }) _ c.tell_dead.result c.tell_dead.ensures.makes)

pub returns-in-Standard-clause-makes : goal.returns-in-Standard-clause-makes
returns-in-Standard-clause-makes g c =
    let P : ToolRequest → Type 0 = λ r. Makes (Answers r c.args.today) (IsTextOf told_text MeansAnswer) (g.T.Tree.files c.args.tree.now) c.list_targets.result in
    subst P (sym (ap tool_view c.in-Standard.is))
    (made-as Listed (Lists (inputs_view c.in-Standard.inputs) c.in-Standard.first c.args.today) listed_text MeansListPlan
    (λ x work h. record { text_is = h.text_is; means = h.means }) _ c.list_targets.result c.list_targets.ensures.makes)
