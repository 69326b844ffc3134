use Rattle.std.proofs.Common.{Some, ap, sym, ◌∙◌}
use Rattle.acl_policy.specs.JudgingSteps.{rest_behind}
use Rattle.acl_policy.proofs.JudgingLaws.{ends_reading, mark_goes_on, mark_stops}
use Rattle.acl_policy.proofs.word_judges.Judge.take_mark.Goals as goal

pub returns : goal.returns
returns c = λ ws.
    let old = c.args.self.now in
    let judge = c.judge_held.new.self in
    let word = c.args.word in
    let judged = c.in_ok-judge_held.ensures in
    mark_goes_on old.mark old.state old.held.items judge.state judged.state word c.requires ws
    ∙ ap (λ vs. rest_behind (Some word) judge.state vs ws) (sym judged.held)

pub returns-in_err-judge_held : goal.returns-in_err-judge_held
returns-in_err-judge_held c =
    let old = c.args.self.now in
    let refusal = c.in_err-judge_held.field-0.0 in
    ends_reading _ _ refusal c.from_residual.result c.from_residual.ensures.1
    (λ ws. mark_stops old.mark old.state old.held.items refusal c.in_err-judge_held.ensures.state c.args.word c.requires ws)
