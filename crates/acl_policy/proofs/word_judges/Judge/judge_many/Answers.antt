use Rattle.std.proofs.Common.{[], ◌∷◌, ap, sym, ◌∙◌}
use Rattle.acl_policy.specs.JudgingSteps.{rest_behind}
use Rattle.acl_policy.proofs.JudgingLaws.{ends_reading, more_goes_on, more_stops}
use Rattle.acl_policy.proofs.word_judges.Judge.judge_many.Goals as goal

pub returns : goal.returns
returns c = λ ws.
    let old = c.args.self.now in
    let judge = c.judge_held.new.self in
    let word = c.args.word.now in
    let judged = c.in_ok-judge_held.ensures in
    more_goes_on old.mark old.state old.held.items judge.state judged.state word c.requires.value c.requires.many ws
    ∙ ap (λ m. rest_behind m judge.state [] (word ∷ ws)) (sym judged.mark)
    ∙ ap (λ vs. rest_behind judge.mark judge.state vs (word ∷ ws)) (sym judged.held)

pub returns-in_err-judge_held : goal.returns-in_err-judge_held
returns-in_err-judge_held c =
    let old = c.args.self.now in
    let refusal = c.in_err-judge_held.field-0.0 in
    ends_reading _ _ refusal c.from_residual.result c.from_residual.ensures.1
    (λ ws. more_stops old.mark old.state old.held.items refusal c.in_err-judge_held.ensures.state c.args.word.now c.requires.value c.requires.many ws)
