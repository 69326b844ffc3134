use Rattle.std.proofs.Common.{ap, sym, ◌∙◌}
use Rattle.acl_policy.specs.JudgingSteps.{rest_behind}
use Rattle.acl_policy.proofs.JudgingLaws.{value_comes}
use Rattle.acl_policy.proofs.word_judges.Judge.take_value.Goals as goal

pub returns : goal.returns
returns c = λ ws.
    let judge = c.make_room.new.self in
    c.in_ok-make_room.ensures ws ∙ value_comes judge.mark judge.state judge.held.items c.args.word c.requires ws
    ∙ ap (λ vs. rest_behind judge.mark judge.state vs ws) (sym c.in_ok-push.ensures.items)
