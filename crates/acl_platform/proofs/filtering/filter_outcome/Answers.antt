use Rattle.std.proofs.Common.{ap, sym, ◌∙◌}
use Rattle.acl_packet.specs.Outcomes.{unlogged}
use Rattle.acl_platform.specs.Rules.{rules_outcome}
use Rattle.acl_platform.proofs.RuleOutcomes.{deciding-rule, no-rule, passing-rule}
use Rattle.acl_platform.proofs.filtering.filter_outcome.Goals as goal

pub returns-then-rule_holds : goal.returns-then-rule_holds
returns-then-rule_holds c =
    let f = c.args.filter.now in
    let p = c.args.packet.now in
    c.decided_by.ensures
    ∙ deciding-rule f.ending c.as_slice-rule-items.result.now c.loop-rule.rule-index c.rule-item.result p c.loop-rule-test.true c.rule-item.is
    (sym c.rule_holds.ensures ∙ c.if-rule_holds.true)
    ∙ c.loop-rule.invariant ∙ ap (λ rs. rules_outcome f.ending rs p) c.as_slice-rule-items.ensures

pub loop-rule-preserved : goal.loop-rule-preserved
loop-rule-preserved c =
    passing-rule c.args.filter.now.ending c.as_slice-rule-items.result.now c.loop-rule.rule-index c.rule-item.result c.args.packet.now
    c.loop-rule-test.true c.rule-item.is (sym c.rule_holds.ensures ∙ c.if-rule_holds.false)
    ∙ c.loop-rule.invariant

pub returns : goal.returns
returns c =
    let f = c.args.filter.now in
    let p = c.args.packet.now in
    let items = c.as_slice-rule-items.result.now in
    c.unlogged.ensures ∙ ap unlogged c.ending_verdict.ensures ∙ no-rule f.ending items c.loop-rule.rule-index p c.loop-rule-test.false
    ∙ c.loop-rule.invariant ∙ ap (λ rs. rules_outcome f.ending rs p) c.as_slice-rule-items.ensures
