use Rattle.std.proofs.Common.{sym, ◌∙◌}
use Rattle.acl_filters.specs.FilterRequests.{request_of}
use Rattle.acl_filters.proofs.ChoosingLaws.{adds-none, adds-one, adds-passed}
use Rattle.acl_filters.proofs.choosing.add_filter.Goals as goal

pub returns-then-not-is_chosen-clause-adds : goal.returns-then-not-is_chosen-clause-adds
returns-then-not-is_chosen-clause-adds g c = λ written.
    adds-passed (g.C.Choice.chosen c.args.choice.now) (g.C.Choice.slip c.args.choice.now c.args.today) c.args.today
    (request_of written c.args.terms.now c.args.target.now) c.args.filters.now
    (sym (c.is_chosen.ensures written c.args.terms.now) ∙ c.if-not-is_chosen.true)

pub returns-in_err-filter-clause-adds : goal.returns-in_err-filter-clause-adds
returns-in_err-filter-clause-adds g c = λ written.
    adds-none (g.C.Choice.chosen c.args.choice.now) (g.C.Choice.slip c.args.choice.now c.args.today) c.args.today
    (request_of written c.args.terms.now c.args.target.now) c.args.filters.now c.args.filters.now
    c.in_err-filter.field-0.0 c.from_residual.result (sym (c.is_chosen.ensures written c.args.terms.now) ∙ c.if-not-is_chosen.false)
    (c.in_err-filter.ensures.gives written) c.from_residual.ensures.1

pub returns-clause-adds : goal.returns-clause-adds
returns-clause-adds g c = λ written.
    adds-one (g.C.Choice.chosen c.args.choice.now) (g.C.Choice.slip c.args.choice.now c.args.today) c.args.today
    (request_of written c.args.terms.now c.args.target.now) c.in_ok-filter.filter
    c.args.filters.now c.push.new.self (sym (c.is_chosen.ensures written c.args.terms.now) ∙ c.if-not-is_chosen.false)
    (c.in_ok-filter.ensures.gives written) c.in_ok-push.ensures.ok
