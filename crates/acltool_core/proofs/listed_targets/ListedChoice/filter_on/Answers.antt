use Rattle.std.proofs.Common.{[], sym, ◌∙◌}
use Rattle.acl_filters.specs.FilterRequests.{request_of}
use Rattle.acltool_core.proofs.ListedChoiceLaws.{beyond-slip, handled-filter, limit-given, listed-filter, terms-slip}
use Rattle.acltool_core.proofs.listed_targets.ListedChoice.filter_on.Goals as goal

pub returns-then-is_beyond-clause-gives : goal.returns-then-is_beyond-clause-gives
returns-then-is_beyond-clause-gives c = λ written.
    beyond-slip c.args.self.now.first c.args.today (request_of written c.args.terms.now c.args.target.now) c.at.result
    (sym c.is_beyond.ensures ∙ c.if-is_beyond.true) (rw c.as_slice-name.ensures at c.at.ensures)

pub returns-in_err-filter-clause-gives : goal.returns-in_err-filter-clause-gives
returns-in_err-filter-clause-gives c = λ written.
    terms-slip c.args.self.now.first c.args.today (request_of written c.args.terms.now c.args.target.now) c.in_err-filter.field-0.0 c.from_residual.result
    (sym c.is_beyond.ensures ∙ c.if-is_beyond.false) c.in_err-filter.ensures.slip c.from_residual.ensures.1

pub count_within_limits-requires-clause-handled : goal.count_within_limits-requires-clause-handled
count_within_limits-requires-clause-handled c =
    handled-filter c.args.self.now.first c.args.today (request_of [] c.args.terms.now c.args.target.now) c.in_ok-filter.filter c.args.self.now.from_one
    c.requires.chosen (sym c.is_beyond.ensures ∙ c.if-is_beyond.false) c.in_ok-filter.ensures.filter

pub returns-in-Ok-clause-gives : goal.returns-in-Ok-clause-gives
returns-in-Ok-clause-gives c = λ written.
    listed-filter c.args.self.now.first c.args.today (request_of written c.args.terms.now c.args.target.now) c.in_ok-filter.filter c.in-Ok.field-0
    (sym c.is_beyond.ensures ∙ c.if-is_beyond.false) c.in_ok-filter.ensures.slip c.in_ok-filter.ensures.filter c.in-Ok.ensures

pub returns-in-Err-clause-gives : goal.returns-in-Err-clause-gives
returns-in-Err-clause-gives c = λ written.
    limit-given c.args.self.now.first c.args.today (request_of written c.args.terms.now c.args.target.now) c.in_ok-filter.filter c.in-Err.limit _
    (sym c.is_beyond.ensures ∙ c.if-is_beyond.false) c.in_ok-filter.ensures.slip c.in_ok-filter.ensures.filter c.in-Err.ensures c.limit_refusal.ensures
