use Rattle.std.proofs.Common.{sym, ◌∙◌}
use Rattle.acl_filters.specs.FilterRequests.{request_of}
use Rattle.acltool_core.proofs.RestoredChoiceLaws.{checked-filter, checked-slip, left-slip}
use Rattle.acltool_core.proofs.restored_targets.RestoredChoice.filter_on.Goals as goal

pub returns-then-leaves_packets-clause-gives : goal.returns-then-leaves_packets-clause-gives
returns-then-leaves_packets-clause-gives c = λ written.
    left-slip c.args.today (request_of written c.args.terms.now c.args.target.now) c.at.result (sym c.leaves_packets.ensures ∙ c.if-leaves_packets.true)
    (rw c.as_slice-name.ensures at c.at.ensures)

pub returns-in_err-filter-clause-gives : goal.returns-in_err-filter-clause-gives
returns-in_err-filter-clause-gives c = λ written.
    checked-slip c.args.today (request_of written c.args.terms.now c.args.target.now) c.in_err-filter.field-0.0 c.from_residual.result
    (sym c.leaves_packets.ensures ∙ c.if-leaves_packets.false) c.in_err-filter.ensures.checks c.from_residual.ensures.1

pub returns-clause-gives : goal.returns-clause-gives
returns-clause-gives c = λ written.
    checked-filter c.args.today (request_of written c.args.terms.now c.args.target.now) c.in_ok-filter.filter
    (sym c.leaves_packets.ensures ∙ c.if-leaves_packets.false) c.in_ok-filter.ensures.checks.slip_is c.in_ok-filter.ensures.checks.filter_is
