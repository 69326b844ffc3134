use Rattle.std.proofs.Common.{[]}
use Rattle.acl_filters.specs.FilterRequests.{request_of}
use Rattle.acl_filters.proofs.FilterLaws.{checks-filter, checks-limit}
use Rattle.acl_filters.proofs.checking.checked_filter.Goals as goal

pub returns-in-Ok-clause-checks : goal.returns-in-Ok-clause-checks
returns-in-Ok-clause-checks c = checks-filter c.args.today (request_of [] c.args.terms.now c.args.target.now) c.in_ok-filter.filter c.in-Ok.entries
    c.in_ok-filter.ensures.slip c.in_ok-filter.ensures.filter c.in_ok-filter.ensures.sound c.in-Ok.ensures

pub returns-in-Err-clause-checks : goal.returns-in-Err-clause-checks
returns-in-Err-clause-checks c = checks-limit c.args.today (request_of [] c.args.terms.now c.args.target.now) c.in_ok-filter.filter c.in-Err.limit _
    c.in_ok-filter.ensures.slip c.in_ok-filter.ensures.filter c.in-Err.ensures c.limit_refusal.ensures
