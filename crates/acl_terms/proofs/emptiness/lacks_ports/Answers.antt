use Rattle.std.proofs.Common.{sym}
use Rattle.acl_terms.proofs.EmptyLaws.{some-ports}
use Rattle.acl_terms.proofs.SideLaws.{dport_tops, sport_tops}
use Rattle.acl_terms.proofs.emptiness.lacks_ports.Goals as goal

pub has_no_source-requires : goal.has_no_source-requires
has_no_source-requires c = sport_tops c.args.term.now

pub has_no_destination-requires : goal.has_no_destination-requires
has_no_destination-requires c = dport_tops c.args.term.now

pub returns-in-Whole : goal.returns-in-Whole
returns-in-Whole c = rw c.in-Whole.is (sym (some-ports c.args.term.now))
