use Rattle.acl_host.proofs.DayTextLaws.{day-some, day-none}
use Rattle.acl_host.proofs.NamedDayLaws.{is_named}
use Rattle.acl_host.proofs.day_texts.read_day.Goals as goal

pub returns-clause-some : goal.returns-clause-some
returns-clause-some c = day-some c.args.word.now c.day_of.result c.day_of.ensures

pub returns-clause-none : goal.returns-clause-none
returns-clause-none c = day-none c.args.word.now c.day_of.result c.day_of.ensures

pub returns-clause-named : goal.returns-clause-named
returns-clause-named c = is_named c.day_of.result c.args.word.now c.day_of.ensures
