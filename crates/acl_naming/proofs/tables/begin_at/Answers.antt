use Rattle.acl_naming.proofs.TableLaws.{begin_kept, begin_none}
use Rattle.acl_naming.proofs.tables.begin_at.Goals as goal

pub returns-in-Some : goal.returns-in-Some
returns-in-Some c =
    begin_kept c.args.kept.now.entries c.args.index c.args.end (c.in-Some.field-0-0.now, c.in-Some.entry.now) c.in-Some.ensures.entry

pub returns-in-None : goal.returns-in-None
returns-in-None c = begin_none c.args.kept.now.entries c.args.index c.args.end c.in-None.ensures.entry
