use Rattle.acl_naming.proofs.ReadLaws.{cut_opens, uncut_opens}
use Rattle.acl_naming.proofs.naming_files.LineReader.add_split.Goals as goal

pub returns-in_ok-define-in-Some-clause-opened : goal.returns-in_ok-define-in-Some-clause-opened
returns-in_ok-define-in-Some-clause-opened c = cut_opens c.args.is_open c.args.text.now (c.in-Some.name.now, c.in-Some.rest.now) c.in-Some.ensures

pub returns-in_ok-go_on-in-None-clause-opened : goal.returns-in_ok-go_on-in-None-clause-opened
returns-in_ok-go_on-in-None-clause-opened c = uncut_opens c.args.is_open c.args.text.now c.in-None.ensures
