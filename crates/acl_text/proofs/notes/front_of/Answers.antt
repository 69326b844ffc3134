use Rattle.std.proofs.Common.{sym, arith}
use Rattle.std.proofs.lemmas.List.{take_all}
use Rattle.acl_text.proofs.notes.front_of.Goals as goal

pub returns-then-text-lt-LONGEST : goal.returns-then-text-lt-LONGEST
returns-then-text-lt-LONGEST c = sym (take_all 80 c.args.text.now (omega (arith, c.if-text-lt-LONGEST.true)))
