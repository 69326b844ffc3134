use Rattle.std.proofs.Common.{◌∙◌}
use Rattle.gen_junos.proofs.Rows.{no-numbers}
use Rattle.gen_junos.proofs.condition_rows.NumberWordsValues.are_none.Goals as goal

pub returns : goal.returns
returns c = c.is_empty.ensures ∙ no-numbers c.args.self.now.ranges.now c.args.self.now.small
