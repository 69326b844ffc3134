use Rattle.std.proofs.lemmas.List.{take-replicate}
use Rattle.acl_rows.proofs.rows.few_spaces.Goals as goal

pub returns-then-count-le32 : goal.returns-then-count-le32
returns-then-count-le32 c = take-replicate c.args.count 32 32 c.if-count-le32.true
