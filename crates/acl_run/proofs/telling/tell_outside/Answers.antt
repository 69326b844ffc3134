use Rattle.acl_run.proofs.TriedLines.{tried}
use Rattle.acl_run.proofs.telling.tell_outside.Goals as goal

pub returns-clause-told : goal.returns-clause-told
returns-clause-told g c = rw (← c.as_bytes.ensures.value) (tried c.write.result c.write.ensures)
