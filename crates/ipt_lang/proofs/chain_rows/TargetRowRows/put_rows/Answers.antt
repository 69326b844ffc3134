use Rattle.ipt_lang.proofs.chain_rows.TargetRowRows.put_rows.Goals as goal

pub returns : goal.returns
returns g c = rw (← c.hook_word.ensures, ← c.family_word.ensures) (rw c.as_slice.ensures at c.put_rows.ensures)
