use Rattle.std.proofs.Common.{[], ◌∷◌, ap}
use Rattle.acl_rows.specs.Rows.{text_of_rows}
use Rattle.acl_rows.proofs.PutLaws.{retold}
use Rattle.ipt_lang.specs.Texts.{rule_row, rule_rows}
use Rattle.ipt_lang.proofs.LineLaws.{words_of_parts}
use Rattle.ipt_lang.proofs.chain_rows.OfChainRowFormRule.put_item.Goals as goal

pub returns : goal.returns
unfolding rule_rows
returns g c =
    let f = c.args.self.now in
    let r = c.args.rule.now in
    retold (ap (λ words. text_of_rows (rule_row f.hook f.name.now words ∷ [])) (words_of_parts f.family r))
    (rw (← c.as_slice.ensures, ← c.as_slice-2.ensures) c.put_rows.ensures)
