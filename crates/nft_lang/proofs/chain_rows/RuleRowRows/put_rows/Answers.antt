use Rattle.acl_rows.proofs.PutLaws.{retold}
use Rattle.nft_lang.specs.Texts.{rule_words}
use Rattle.nft_lang.specs.RuleRowSteps.{rule_of_row}
use Rattle.nft_lang.proofs.SafeRows.{row_begun}
use Rattle.nft_lang.proofs.chain_rows.RuleRowRows.put_rows.Goals as goal

pub returns : goal.returns
unfolding rule_words
returns g c = let r = c.args.self.now in retold (row_begun r.families (rule_of_row r)) c.put_rows.ensures
