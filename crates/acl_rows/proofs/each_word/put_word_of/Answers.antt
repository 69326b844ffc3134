use Rattle.acl_text.proofs.Putting.{goes_on}
use Rattle.acl_rows.proofs.each_word.put_word_of.Goals as goal

pub returns : goal.returns
returns g c = goes_on g.met.O.Out.rest_goes_on c.in_ok-put.ensures c.put_item_into.ensures
