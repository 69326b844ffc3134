use Rattle.acl_rows.proofs.PutLaws.{retold}
use Rattle.acl_platform.specs.Choices.{numbers_of}
use Rattle.gen_junos.proofs.Rows.{all-words}
use Rattle.gen_junos.proofs.condition_rows.NumberWordsWords.put_spaced.Goals as goal

pub returns : goal.returns
returns g c = retold (all-words (numbers_of c.args.self.now.ranges.now)) c.put_numbers.ensures
