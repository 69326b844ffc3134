use Rattle.acl_rows.proofs.PutLaws.{retold}
use Rattle.nft_lang.specs.SetKeys.{key_front, key_word}
use Rattle.gen_nftables.proofs.NumberTexts.{port-words}
use Rattle.gen_nftables.proofs.sets.PortSetWords.put_spaced.Goals as goal

pub returns : goal.returns
returns g c =
    let p = c.args.self.now in
    retold (port-words (key_front p.key) (key_word p.key) p.set.now c.range_elements.ensures.exact) c.put_spaced.ensures
