use Rattle.gen_nftables.proofs.SectionLaws.{section_is_spelled}
use Rattle.gen_nftables.proofs.nftables.NftablesPlatform.a_section_is_spelled.Goals as goal

pub returns : goal.returns
returns c = λ platform. section_is_spelled
