use Rattle.acl_filters.proofs.MeantTextsLaws.{meant-texts-are-of-sections}
use Rattle.acl_filters.proofs.laws.a_meant_text_is_that_of_the_sections.Goals as goal

pub returns : goal.returns
returns c = meant-texts-are-of-sections c.a_text_has_one_document.ensures
