use Rattle.acl_filters.proofs.DocumentLaws.{one-document}
use Rattle.acl_filters.proofs.laws.a_text_has_one_document.Goals as goal

pub returns : goal.returns
returns c = one-document c.a_text_has_one_document.ensures c.a_text_has_one_document-2.ensures c.a_text_has_one_document-3.ensures c.a_text_has_one_document-4.ensures
