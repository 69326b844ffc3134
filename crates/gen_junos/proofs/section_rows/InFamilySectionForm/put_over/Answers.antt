use Rattle.std.proofs.Common.{ℕ, List, ◌++◌, flat_map, ap, ◌∙◌}
use Rattle.acl_packet.specs.declared.addresses.Family.{Family}
use Rattle.acl_rows.specs.Rows.{text_of_rows}
use Rattle.acl_rows.proofs.PutLaws.{retold}
use Rattle.acl_platform.specs.declared.rules.Rule.{Rule}
use Rattle.junos_lang.specs.Documents.{family_word}
use Rattle.junos_lang.specs.Texts.{end_rows, head_rows, term_rows}
use Rattle.acl_packet.specs.Addresses.{first_family}
use Rattle.gen_junos.specs.Sections.{terms_of}
use Rattle.gen_junos.proofs.Rows.{section-text}
use Rattle.gen_junos.proofs.section_rows.InFamilySectionForm.put_over.Goals as goal

pub returns : goal.returns
returns g c =
    let f = c.args.filter.now in
    let texts = c.texts_in.result.now in
    let text : Family → Family → List ℕ → List Rule → List ℕ = λ family inner name rules.
    text_of_rows (head_rows (family_word family) name ++ (flat_map (term_rows inner) (terms_of rules) ++ end_rows)) in
    retold (ap (λ inner. text c.first_family-family.result inner c.as_slice.result.now texts.rules.now) c.texts_in.ensures.family
    ∙ ap (λ family. text family family c.as_slice.result.now texts.rules.now) c.first_family-family.ensures
    ∙ ap (λ name. text (first_family f.families) (first_family f.families) name texts.rules.now) c.as_slice.ensures
    ∙ ap (text (first_family f.families) (first_family f.families) f.name) (c.texts_in.ensures.rules ∙ c.requires.rules)
    ∙ section-text f) c.put_rows.ensures
