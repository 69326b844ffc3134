use Rattle.std.proofs.Common.{ℕ, List, [], ◌∷◌, ◌++◌, codes, ap, sym, ◌∙◌}
use Rattle.acl_packet.specs.declared.addresses.Family.{Family}
use Rattle.acl_packet.specs.declared.addresses.Family.TheVariants.{V4, V6}
use Rattle.acl_rows.specs.Rows.{text_of_rows}
use Rattle.acl_rows.proofs.PutLaws.{retold}
use Rattle.acl_platform.specs.declared.rules.Rule.{Rule}
use Rattle.cisco_lang.specs.Texts.{head_rows, section_row}
use Rattle.gen_cisco.specs.RowSteps.{list_body}
use Rattle.gen_cisco.proofs.Rows.{both-lists, lists_rows, one-list, section-text}
use Rattle.gen_cisco.proofs.section_rows.InFamilySectionForm.put_over.Goals as goal

pub returns-in-Inet : goal.returns-in-Inet
returns-in-Inet g c =
    let f = c.args.filter.now in
    let v4 = c.args.texts.now.v4 in
    let text : Family → List ℕ → List Rule → List ℕ = λ family name rules.
    text_of_rows (section_row name f.families ∷ [] ++ (head_rows V4 name ++ list_body family rules)) in
    retold (ap (λ name. text v4.form.family name v4.rules.now) c.as_slice-name.ensures
    ∙ ap (λ family. text family f.name v4.rules.now) c.requires.v4 ∙ ap (text V4 f.name) c.requires.rules
    ∙ section-text f.name f.families f.rules (head_rows V4 f.name ++ list_body V4 f.rules)
    (one-list V4 f.name f.rules ∙ ap (λ fs. lists_rows fs f.rules f.name) (sym c.in-Inet.is))) c.put_rows.ensures

pub returns-in-Inet6 : goal.returns-in-Inet6
returns-in-Inet6 g c =
    let f = c.args.filter.now in
    let texts = c.args.texts.now in
    let text : Family → List ℕ → List Rule → List ℕ = λ family name rules.
    text_of_rows (section_row name f.families ∷ [] ++ (head_rows V6 name ++ list_body family rules)) in
    retold (ap (λ name. text texts.v6.form.family name texts.v6.rules.now) c.as_slice-name.ensures
    ∙ ap (λ family. text family f.name texts.v6.rules.now) c.requires.v6 ∙ ap (text V6 f.name) (texts.same ∙ c.requires.rules)
    ∙ section-text f.name f.families f.rules (head_rows V6 f.name ++ list_body V6 f.rules)
    (one-list V6 f.name f.rules ∙ ap (λ fs. lists_rows fs f.rules f.name) (sym c.in-Inet6.is))) c.put_rows-in-Inet6.ensures

pub returns-in-Mixed : goal.returns-in-Mixed
returns-in-Mixed g c =
    let f = c.args.filter.now in
    let texts = c.args.texts.now in
    let text : Family → Family → List ℕ → List Rule → List Rule → List ℕ = λ first second name rules more.
    text_of_rows (section_row name f.families ∷ []
    ++ ((head_rows V4 name ++ list_body first rules) ++ (head_rows V6 (codes "ipv6-" ++ name) ++ list_body second more))) in
    retold (ap (λ name. text texts.v4.form.family texts.v6.form.family name texts.v4.rules.now texts.v6.rules.now) c.as_slice-name.ensures
    ∙ ap (λ first. text first texts.v6.form.family f.name texts.v4.rules.now texts.v6.rules.now) c.requires.v4
    ∙ ap (λ second. text V4 second f.name texts.v4.rules.now texts.v6.rules.now) c.requires.v6
    ∙ ap (λ more. text V4 V6 f.name texts.v4.rules.now more) texts.same ∙ ap (λ rules. text V4 V6 f.name rules rules) c.requires.rules
    ∙ section-text f.name f.families f.rules ((head_rows V4 f.name ++ list_body V4 f.rules) ++ (head_rows V6 (codes "ipv6-" ++ f.name) ++ list_body V6 f.rules))
    (both-lists f.name f.rules ∙ ap (λ fs. lists_rows fs f.rules f.name) (sym c.in-Mixed.is))) c.put_rows-in-Mixed.ensures
