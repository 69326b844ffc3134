use Rattle.std.proofs.Common.{ℕ, List, [], ◌∷◌, ◌++◌, codes, ap, ◌∙◌}
use Rattle.acl_rows.specs.Rows.{row, text_of_rows}
use Rattle.acl_rows.proofs.PutLaws.{retold}
use Rattle.gen_cisco.proofs.section_rows.MixedHeadRows.put_rows.Goals as goal

pub returns : goal.returns
returns g c =
    let own = c.args.self.now.name.now in
    let list = c.as_slice.result.now in
    let front = c.as_slice-2.result.now in
    let family = c.as_slice-3.result.now in
    let no = c.as_slice-4.result.now in
    let text : List ℕ → List ℕ → List ℕ → List ℕ → List ℕ → List ℕ = λ a b f n h.
    text_of_rows (row 0 (n ∷ f ∷ a ∷ (b ++ own) ∷ []) ∷ row 0 (h ∷ a ∷ (b ++ own) ∷ []) ∷ []) in
    let head = codes "ipv6" in
    retold (ap (λ h. text list front family no h) c.as_slice-5.ensures ∙ ap (λ n. text list front family n head) c.as_slice-4.ensures
    ∙ ap (λ f. text list front f (codes "no") head) c.as_slice-3.ensures ∙ ap (λ b. text list b head (codes "no") head) c.as_slice-2.ensures
    ∙ ap (λ a. text a (codes "ipv6-") head (codes "no") head) c.as_slice.ensures) c.put_rows.ensures
