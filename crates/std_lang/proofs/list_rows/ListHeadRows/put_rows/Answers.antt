use Rattle.std.proofs.Common.{ℕ, List, [], ◌∷◌, codes, ap, ◌∙◌}
use Rattle.std.specs.Fmt.{decimal}
use Rattle.acl_rows.specs.Rows.{row, text_of_rows}
use Rattle.acl_rows.proofs.PutLaws.{retold}
use Rattle.std_lang.proofs.list_rows.ListHeadRows.put_rows.Goals as goal

pub returns : goal.returns
returns g c =
    let n = decimal c.args.self.now.number in
    let platform = c.as_slice.result.now in
    let form = c.as_slice-2.result.now in
    let list = c.as_slice-3.result.now in
    let mark = c.as_slice-4.result.now in
    let text : List ℕ → List ℕ → List ℕ → List ℕ → List ℕ → List ℕ = λ p f l m no.
    text_of_rows (row 0 (m ∷ p ∷ f ∷ n ∷ []) ∷ row 0 (no ∷ l ∷ n ∷ []) ∷ []) in
    retold (ap (text platform form list mark) c.as_slice-5.ensures ∙ ap (λ m. text platform form list m (codes "no")) c.as_slice-4.ensures
    ∙ ap (λ l. text platform form l (codes "!") (codes "no")) c.as_slice-3.ensures
    ∙ ap (λ f. text platform f (codes "access-list") (codes "!") (codes "no")) c.as_slice-2.ensures
    ∙ ap (λ p. text p (codes "standard") (codes "access-list") (codes "!") (codes "no")) c.as_slice.ensures) c.put_rows.ensures
