use Rattle.std.proofs.Common.{ℕ, List, [], ◌∷◌, codes, ap, ◌∙◌}
use Rattle.std.specs.Fmt.{decimal}
use Rattle.acl_rows.specs.Rows.{row, text_of_rows, words_in}
use Rattle.acl_rows.proofs.PutLaws.{retold}
use Rattle.std_lang.specs.Texts.{item_words}
use Rattle.std_lang.proofs.list_rows.RemarkRowRows.put_rows.Goals as goal

pub returns : goal.returns
unfolding item_words
returns g c =
    let n = c.args.self.now.number in
    let words = words_in c.args.self.now.text.now in
    let text : List ℕ → List ℕ → List ℕ = λ list remark. text_of_rows (row 0 (list ∷ decimal n ∷ remark ∷ words) ∷ []) in
    retold (ap (λ list. text list c.as_slice.result.now) c.as_slice-2.ensures ∙ ap (text (codes "access-list")) c.as_slice.ensures)
    c.put_rows.ensures
