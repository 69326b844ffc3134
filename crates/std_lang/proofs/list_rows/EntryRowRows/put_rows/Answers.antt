use Rattle.std.proofs.Common.{ℕ, List, [], ◌∷◌, ◌++◌, codes, ap, ◌∙◌}
use Rattle.std.specs.Fmt.{decimal}
use Rattle.acl_packet.specs.declared.addresses.Family.TheVariants.{V4}
use Rattle.acl_rows.specs.Rows.{row, text_of_rows}
use Rattle.acl_rows.specs.RuleParts.{log_words}
use Rattle.acl_rows.proofs.PutLaws.{retold}
use Rattle.cisco_lang.specs.Texts.{address_words}
use Rattle.std_lang.specs.Texts.{entry_words, item_words}
use Rattle.std_lang.proofs.list_rows.EntryRowRows.put_rows.Goals as goal

pub returns : goal.returns
unfolding item_words entry_words
returns g c =
    let n = c.args.self.now.number in
    let e = c.args.self.now.entry in
    let text : List ℕ → List ℕ → List ℕ = λ list action.
    text_of_rows (row 0 (list ∷ decimal n ∷ action ∷ (address_words V4 e.src ++ log_words e.log)) ∷ []) in
    retold (ap (λ list. text list c.action_word.result.now) c.as_slice.ensures ∙ ap (text (codes "access-list")) c.action_word.ensures)
    c.put_rows.ensures
