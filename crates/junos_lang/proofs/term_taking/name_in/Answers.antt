use Rattle.std.proofs.Common.{◌≡◌, ◌+◌, List, ℕ, ◌++◌, codes, length, take, Some, refl, sym, ap, ◌∙◌, arith}
use Rattle.std.proofs.lemmas.Bool.{false≢true}
use Rattle.std.proofs.lemmas.List.{append_cancel_left, length-append, take_at}
use Rattle.std.proofs.lemmas.Option.{none-some, same_Some}
use Rattle.acl_text.specs.Cuts.{behind}
use Rattle.acl_text.proofs.CutLaws.{behind-again}
use Rattle.acl_text.proofs.OptionStepLaws.{bytes_same}
use Rattle.acl_rows.specs.Rows.{text_of_rows}
use Rattle.junos_lang.specs.Texts.{note_rows}
use Rattle.junos_lang.proofs.term_taking.name_in.Goals as goal

abbrev front : List ℕ
front = codes "            term "

-- what stands behind the note, and behind the word
behind_note : (text note head more : List ℕ) → text ≡ note ++ head → text ≡ note ++ (front ++ more) → behind front head ≡ Some more
behind_note text note head more h e = ap (behind front) (append_cancel_left note head (front ++ more) (sym h ∙ e)) ∙ behind-again front more

pub returns-in_err-words-clause-each : goal.returns-in_err-words-clause-each
returns-in_err-words-clause-each c = λ rest e.
    let t = c.args.term.now in
    let more : List ℕ = t.name ++ rest in
    absurd (none-some more (c.in_err-words.ensures ∙ behind_note c.args.text.now (text_of_rows (note_rows t.note)) c.in_ok-head.head.now more c.in_ok-head.ensures.some e))

pub returns-in_err-front-clause-each : goal.returns-in_err-front-clause-each
returns-in_err-front-clause-each c = λ rest e.
    let t = c.args.term.now in
    let more : List ℕ = t.name ++ rest in
    let words : c.in_ok-words.words.now ≡ more = same_Some c.in_ok-words.words.now more
    (c.in_ok-words.ensures ∙ behind_note c.args.text.now (text_of_rows (note_rows t.note)) c.in_ok-head.head.now more c.in_ok-head.ensures.some e) in
    let long : length more ≡ length t.name + length rest = length-append t.name rest in
    absurd (omega (arith, c.in_err-front.ensures.cases, ap length words, ap length c.as_slice-name.ensures, long))

pub returns-else-eq-clause-each : goal.returns-else-eq-clause-each
returns-else-eq-clause-each c = λ rest e.
    let t = c.args.term.now in
    let more : List ℕ = t.name ++ rest in
    let words : c.in_ok-words.words.now ≡ more = same_Some c.in_ok-words.words.now more
    (c.in_ok-words.ensures ∙ behind_note c.args.text.now (text_of_rows (note_rows t.note)) c.in_ok-head.head.now more c.in_ok-head.ensures.some e) in
    let name = c.as_slice-name.result.now in
    let front : c.in_ok-front.front.now ≡ name =
    c.in_ok-front.ensures.cases.1 ∙ ap (take (length name)) (words ∙ ap (λ n. n ++ rest) (sym c.as_slice-name.ensures)) ∙ take_at name rest (length name) refl in
    false≢true (sym c.if-eq.false ∙ c.eq.ensures ∙ bytes_same c.in_ok-front.front.now name front)
