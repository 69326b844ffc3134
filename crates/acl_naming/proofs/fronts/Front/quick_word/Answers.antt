use Rattle.std.proofs.Common.{◌≡◌, ℕ, true, List, ◌∷◌, take, drop, ap, sym, ◌∙◌}
use Rattle.std.specs.List.{list_all}
use Rattle.acl_text.specs.Cursors.{is_white, words_of}
use Rattle.acl_naming.specs.Fronts.{shown}
use Rattle.acl_naming.proofs.LineLaws.{white_first}
use Rattle.acl_naming.proofs.fronts.Front.quick_word.Goals as goal

-- the white space in front is passed over
passed : (line whole rest : List ℕ) (n : ℕ) → line ≡ whole → list_all is_white (take n line) ≡ true → rest ≡ drop n whole → words_of whole ≡ words_of rest
passed line whole rest n same white r =
    white_first whole n (ap (λ (t : List ℕ). list_all is_white (take n t)) (sym same) ∙ white) ∙ ap words_of (sym r)

pub returns-in-Some-clause-some : goal.returns-in-Some-clause-some
returns-in-Some-clause-some c =
    let rest = shown c.behind-rest.result in
    let end = c.in-Some.end in
    passed c.as_slice.result.now (shown c.args.self) rest c.white_front.result c.as_slice.ensures c.white_front.ensures.white c.behind-rest.ensures
    ∙ c.in-Some.ensures.2
    ∙ ap (λ (t : List ℕ). t ∷ words_of (drop end rest)) (sym c.until.ensures)
    ∙ ap (λ (t : List ℕ). shown c.until.result ∷ words_of t) (sym c.behind.ensures)
