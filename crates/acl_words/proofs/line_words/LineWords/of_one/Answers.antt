use Rattle.std.proofs.Common.{◌++◌, [], ◌∷◌, refl, ap, ◌∙◌, arith}
use Rattle.std.proofs.lemmas.List.Elements.{All-nil}
use Rattle.acl_words.specs.WordTextSteps.{AreKept}
use Rattle.acl_words.specs.LineTexts.{HasNoFeed}
use Rattle.acl_words.specs.declared.word_lists.Word.{Word}
use Rattle.acl_words.proofs.WordTextLaws.{words_with}
use Rattle.acl_words.proofs.line_words.LineWords.of_one.Goals as goal

none : AreKept [] [] []
none = record { text_is = refl; places_are = refl; no_feeds = All-nil (λ (w : Word). HasNoFeed w.text) }

pub invariant_of-result : goal.invariant_of-result
invariant_of-result g c = (
  omega arith,
  (words_with [] (record { place = _; text = c.args.text.now }) [] (_ ∷ []) [] c.push_line.new.self none c.requires.line refl
      (c.push_line.ensures ∙ ap (λ t. t ++ c.args.text.now ++ 10 ∷ []) c.new-short.ensures)).1,
)

pub returns : goal.returns
returns g c =
    (words_with [] (record { place = _; text = c.args.text.now }) [] (_ ∷ []) [] c.push_line.new.self none c.requires.line refl
    (c.push_line.ensures ∙ ap (λ t. t ++ c.args.text.now ++ 10 ∷ []) c.new-short.ensures)).0
