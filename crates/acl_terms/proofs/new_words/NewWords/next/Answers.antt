use Rattle.std.proofs.Common.{◌∷◌, ◌++◌, option_to_list, ap, sym, ◌∙◌}
use Rattle.acl_terms.specs.DistinctSteps.{new_words, texts_in}
use Rattle.acl_terms.proofs.OnceLaws.{none-ahead, rest-ahead, text-is-new, text-was-seen}
use Rattle.acl_terms.proofs.new_words.NewWords.next.Goals as goal

pub returns-then-branch-clause-some : goal.returns-then-branch-clause-some
returns-then-branch-clause-some c =
    let left = ap (λ o. option_to_list o ++ c.loop-word.self-inside.words) (sym c.take.ensures.value ∙ c.in-Some.is)
    ∙ ap (λ ws. c.in-Some.word ∷ ws) (rest-ahead c.next-self-inside.result _ _ c.next-self-inside.ensures.steps) in
    rw (← c.self.view_is) (sym c.loop-word.invariant.same
    ∙ text-is-new c.loop-word.self-inside.seen.keys c.see.new.seen.keys (record { text = c.text.result }) c.in-Some.word
    _ _ c.text.ensures c.in_ok-see.ensures.keys
    (sym c.if-branch.true ∙ c.in_ok-see.ensures.added) left)

pub loop-word-preserved : goal.loop-word-preserved
loop-word-preserved c =
    let left = ap (λ o. option_to_list o ++ c.loop-word.self-inside.words) (sym c.take.ensures.value ∙ c.in-Some.is)
    ∙ ap (λ ws. c.in-Some.word ∷ ws) (rest-ahead c.next-self-inside.result _ _ c.next-self-inside.ensures.steps) in
    record {
      same = text-was-seen c.loop-word.self-inside.seen.keys c.see.new.seen.keys (record { text = c.text.result }) c.in-Some.word
          _ _ c.text.ensures c.in_ok-see.ensures.keys
          (sym c.if-branch.false ∙ c.in_ok-see.ensures.added) left ∙ c.loop-word.invariant.same;
      end = none-ahead c.next-self-inside.result _ _ c.next-self-inside.ensures.steps;
    }

pub returns-clause-none : goal.returns-clause-none
returns-clause-none c =
    let none = sym c.take.ensures.value ∙ c.in_default.is in
    rw (← c.self.view_is) (sym c.loop-word.invariant.same
    ∙ ap (new_words (texts_in c.loop-word.self-inside.seen.keys))
    (ap (λ o. option_to_list o ++ c.loop-word.self-inside.words) none ∙ c.loop-word.invariant.end none))
