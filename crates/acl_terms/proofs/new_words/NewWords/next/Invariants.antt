use Rattle.std.proofs.Common.{◌≡◌, [], ◌++◌, None, length, option_to_list}
use Rattle.acl_terms.specs.DistinctSteps.{new_words, texts_in}
use Rattle.acl_terms.proofs.new_words.NewWords.next.Given as goal

abbrev pub invariant-loop-word : goal.invariant-loop-word
invariant-loop-word l = record {
  same : new_words (texts_in l.self-inside.seen.keys) (option_to_list l.self-inside.ahead ++ l.self-inside.words)
      ≡ new_words (texts_in l.initial.self-inside.seen.keys) (option_to_list l.initial.self-inside.ahead ++ l.initial.self-inside.words);
  end : l.self-inside.ahead ≡ None → l.self-inside.words ≡ [];
}

abbrev pub decreases-loop-word : goal.decreases-loop-word
decreases-loop-word l = length (option_to_list l.self-inside.ahead ++ l.self-inside.words)
