use Rattle.std.proofs.Common.{◌≡◌, length}
use Rattle.std.specs.List.{fold}
use Rattle.nft_lang.specs.ReadingSteps.{take_word}
use Rattle.nft_lang.proofs.rule_drafts.rule_of.Given as goal

abbrev pub invariant-loop-word : goal.invariant-loop-word
invariant-loop-word l = fold take_word l.draft l.rest ≡ fold take_word l.initial.draft l.initial.rest

abbrev pub decreases-loop-word : goal.decreases-loop-word
decreases-loop-word l = length l.rest
