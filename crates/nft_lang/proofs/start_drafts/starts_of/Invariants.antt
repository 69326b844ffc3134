use Rattle.std.proofs.Common.{◌≡◌, length}
use Rattle.std.specs.List.{fold}
use Rattle.nft_lang.specs.StartSteps.{start_step}
use Rattle.nft_lang.proofs.start_drafts.starts_of.Given as goal

abbrev pub invariant-loop-word : goal.invariant-loop-word
invariant-loop-word l = fold start_step l.draft l.rest ≡ fold start_step l.initial.draft l.initial.rest

abbrev pub decreases-loop-word : goal.decreases-loop-word
decreases-loop-word l = length l.rest
