use Rattle.std.proofs.Common.{ap, sym, ◌∙◌}
use Rattle.nft_lang.specs.StartSteps.{has_distinct_starts}
use Rattle.nft_lang.proofs.StartLaws.{twins_refused}
use Rattle.nft_lang.proofs.start_drafts.rooms_of.Goals as goal

pub returns-else-has_distinct_starts : goal.returns-else-has_distinct_starts
returns-else-has_distinct_starts c =
    twins_refused c.args.families c.args.words (sym c.begins_with.ensures ∙ c.if-begins_with.false)
    (ap has_distinct_starts (sym c.in_ok-draft.ensures) ∙ sym c.has_distinct_starts.ensures ∙ c.if-has_distinct_starts.false)
