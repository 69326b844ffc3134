use Rattle.std.proofs.Common.{ap, rules, ◌∙◌}
use Rattle.std.specs.Slice.Iter.{split_callee, split_done, split_rest}
use Rattle.std.proofs.lemmas.Iterator.{YieldsList-from_take}
use Rattle.std.proofs.lemmas.Iterator.Consumers.{map_from_collect}
use Rattle.std.proofs.lemmas.Iterator.Splits.{YieldsList-from_slice_split}
use Rattle.acl_rows.proofs.row_words.few_of.Goals as goal

pub returns : goal.returns
returns c =
    let source = c.take.ensures.source in
    map_from_collect _ c.collect.ensures.ran (YieldsList-from_take 9
    (YieldsList-from_slice_split _ _ c.args.text.now (ap split_rest source ∙ c.split.ensures.rest) (ap split_done source ∙ c.split.ensures.done)
    (ap split_callee source ∙ c.split.ensures.closure) (λ x b q k. search rules)) c.take.ensures.count)
