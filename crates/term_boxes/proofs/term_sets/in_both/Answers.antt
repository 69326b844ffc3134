use Rattle.std.proofs.Common.{sym}
use Rattle.term_boxes.proofs.TermSets.{all_shared}
use Rattle.term_boxes.proofs.term_sets.in_both.Goals as goal

pub returns-then-is_all : goal.returns-then-is_all
returns-then-is_all c =
    all_shared c.args.set.now c.args.other.now c.requires c.ranges-2.ensures.normal (sym c.if-is_all.ensures.computed)
    c.share.result c.share.ensures.same c.share.ensures.normal
