use Rattle.std.proofs.Common.{◌≡◌, true, sym, ◌∙◌, subst}
use Rattle.acl_sets.specs.Ranges.{Numbers}
use Rattle.acl_shade.specs.SeenNumbers.{HasNew, IsSeenAll}
use Rattle.acl_shade.specs.Sifting.{is_asked}
use Rattle.acl_shade.proofs.SeenLaws.{none-more, seen-more}
use Rattle.acl_shade.proofs.apart.each_has_new.Goals as goal

pub loop-term-preserved : goal.loop-term-preserved
loop-term-preserved c =
    let a = c.args in
    let before = c.loop-term.invariant in
    let t = c.term-item.result in
    let sees = c.add.ensures in
    let asked : is_asked a.part t ≡ true = sym c.is_asked.ensures ∙ c.if-not-is_asked.false in
    record {
      are = sees.more.are;
      seen = seen-more a.part a.terms.now c.loop-term.term-index t c.loop-term-test.true c.term-item.is c.loop-term.numbers
          c.add.new.self sees.more before.seen
          (subst (λ (s : Numbers). IsSeenAll c.add.new.self s) c.part_of.ensures sees.sees);
      none = none-more a.part a.terms.now c.loop-term.term-index t c.loop-term-test.true c.term-item.is c.loop-term.numbers
          before.seen asked
          (subst (λ (s : Numbers). HasNew c.loop-term.numbers s) c.part_of.ensures
          (sees.fresh c.if-not-add.false)) before.none;
    }
