use Rattle.std.proofs.Common.{◌<◌, ◌≤◌, take, length, sym, arith}
use Rattle.std.proofs.lemmas.List.{take_all}
use Rattle.std.proofs.lemmas.List.Elements.{All-more, All-same}
use Rattle.acl_naming.proofs.ranking.are_before.Goals as goal

pub loop-place-preserved : goal.loop-place-preserved
loop-place-preserved c =
    All-more (λ j. j < c.args.end) c.args.places.now c.loop-place.place-index 0 c.loop-place-test.true c.loop-place.invariant (omega (arith, c.if-place-end.false))

pub returns : goal.returns
returns c = λ _.
    let places = c.args.places.now in
    let all : length places ≤ c.loop-place.place-index = omega arith in
    All-same (λ j. j < c.args.end) places (take c.loop-place.place-index places) (sym (take_all c.loop-place.place-index places all)) c.loop-place.invariant
