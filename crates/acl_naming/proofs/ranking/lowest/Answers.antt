use Rattle.std.proofs.Common.{◌≤◌, ℕ, take, get_or, length, sym, arith}
use Rattle.std.proofs.lemmas.List.{take_all}
use Rattle.std.proofs.lemmas.List.Elements.{All-more, All-weaker, All-same}
use Rattle.std.proofs.Math.Nat.{min-le_left, min-le_right}
use Rattle.acl_naming.specs.RankSteps.{rank_at}
use Rattle.acl_naming.proofs.ranking.lowest.Goals as goal

pub loop-place-preserved : goal.loop-place-preserved
loop-place-preserved c =
    let ranks = c.args.ranks.now in
    let places = c.args.places.now in
    let i = c.loop-place.place-index in
    let least = c.loop-place.least in
    let rank = get_or ranks (get_or places i 0) 0 in
    let lower : ℕ → Type 0 = λ j. c.min-least.result ≤ rank_at ranks j in
    All-more lower places i 0 c.loop-place-test.true
    (All-weaker (λ j. least ≤ rank_at ranks j) lower (λ j h. omega (arith, h, c.min-least.ensures, min-le_left least rank)) (take i places)
    c.loop-place.invariant)
    (omega (arith, c.min-least.ensures, min-le_right least rank))

pub returns : goal.returns
returns c =
    let ranks = c.args.ranks.now in
    let places = c.args.places.now in
    let all : length places ≤ c.loop-place.place-index = omega arith in
    All-same (λ j. c.loop-place.least ≤ rank_at ranks j) places (take c.loop-place.place-index places) (sym (take_all c.loop-place.place-index places all))
    c.loop-place.invariant
