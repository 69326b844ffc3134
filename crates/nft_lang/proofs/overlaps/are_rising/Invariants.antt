use Rattle.std.proofs.Common.{◌≡◌, drop}
use Rattle.acl_rows.specs.ApartSteps.{are_rising}
use Rattle.nft_lang.specs.PlaceSteps.{is_below_at}
use Rattle.nft_lang.proofs.overlaps.are_rising.Given as goal

abbrev pub invariant-loop-i : goal.invariant-loop-i
invariant-loop-i g l =
    let below = g.T.Element.below in
    are_rising (is_below_at below l.elements) (drop l.i l.places) ≡ are_rising (is_below_at below l.elements) l.places
