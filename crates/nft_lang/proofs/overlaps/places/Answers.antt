use Rattle.std.proofs.Common.{[], ◌∷◌, ◌++◌, ap, sym, ◌∙◌}
use Rattle.nft_lang.proofs.OverlapLaws.{one_place}
use Rattle.nft_lang.proofs.overlaps.places.Goals as goal

pub loop-place-preserved : goal.loop-place-preserved
loop-place-preserved c =
    let place = c.loop-place.place in
    c.in_ok-push.ensures.items ∙ ap (λ ps. ps ++ place ∷ []) c.loop-place.invariant ∙ sym (one_place place)
