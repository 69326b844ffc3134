use Rattle.std.proofs.Common.{◌∙◌, ap, rules}
use Rattle.std.proofs.lemmas.List.Sorted.{IsNonDecreasingBy-from_sort_by_key}
use Rattle.acl_rows.specs.ApartSteps.{are_rising}
use Rattle.nft_lang.specs.PlaceSteps.{is_below_at, start_at}
use Rattle.nft_lang.proofs.OverlapLaws.{sorted_places}
use Rattle.nft_lang.proofs.overlaps.are_apart.Goals as goal

pub returns : goal.returns
returns g c =
    let t = g.T.Element in
    c.are_rising.ensures ∙ ap (are_rising (is_below_at t.below c.args.elements.now)) c.as_slice.ensures.value
    ∙ sorted_places t.overlap t.below t.start t.is_sound c.neighbours_tell.ensures c.args.elements.now _ _ c.in_ok-sorted.ensures c.requires
    c.sort_unstable_by_key.ensures.permutation
    (IsNonDecreasingBy-from_sort_by_key (start_at t.start c.args.elements.now) _ c.sort_unstable_by_key.ensures.sorted (λ a r q k. search rules))
