use Rattle.std.proofs.lemmas.List.Filters.{dedup_is}
use Rattle.std.proofs.lemmas.Map.Keys.{IsStrictlyIncreasing-dedup, non_decreasing_from_sorted, sorted_from_strictly_increasing}
use Rattle.acl_shade.proofs.points.Points.settle.Goals as goal

pub returns : goal.returns
returns c =
    let is = dedup_is _ _ _ c.dedup.ensures.filtered in
    rw is (non_decreasing_from_sorted _ (sorted_from_strictly_increasing _
    (IsStrictlyIncreasing-dedup _ c.sort_unstable.ensures.sorted)))
