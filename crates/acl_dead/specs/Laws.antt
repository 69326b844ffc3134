-- Why a grid of boundary values is enough.
use Rattle.std.specs.Prelude.{ℕ, List}
use Rattle.std.specs.List.{All}
use Rattle.acl_dead.specs.declared.axes.Axis.{Axis}
use Rattle.acl_dead.specs.Boxes.{IsAsked, IsReady, RoundsTo}

-- Each point that is asked for can be rounded down to one of the grid.
abbrev pub PointsRoundDown : Type 0
PointsRoundDown = (boxes : ℕ) (axes : List Axis) → All (IsReady boxes) axes → (xs : List ℕ) → IsAsked axes xs
    → (ys : List ℕ) × RoundsTo axes xs ys
