-- The grid of a family, for private functions alone.
use Rattle.std.specs.Prelude.{◌≡◌, ◌⊎◌, ℕ, true, false, List, [], ◌∷◌, length, map, Option, Some, None}
use Rattle.acl_packet.specs.declared.addresses.Family.{Family}
use Rattle.acl_packet.specs.declared.packets.Packet.{Packet}
use Rattle.acl_packet.specs.Addresses.{covers}
use Rattle.acl_terms.specs.Resolved.{IsEmptyIn, is_empty_in}
use Rattle.acl_dead.specs.declared.axes.Axis.{Axis}
use Rattle.acl_dead.specs.Boxes.{AreBoundaries}
use Rattle.term_boxes.specs.declared.boxes.PacketBox.{PacketBox}
use Rattle.term_boxes.specs.TermBoxes.{own_box}
use Rattle.acl_dead.specs.declared.blocking.Space.{Space}
use Rattle.acl_dead.specs.declared.coordinates.Coordinate.{Coordinate}
use Rattle.acl_dead.specs.declared.grids.Grid.{Grid}
use Rattle.acl_dead.specs.BlockSteps.{blocks_of, boxes_in}
use Rattle.acl_dead.specs.CoordinateSteps.{coordinates, numbers_along, sets_along}
use Rattle.acl_dead.specs.Deciding.{ComesBefore, IsDecided, IsOfTarget, IsSuch, Question}
use Rattle.acl_dead.specs.SideSteps.{side_of}

-- ---- axes

-- The axis of a coordinate, with the boxes' sides.
pub record IsAxisOf (f : Family) (q : Question) (own : PacketBox) (boxes : List PacketBox) (c : Coordinate)
    (a : Axis) : Type 0 where
  pub own_is : a.own.now ≡ side_of c own
  pub sides_are : map (λ s. s.now.ranges) a.sides.items ≡ map (λ b. (side_of c b).ranges) boxes
  pub values : AreBoundaries (side_of c own).ranges (sets_along c f q) (numbers_along c f q) a.values.items

abbrev pub AreAxesOf : Family → Question → PacketBox → List PacketBox → List Coordinate → List Axis → Type 0
AreAxesOf f q own boxes [] [] = Unit {0}
AreAxesOf f q own boxes [] (a ∷ axes) = ⊥
AreAxesOf f q own boxes (c ∷ cs) [] = ⊥
AreAxesOf f q own boxes (c ∷ cs) (a ∷ axes) =
    IsAxisOf f q own boxes c a × AreAxesOf f q own boxes cs axes

-- The axes of all coordinates, with the boxes in which the term decides nothing.
abbrev pub AreAxesIn : Family → Question → List Axis → Type 0
AreAxesIn f q axes = AreAxesOf f q (own_box f q.term) (blocks_of f q) coordinates axes

abbrev pub box_count : List Axis → ℕ
box_count [] = 0
box_count (a ∷ axes) = length a.sides.items

-- ---- the grid of a family that the target may not be for

pub record HasPackets (f : Family) (q : Question) : Type 0 where
  pub of_target : covers q.target.families f ≡ true
  pub not_empty : is_empty_in f q.term ≡ false

abbrev pub NoPackets : Family → Question → Type 0
NoPackets f q = (covers q.target.families f ≡ false) ⊎ ((is_empty_in f q.term ≡ true) × IsEmptyIn f q.term)

abbrev pub IsSpaceIn : Family → Question → Option Space → Type 0
IsSpaceIn f q None = NoPackets f q
IsSpaceIn f q (Some s) = HasPackets f q × (s.own ≡ own_box f q.term) × (boxes_in s.boxes ≡ blocks_of f q)

abbrev pub IsGridIn : Family → Question → Option Grid → Type 0
IsGridIn f q None = NoPackets f q
IsGridIn f q (Some g) = HasPackets f q × AreAxesIn f q g.axes.items

-- ---- the answer in a family

-- The packet is the first of the family's on the grid that the term decides.
pub record IsFirstIn (f : Family) (q : Question) (p : Packet) : Type 0 where
  pub family : p.family ≡ f
  pub such : IsSuch q p
  pub first : (other : Packet) → other.family ≡ f → IsSuch q other → ComesBefore other p → ⊥

-- The term decides none of the family's packets.
abbrev pub IsDeadIn : Family → Question → Type 0
IsDeadIn f q = (p : Packet) → p.family ≡ f → IsOfTarget q p → IsDecided q p → ⊥

abbrev pub FindsIn : Family → Question → Option Packet → Type 0
FindsIn f q None = IsDeadIn f q
FindsIn f q (Some p) = IsFirstIn f q p
