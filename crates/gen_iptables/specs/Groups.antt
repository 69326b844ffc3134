-- The ports of a rule in groups, each of which one multiport match takes: a match has at most 15
-- ports, where a range counts as two (iptables-extensions(8), "multiport").
use Rattle.std.specs.Prelude.{◌≡◌, ◌↔◌, ℕ, zero, suc, ◌<◌, if◌then◌else◌, List, [], ◌∷◌, length, take, drop}
use Rattle.acl_sets.specs.declared.sets.Range.{Range}
use Rattle.acl_sets.specs.ComputableSets.{is_all}
use Rattle.acl_sets.specs.Groups.{group_length, IsGroupEnd}
use Rattle.acl_sets.specs.Ranges.{Numbers}

-- The first group of ranges: those up to the greatest end with which they weigh at most 15. It has a range.
pub record IsFirstGroup (ranges group : List Range) : Type 0 where
  pub some : 0 < length group
  pub front : group ≡ take (length group) ranges
  pub greatest : IsGroupEnd ranges 0 15 (length group)

-- The groups of ranges: none where there are no ranges, else a first one, and those of what is left behind it.
abbrev pub AreGroups : List Range → List (List Range) → Type 0
AreGroups ranges [] = ranges ≡ []
AreGroups ranges (g ∷ gs) = IsFirstGroup ranges g × AreGroups (drop (length g) ranges) gs

-- ---- as they can be computed

-- The longest front of a list that weighs at most 15, and what is left behind it.
abbrev pub first_group : List Range → List Range
first_group ranges = take (group_length 15 ranges) ranges

abbrev pub behind_group : List Range → List Range
behind_group ranges = drop (group_length 15 ranges) ranges

-- At most so many groups, from the front.
unfoldable pub groups_up_to : ℕ → List Range → List (List Range)
groups_up_to zero ranges = []
groups_up_to (suc n) [] = []
groups_up_to (suc n) (r ∷ ranges) =
    first_group (r ∷ ranges) ∷ groups_up_to n (behind_group (r ∷ ranges))

-- All groups of a list, which has no more of them than ranges.
abbrev pub groups : List Range → List (List Range)
groups ranges = groups_up_to (length ranges) ranges

-- They are the groups of the ranges, and no others are. A law.
abbrev pub OneListOfGroups : Type 0
OneListOfGroups = (ranges : List Range) (list : List (List Range)) → AreGroups ranges list ↔ (list ≡ groups ranges)

-- A set that is all gives no condition, which is the group without ports.
abbrev pub group_choices : Numbers → List (List Range)
group_choices s = if is_all s then [] ∷ [] else groups s.ranges
