-- The choices of a set, for languages whose entries have one choice of each part: a set that is all
-- gives no condition, else each of its members gives one. Choices of several parts are combined.
use Rattle.std.specs.Prelude.{ℕ, ◌+◌, ◌-◌, Bool, true, ◌&&◌, ◌==◌, nat_le, if◌then◌else◌, List, [], ◌∷◌, Option, None, Some, map, flat_map}
use Rattle.std.specs.List.{range_with_len}
use Rattle.acl_sets.specs.declared.sets.Range.{Range}
use Rattle.acl_sets.specs.ComputableSets.{is_all}
use Rattle.acl_sets.specs.Ranges.{Numbers}

-- Each member of the one list with each of the other, the one outermost.
abbrev pub pairs : {A B : Type 0} → List A → List B → List (A × B)
pairs xs ys = flat_map (λ x. map (λ y. (x, y)) ys) xs

-- The numbers of a set, in rising order.
abbrev pub numbers_in : Range → List ℕ
numbers_in r = range_with_len r.low (r.high + 1 - r.low)

abbrev pub numbers_of : List Range → List ℕ
numbers_of ranges = flat_map numbers_in ranges

-- A protocol or a type.
abbrev pub number_choices : Numbers → List (Option ℕ)
number_choices s = if is_all s then None ∷ [] else map (λ n. Some n) (numbers_of s.ranges)

-- A range of ports.
abbrev pub range_choices : Numbers → List (Option (ℕ × ℕ))
range_choices s = if is_all s then None ∷ [] else map (λ r. Some (r.low, r.high)) s.ranges

-- No condition holds every packet.
abbrev pub is_chosen : Option ℕ → ℕ → Bool
is_chosen None number = true
is_chosen (Some wanted) number = number == wanted

abbrev pub in_range : Option (ℕ × ℕ) → ℕ → Bool
in_range None port = true
in_range (Some ports) port = nat_le ports.0 port && nat_le port ports.1
