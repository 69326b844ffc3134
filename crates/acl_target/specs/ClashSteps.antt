-- When two Cisco targets have a list in common, by their names.
use Rattle.std.specs.Prelude.{Bool, ◌&&◌, ◌||◌, ℕ, List}
use Rattle.std.specs.Str.{bytes_eq}
use Rattle.acl_target.specs.Clashes.{ipv6_list}

-- The same, by the names of the two targets: a list of one target is one of the other's.
abbrev pub names_shared : Bool → Bool → List ℕ → List ℕ → Bool
names_shared x y a b =
    bytes_eq a b || (y && bytes_eq a (ipv6_list b)) || (x && bytes_eq b (ipv6_list a))
