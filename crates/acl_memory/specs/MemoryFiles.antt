-- Changes of a list of files, one at a time.
use Prim.Native.Nat.{zero, suc}
use Rattle.std.specs.Prelude.{ℕ, Bool, List, [], ◌∷◌, ◌++◌, Option, None, Some, is_some, IsSome, IfSome, if◌then◌else◌}
use Rattle.std.specs.Coded.{Coded-set, coded_option, coded_list, coded_ℕ, ×_prop, Unit-prop}
use Rattle.std.specs.List.{list_any, filter_map}
use Rattle.std.specs.Str.{bytes_eq}
use Rattle.std.proofs.Math.Bool.{Bool-set}
use Rattle.acl_host.specs.Files.{File, file_at, rest_behind, only_name, put_in_order, in_byte_order, DistinctPaths}

-- The file at the path is these bytes now: in its place where the path is held, else at the end.
abbrev pub put_at : List ℕ → List ℕ → List File → List File
put_at path bytes [] = (path, bytes) ∷ []
put_at path bytes (f ∷ files) =
    if bytes_eq f.0 path then (f.0, bytes) ∷ files else f ∷ put_at path bytes files

-- the path of the file at the index
abbrev pub path_at : ℕ → List File → Option (List ℕ)
path_at i [] = None
path_at zero (f ∷ files) = Some f.0
path_at (suc i) (f ∷ files) = path_at i files

-- The bytes stand behind those of the file at the path, where it is held.
abbrev pub append_to : List ℕ → List ℕ → List File → List File
append_to path bytes [] = []
append_to path bytes (f ∷ files) =
    if bytes_eq f.0 path then (f.0, f.1 ++ bytes) ∷ files else f ∷ append_to path bytes files

-- the same at the path that is begun, if one is
abbrev pub append_begun : Option (List ℕ) → List ℕ → List File → List File
append_begun None bytes files = files
append_begun (Some path) bytes files = append_to path bytes files

-- a name that was found is put into its place
abbrev pub with_name : Option (List ℕ) → List (List ℕ) → List (List ℕ)
with_name None names = names
with_name (Some name) names = put_in_order name names

-- the names directly behind the prefix, in byte order
abbrev pub names_behind : List ℕ → List File → List (List ℕ)
names_behind prefix files =
    in_byte_order (filter_map (λ (f : File). only_name (rest_behind prefix f.0)) files)

-- some file lies behind the prefix
abbrev pub is_prefix : List ℕ → List File → Bool
is_prefix prefix files = list_any (λ (f : File). is_some (rest_behind prefix f.0)) files

-- that no path stands twice is shown in one way at most
pub DistinctPaths-prop : (files : List File) → IsProp (DistinctPaths files)
DistinctPaths-prop [] = Unit-prop
DistinctPaths-prop (f ∷ files) =
    ×_prop (Coded-set (coded_option (coded_list coded_ℕ)) (file_at files f.0) None)
    (DistinctPaths-prop files)

-- that a begun file stands is shown in one way at most
pub within-prop : (begun : Option ℕ) (files : List File)
    → IsProp (IfSome begun (λ i. IsSome (path_at i files)))
within-prop None files = Unit-prop
within-prop (Some i) files = Bool-set _ _
