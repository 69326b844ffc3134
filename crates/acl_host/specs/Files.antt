-- Files under their paths, as lists.
use Rattle.std.specs.Prelude.{◌≡◌, ◌≢◌, ℕ, nat_lt, nat_eq, ◌==◌, Bool, ◌&&◌, if◌then◌else◌, List, [], ◌∷◌, ◌++◌, length, drop, Option, None, Some, IsSome, is_some, IsSorted}
use Rattle.std.specs.Ordering.{nat_cmp, is_le}
use Rattle.std.specs.Cmp.Lexicographic.{slice_cmp}
use Rattle.std.specs.List.{list_any, filter_map, starts_with, ends_with}
use Rattle.std.specs.Str.{bytes_eq}

-- a path, and the bytes that lie there
abbrev pub File : Type 0
File = List ℕ × List ℕ

-- the bytes at a path
abbrev pub file_at : List File → List ℕ → Option (List ℕ)
file_at [] path = None
file_at (f ∷ files) path = if bytes_eq f.0 path then Some f.1 else file_at files path

abbrev pub IsHeld : List File → List ℕ → Type 0
IsHeld files path = IsSome (file_at files path)

-- no path stands twice
abbrev pub DistinctPaths : List File → Type 0
DistinctPaths [] = Unit {0}
DistinctPaths (f ∷ files) = (file_at files f.0 ≡ None) × DistinctPaths files

-- every file but the one at the path is as it was
abbrev pub SameBut : List ℕ → List File → List File → Type 0
SameBut path old new = (q : List ℕ) → q ≢ path → file_at new q ≡ file_at old q

-- A path is a folder's path, one slash, and the rest: a folder that ends in a slash has it already.
abbrev pub with_slash : List ℕ → List ℕ
with_slash folder = if ends_with nat_eq folder (47 ∷ []) then folder else folder ++ 47 ∷ []

abbrev pub join_path : List ℕ → List ℕ → List ℕ
join_path folder rest = with_slash folder ++ rest

-- what stands behind a prefix in a longer path
abbrev pub rest_behind : List ℕ → List ℕ → Option (List ℕ)
rest_behind prefix path =
    if starts_with nat_eq path prefix && nat_lt (length prefix) (length path)
    then Some (drop (length prefix) path) else None

-- what stands behind the folder in a path that lies under it
abbrev pub rest_under : List ℕ → List ℕ → Option (List ℕ)
rest_under folder path = rest_behind (with_slash folder) path

abbrev pub lies_under : List ℕ → List ℕ → Bool
lies_under folder path = is_some (rest_under folder path)

-- the rest of a path is a name where it has no slash
abbrev pub only_name : Option (List ℕ) → Option (List ℕ)
only_name None = None
only_name (Some rest) = if list_any (λ b. b == 47) rest then None else Some rest

-- the name of a file that lies directly under the folder
abbrev pub name_under : List ℕ → List ℕ → Option (List ℕ)
name_under folder path = only_name (rest_under folder path)

-- a name put into its place among names in byte order
abbrev pub put_in_order : List ℕ → List (List ℕ) → List (List ℕ)
put_in_order name [] = name ∷ []
put_in_order name (other ∷ others) =
    if is_le (slice_cmp nat_cmp name other) then name ∷ other ∷ others
    else other ∷ put_in_order name others

abbrev pub in_byte_order : List (List ℕ) → List (List ℕ)
in_byte_order [] = []
in_byte_order (name ∷ names) = put_in_order name (in_byte_order names)

-- names that stand in byte order
abbrev pub AreInByteOrder : List (List ℕ) → Type 0
AreInByteOrder names = IsSorted (slice_cmp nat_cmp) names

-- the names of the files directly under the folder, in byte order
unfoldable pub names_under : List ℕ → List File → List (List ℕ)
names_under folder files = in_byte_order (filter_map (λ (f : File). name_under folder f.0) files)

-- some file lies under the folder
abbrev pub is_folder : List ℕ → List File → Bool
is_folder folder files = list_any (λ (f : File). lies_under folder f.0) files

-- What a tree tells as an output: the bytes of the file that is begun, where it tells its files.
abbrev pub told_of : Option (List File) → Option (List ℕ) → Option (List ℕ)
told_of (Some files) (Some path) = file_at files path
told_of (Some files) None = None
told_of None begun = None

-- What is told before and after: told both times and in this relation, or not told at all.
abbrev pub BothTell : {A : Type 0} → Option A → Option A → (A → A → Type 0) → Type 0
BothTell None new P = new ≡ None
BothTell (Some old) None P = ⊥
BothTell (Some old) (Some new) P = P old new

-- The path that is begun is the one that was, or none.
abbrev pub SameOrNone : Option (List ℕ) → Option (List ℕ) → Type 0
SameOrNone begun None = Unit {0}
SameOrNone begun (Some path) = begun ≡ Some path

-- Every file is as it was, but for the one that was begun.
abbrev pub OthersStay : Option (List ℕ) → List File → List File → Type 0
OthersStay None old new = (q : List ℕ) → file_at new q ≡ file_at old q
OthersStay (Some path) old new = SameBut path old new

-- What a tree holds beside the bytes of the begun file stayed.
pub record RestStays (old new : Option (List File)) (old_begun new_begun : Option (List ℕ))
    (old_lists new_lists old_reads new_reads : ℕ) : Type 0 where
  pub begun : SameOrNone old_begun new_begun
  pub lists : new_lists ≡ old_lists
  pub reads : new_reads ≡ old_reads
  pub others : BothTell old new (OthersStay old_begun)
