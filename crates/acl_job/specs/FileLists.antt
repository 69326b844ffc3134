-- Several files that are written one behind the other.
use Prim.Native.Nat.{suc}
use Rattle.std.specs.Prelude.{◌≡◌, ◌≢◌, ℕ, List, [], ◌∷◌, take, Some, Result, OnOk, OnErr}
use Rattle.std.specs.List.{AllByRecursion}
use Rattle.acl_host.specs.Files.{File, file_at, BothTell}
use Rattle.acl_host.specs.Outside.{CountsWriting, TreeMembers}
use Rattle.acl_host.specs.declared.sinks.WriteFault.{WriteFault}

-- The path is none of the texts' paths.
abbrev pub IsApart : List ℕ → List File → Type 0
IsApart path texts = AllByRecursion (λ (t : File). path ≢ t.0) texts

-- No two texts have one path.
abbrev pub PathsDiffer : List File → Type 0
PathsDiffer [] = Unit {0}
PathsDiffer (t ∷ ts) = IsApart t.0 ts × PathsDiffer ts

-- Each text stands at its path.
abbrev pub HoldsAll : List File → List File → Type 0
HoldsAll texts files = AllByRecursion (λ (t : File). file_at files t.0 ≡ Some t.1) texts

-- Every other file is as it was.
abbrev pub SameButAt : List File → List File → List File → Type 0
SameButAt texts old new = (q : List ℕ) → IsApart q texts → file_at new q ≡ file_at old q

pub record HoldsTexts (texts old new : List File) : Type 0 where
  pub held : HoldsAll texts new
  pub others : SameButAt texts old new

-- The first texts are written whole; the file of the next one may hold anything, and the later ones and every other
-- file are as they were.
pub record StopsAfter (count : ℕ) (texts old new : List File) : Type 0 where
  pub held : HoldsAll (take count texts) new
  pub others : SameButAt (take (suc count) texts) old new

-- What an interrupted writing leaves.
abbrev pub Interrupted : List File → List File → List File → Type 0
Interrupted texts old new = (count : ℕ) × StopsAfter count texts old new

pub record WritesFiles {S T : Type 0} (tree : TreeMembers S)
    (old new : S) (texts : List File) (result : Result T WriteFault) : Type 0 where
  pub ended : tree.begun new ≡ tree.begun old
  pub ok : OnOk result (BothTell (tree.files old) (tree.files new) (HoldsTexts texts))
  pub err : OnErr result (BothTell (tree.files old) (tree.files new) (Interrupted texts))
  pub counts : CountsWriting tree old new result
