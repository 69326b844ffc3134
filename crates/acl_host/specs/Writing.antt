-- What it means to write a whole file.
use Rattle.std.specs.Prelude.{◌≡◌, ℕ, List, None, Some, Result, OnOk, OnErr}
use Rattle.acl_host.specs.Files.{File, file_at, SameBut, BothTell}
use Rattle.acl_host.specs.Outside.{CountsWriting, TreeMembers}
use Rattle.acl_host.specs.declared.sinks.WriteFault.{WriteFault}

-- The file at the path is the text, and every other file is as it was.
pub record HoldsText (path text : List ℕ) (old new : List File) : Type 0 where
  pub held : file_at new path ≡ Some text
  pub others : SameBut path old new

pub record WritesFile {S T : Type 0} (tree : TreeMembers S) (old new : S)
    (path text : List ℕ) (result : Result T WriteFault) : Type 0 where
  pub ended : tree.begun new ≡ None
  pub ok : OnOk result (BothTell (tree.files old) (tree.files new) (HoldsText path text))
  -- on a refusal the file at the path may hold anything
  pub err : OnErr result (BothTell (tree.files old) (tree.files new) (SameBut path))
  pub counts : CountsWriting tree old new result
