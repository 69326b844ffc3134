-- Whole files and folders: what is read and listed, and the faults that have no line.
use Rattle.std.specs.Prelude.{◌≡◌, ℕ, nat_lt, Bool, true, false, if◌then◌else◌, List, length, Option, None, Some, Result, Ok, Err, IsErrOf}
use Rattle.acl_text.specs.declared.faults.Code.{Code}
use Rattle.acl_text.specs.declared.faults.Code.TheVariants.{NoFile}
use Rattle.acl_text.specs.declared.faults.Fault.{Fault}
use Rattle.acl_text.specs.declared.faults.Rejection.{Rejection}
use Rattle.acl_text.specs.declared.faults.Rejection.TheVariants as rejections
use Rattle.acl_text.specs.Output.{Rose}
use Rattle.acl_text.specs.Refusals.{file_fault}
use Rattle.acl_host.specs.Files.{File, file_at, is_folder, names_under}
use Rattle.acl_host.specs.Outside.{OnlyLists, OnlyReads, TreeMembers}
use Rattle.acl_host.specs.declared.look_faults.ListFault.{ListFault}
use Rattle.acl_host.specs.declared.look_faults.ListFault.TheVariants as lists
use Rattle.acl_host.specs.declared.look_faults.ReadFault.{ReadFault}
use Rattle.acl_host.specs.declared.look_faults.ReadFault.TheVariants as reads

-- The bytes at a path, of which there may be so many; the code says what more of them are.
abbrev pub at_most : ℕ → Code → List ℕ → Option (List ℕ) → Result (List ℕ) Fault
at_most most code path None = Err (file_fault NoFile path)
at_most most code path (Some bytes) =
    if nat_lt most (length bytes) then Err (file_fault code path) else Ok bytes

-- The bytes of the file at the path, with this limit.
unfoldable pub whole_file : ℕ → Code → List ℕ → List File → Result (List ℕ) Fault
whole_file most code path files = at_most most code path (file_at files path)

-- The names of the files directly under the folder, where something lies under it.
unfoldable pub listing : List ℕ → List File → Result (List (List ℕ)) Fault
listing folder files =
    if is_folder folder files then Ok (names_under folder files)
    else Err (file_fault NoFile folder)

-- The fault that a reading, or a listing, tells of the input.
abbrev pub read_told : ReadFault → Option Fault
read_told (reads.Fault fault) = Some fault
read_told reads.Outside = None
read_told reads.Memory = None

abbrev pub list_told : ListFault → Option Fault
list_told (lists.Fault fault) = Some fault
list_told lists.Outside = None
list_told lists.Memory = None

-- A step that touches nothing outside, as a part of one that reads.
abbrev pub read_rejected : Rejection → ReadFault
read_rejected (rejections.Fault fault) = reads.Fault fault
read_rejected rejections.Memory = reads.Memory

-- What failed is a call outside.
abbrev pub is_no_listing : ListFault → Bool
is_no_listing (lists.Fault fault) = false
is_no_listing lists.Outside = true
is_no_listing lists.Memory = false

abbrev pub is_no_reading : ReadFault → Bool
is_no_reading (reads.Fault fault) = false
is_no_reading reads.Outside = true
is_no_reading reads.Memory = false

abbrev pub lists_outside : {X : Type 0} → Result X ListFault → Bool
lists_outside (Ok given) = false
lists_outside (Err fault) = is_no_listing fault

abbrev pub reads_outside : {X : Type 0} → Result X ReadFault → Bool
reads_outside (Ok given) = false
reads_outside (Err fault) = is_no_reading fault

-- A call that lists a folder does nothing else; it fails outside only where the count of failed listings
-- rose, and else that count stays.
pub record ListsFolder {S X : Type 0} (tree : TreeMembers S) (old new : S)
    (result : Result X ListFault) : Type 0 where
  pub only : OnlyLists tree old new
  pub failed : IsErrOf result lists.Outside → Rose (tree.list_faults old) (tree.list_faults new)
  pub faults_stay : lists_outside result ≡ false → tree.list_faults new ≡ tree.list_faults old

-- A call that reads files does nothing else; it fails outside only where the count of failed readings
-- rose, and else that count stays.
pub record ReadsFiles {S X : Type 0} (tree : TreeMembers S) (old new : S)
    (result : Result X ReadFault) : Type 0 where
  pub only : OnlyReads tree old new
  pub failed : IsErrOf result reads.Outside → Rose (tree.read_faults old) (tree.read_faults new)
  pub faults_stay : reads_outside result ≡ false → tree.read_faults new ≡ tree.read_faults old
