-- Why nothing was loaded, beside why a folder was not listed, a file not read, or what they say not taken.
use Rattle.std.specs.Prelude.{◌≡◌, ℕ, Bool, true, false, List, Option, None, Some, Result, Ok, Err, IsErrOf}
use Rattle.acl_text.specs.Output.{Rose}
use Rattle.acl_text.specs.declared.faults.Fault.{Fault}
use Rattle.acl_text.specs.declared.faults.Rejection.{Rejection}
use Rattle.acl_text.specs.declared.faults.Rejection.TheVariants as rejections
use Rattle.acl_host.specs.Outside.{OnlyListsAndReads, TreeMembers}
use Rattle.acl_host.specs.declared.look_faults.ListFault.{ListFault}
use Rattle.acl_host.specs.declared.look_faults.ListFault.TheVariants as lists
use Rattle.acl_host.specs.declared.look_faults.ReadFault.{ReadFault}
use Rattle.acl_host.specs.declared.look_faults.ReadFault.TheVariants as reads
use Rattle.acl_load.specs.declared.load_faults.LoadFault.{LoadFault}
use Rattle.acl_load.specs.declared.load_faults.LoadFault.TheVariants as loads

-- The fault that is told of the input.
abbrev pub load_told : LoadFault → Option Fault
load_told (loads.Fault fault) = Some fault
load_told loads.List = None
load_told loads.Read = None
load_told loads.Memory = None

abbrev pub of_listing : ListFault → LoadFault
of_listing (lists.Fault fault) = loads.Fault fault
of_listing lists.Outside = loads.List
of_listing lists.Memory = loads.Memory

abbrev pub of_reading : ReadFault → LoadFault
of_reading (reads.Fault fault) = loads.Fault fault
of_reading reads.Outside = loads.Read
of_reading reads.Memory = loads.Memory

abbrev pub of_rejection : Rejection → LoadFault
of_rejection (rejections.Fault fault) = loads.Fault fault
of_rejection rejections.Memory = loads.Memory

-- The folder was not listed.
abbrev pub is_unlisted : LoadFault → Bool
is_unlisted (loads.Fault fault) = false
is_unlisted loads.List = true
is_unlisted loads.Read = false
is_unlisted loads.Memory = false

-- A file was not read.
abbrev pub is_unread : LoadFault → Bool
is_unread (loads.Fault fault) = false
is_unread loads.List = false
is_unread loads.Read = true
is_unread loads.Memory = false

abbrev pub fails_to_list : {X : Type 0} → Result X LoadFault → Bool
fails_to_list (Ok given) = false
fails_to_list (Err fault) = is_unlisted fault

abbrev pub fails_to_read : {X : Type 0} → Result X LoadFault → Bool
fails_to_read (Ok given) = false
fails_to_read (Err fault) = is_unread fault

-- A call that lists a folder and reads files does nothing else; it fails outside only where the count of
-- that kind rose, and else that count stays.
pub record LoadsFiles {S X : Type 0} (tree : TreeMembers S) (old new : S)
    (result : Result X LoadFault) : Type 0 where
  pub only : OnlyListsAndReads tree old new
  pub list_failed : IsErrOf result loads.List → Rose (tree.list_faults old) (tree.list_faults new)
  pub read_failed : IsErrOf result loads.Read → Rose (tree.read_faults old) (tree.read_faults new)
  pub lists_stay : fails_to_list result ≡ false → tree.list_faults new ≡ tree.list_faults old
  pub reads_stay : fails_to_read result ≡ false → tree.read_faults new ≡ tree.read_faults old
