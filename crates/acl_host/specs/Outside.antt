-- What the calls of trees, sinks and clocks mean. A record a call, over what the object tells: the members
-- of its trait, as functions of the object as it was and as it is then. Those of a tree are one record.
use Rattle.std.specs.Prelude.{◌≡◌, ℕ, ◌≤◌, ℤ, Bool, true, false, List, [], ◌++◌, take, Option, None, Some, Result, Ok, Err, option_map, OnOk, OnErr, IfOk, IfSome, IsErrOf}
use Rattle.acl_text.specs.Output.{Rose}
use Rattle.acl_text.specs.declared.output.Out.{Ghosts}
use Rattle.acl_host.specs.Files.{File, file_at, names_under, is_folder, SameBut, BothTell}
use Rattle.acl_host.specs.declared.trees.TreeFault.{TreeFault}
use Rattle.acl_host.specs.declared.trees.TreeFault.TheVariants as tree
use Rattle.acl_host.specs.declared.sinks.WriteFault.{WriteFault}
use Rattle.acl_host.specs.declared.sinks.WriteFault.TheVariants as write
use Rattle.acl_host.specs.declared.clocks.ClockFault.{ClockFault}
use Rattle.acl_host.specs.declared.clocks.ClockFault.TheVariants as clock
use Rattle.acl_host.specs.declared.days.Day.{Day}

-- The members of a tree: those that it has as an output, and its own. A bound on a tree gives them as
-- this record (`T.Tree`).
abbrev pub TreeMembers : Type 0 → Type 1
TreeMembers S = record {
  told : S → Option (List ℕ);
  faults : S → ℕ;
  refusals : S → ℕ;
  is_open : S → Bool;
  keeps_rest : S → S → Type 0;
  files : S → Option (List File);
  begun : S → Option (List ℕ);
  list_faults : S → ℕ;
  read_faults : S → ℕ;
}

-- A tree's members, from those of the output that it is and its own.
abbrev pub members : {S : Type 0} → Ghosts S → (S → Option (List File)) → (S → Option (List ℕ))
    → (S → ℕ) → (S → ℕ) → TreeMembers S
members out files begun list_faults read_faults = record {
  told = out.told;
  faults = out.faults;
  refusals = out.refusals;
  is_open = out.is_open;
  keeps_rest = out.keeps_rest;
  files = files;
  begun = begun;
  list_faults = list_faults;
  read_faults = read_faults;
}

-- The files, the begun path and the counts of the writing calls stay.
pub record OnlyLooks {S : Type 0} (t : TreeMembers S) (old new : S) : Type 0 where
  pub files_stay : t.files new ≡ t.files old
  pub begun_stays : t.begun new ≡ t.begun old
  pub faults_stay : t.faults new ≡ t.faults old
  pub refusals_stay : t.refusals new ≡ t.refusals old

-- A tree of which names are listed, and nothing more: its count of failed listings did not fall.
pub record OnlyLists {S : Type 0} (t : TreeMembers S) (old new : S) : Type 0 where
  pub looks : OnlyLooks t old new
  pub lists_grow : t.list_faults old ≤ t.list_faults new
  pub reads_stay : t.read_faults new ≡ t.read_faults old

-- A tree of which files are read, and nothing more: its count of failed readings did not fall.
pub record OnlyReads {S : Type 0} (t : TreeMembers S) (old new : S) : Type 0 where
  pub looks : OnlyLooks t old new
  pub lists_stay : t.list_faults new ≡ t.list_faults old
  pub reads_grow : t.read_faults old ≤ t.read_faults new

-- A tree of which names are listed and files are read, and nothing more.
pub record OnlyListsAndReads {S : Type 0} (t : TreeMembers S) (old new : S) : Type 0 where
  pub looks : OnlyLooks t old new
  pub lists_grow : t.list_faults old ≤ t.list_faults new
  pub reads_grow : t.read_faults old ≤ t.read_faults new

-- The call failed: it was refused, and neither for want of memory nor as what it looks for is not there.
abbrev pub look_failed : {T : Type 0} → Result T TreeFault → Bool
look_failed (Ok given) = false
look_failed (Err tree.Absent) = false
look_failed (Err tree.Failed) = true
look_failed (Err tree.Memory) = false

-- The call was refused, and not for want of memory.
abbrev pub write_failed : {T : Type 0} → Result T WriteFault → Bool
write_failed (Ok done) = false
write_failed (Err write.Failed) = true
write_failed (Err write.Memory) = false

-- The answer of a listing: absent exactly where nothing lies under the folder.
abbrev pub IsListing : List ℕ → Result (List (List ℕ)) TreeFault → List File → Type 0
IsListing folder (Ok names) files =
    (is_folder folder files ≡ true) × (names ≡ names_under folder files)
IsListing folder (Err tree.Absent) files = is_folder folder files ≡ false
IsListing folder (Err tree.Failed) files = Unit {0}
IsListing folder (Err tree.Memory) files = Unit {0}

pub record Lists {S : Type 0} (t : TreeMembers S) (old new : S) (folder : List ℕ)
    (result : Result (List (List ℕ)) TreeFault) : Type 0 where
  pub lists : OnlyLists t old new
  pub answer : IfSome (t.files old) (IsListing folder result)
  pub failed : IsErrOf result tree.Failed → Rose (t.list_faults old) (t.list_faults new)
  -- a call that did not fail counts no fault: so it is with each
  pub faults_stay : look_failed result ≡ false → t.list_faults new ≡ t.list_faults old

-- The answer of a reading: absent exactly where the path is not held.
abbrev pub IsReading : List ℕ → ℕ → Result (List ℕ) TreeFault → List File → Type 0
IsReading path most (Ok bytes) files =
    option_map (λ (b : List ℕ). take most b) (file_at files path) ≡ Some bytes
IsReading path most (Err tree.Absent) files = file_at files path ≡ None
IsReading path most (Err tree.Failed) files = Unit {0}
IsReading path most (Err tree.Memory) files = Unit {0}

pub record Reads {S : Type 0} (t : TreeMembers S) (old new : S) (path : List ℕ) (most : ℕ)
    (result : Result (List ℕ) TreeFault) : Type 0 where
  pub reads : OnlyReads t old new
  pub answer : IfSome (t.files old) (IsReading path most result)
  pub failed : IsErrOf result tree.Failed → Rose (t.read_faults old) (t.read_faults new)
  pub faults_stay : look_failed result ≡ false → t.read_faults new ≡ t.read_faults old

-- What a writing call leaves of a tree's counts: those of looking stay, those of writing do not fall, a
-- refusal has its cause, and that of the faults stays where the call did not fail.
pub record CountsWriting {S T : Type 0} (t : TreeMembers S) (old new : S)
    (result : Result T WriteFault) : Type 0 where
  pub lists_stay : t.list_faults new ≡ t.list_faults old
  pub reads_stay : t.read_faults new ≡ t.read_faults old
  pub faults_grow : t.faults old ≤ t.faults new
  pub refusals_grow : t.refusals old ≤ t.refusals new
  pub failed : IsErrOf result write.Failed → Rose (t.faults old) (t.faults new)
  pub faults_stay : write_failed result ≡ false → t.faults new ≡ t.faults old
  pub memory : IsErrOf result write.Memory → Rose (t.refusals old) (t.refusals new)

-- The file at the path is empty, and every other file is as it was.
pub record MakesEmpty (path : List ℕ) (old new : List File) : Type 0 where
  pub empty : file_at new path ≡ Some []
  pub others : SameBut path old new

pub record Begins {S T : Type 0} (t : TreeMembers S) (old new : S) (path : List ℕ)
    (result : Result T WriteFault) : Type 0 where
  pub ok : OnOk result (t.begun new ≡ Some path)
  pub made : OnOk result (BothTell (t.files old) (t.files new) (MakesEmpty path))
  pub err : OnErr result (t.begun new ≡ None)
  pub left : OnErr result (BothTell (t.files old) (t.files new) (SameBut path))
  pub counts : CountsWriting t old new result

-- Every file but the one that was begun is as it was.
abbrev pub LeavesOthers : Option (List ℕ) → List File → List File → Type 0
LeavesOthers None old new = new ≡ old
LeavesOthers (Some path) old new = SameBut path old new

pub record Finishes {S T : Type 0} (t : TreeMembers S) (old new : S)
    (result : Result T WriteFault) : Type 0 where
  pub ended : t.begun new ≡ None
  pub ok : OnOk result (t.files new ≡ t.files old)
  pub left : OnErr result (BothTell (t.files old) (t.files new) (LeavesOthers (t.begun old)))
  pub counts : CountsWriting t old new result

-- What is told now is what was told before, and a front of the bytes behind it.
abbrev pub AddsFront : List ℕ → List ℕ → List ℕ → Type 0
AddsFront bytes old new = (n : ℕ) × (new ≡ old ++ take n bytes)

pub record Writes {S T : Type 0} (told : S → Option (List ℕ)) (faults refusals : S → ℕ)
    (old new : S) (bytes : List ℕ) (result : Result T WriteFault) : Type 0 where
  pub ok : OnOk result (told new ≡ option_map (λ (b : List ℕ). b ++ bytes) (told old))
  pub err : OnErr result (BothTell (told old) (told new) (AddsFront bytes))
  pub faults_grow : faults old ≤ faults new
  pub refusals_grow : refusals old ≤ refusals new
  pub failed : IsErrOf result write.Failed → Rose (faults old) (faults new)
  pub faults_stay : write_failed result ≡ false → faults new ≡ faults old
  pub memory : IsErrOf result write.Memory → Rose (refusals old) (refusals new)

pub record Tells {S : Type 0} (day : S → Option ℤ) (faults : S → ℕ) (old new : S)
    (result : Result Day ClockFault) : Type 0 where
  pub day_stays : day new ≡ day old
  pub answer : IfSome (day old) (λ d. IfOk result (λ t. t.number ≡ d))
  pub faults_grow : faults old ≤ faults new
  pub failed : IsErrOf result clock.Failed → Rose (faults old) (faults new)
  pub faults_stay : OnOk result (faults new ≡ faults old)
