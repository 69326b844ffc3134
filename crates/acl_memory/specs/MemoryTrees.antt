-- What a tree in memory holds, and what each of its calls leaves.
use Rattle.std.specs.Prelude.{◌≡◌, ℕ, List, [], Option, None, Some, is_some, Result, Ok, Err}
use Rattle.acl_text.specs.Output.{PutsBy, one_more}
use Rattle.acl_text.specs.declared.output.PutFault.{PutFault}
use Rattle.acl_text.specs.declared.output.PutFault.TheVariants as puts
use Rattle.acl_host.specs.Files.{File, RestStays, told_of}
use Rattle.acl_host.specs.Outside.{TreeMembers, Lists, Reads, Begins, Finishes}
use Rattle.acl_memory.specs.Memory.{CallsMade, no_calls, after_one, failing-prop, with_failing}
use Rattle.acl_memory.specs.MemoryFiles.{put_at, path_at, append_begun}
use Rattle.acl_memory.specs.declared.failing.Op.{Op}
use Rattle.acl_memory.specs.declared.failing.Op.TheVariants as op
use Rattle.acl_memory.specs.declared.mem_trees.MemTree.{MemTree}
use Rattle.acl_host.specs.declared.sinks.WriteFault.{WriteFault}
use Rattle.acl_host.specs.declared.sinks.WriteFault.TheVariants as write
use Rattle.acl_host.specs.declared.trees.TreeFault.{TreeFault}
use Rattle.acl_host.specs.declared.trees.TreeFault.TheVariants as tree

-- A tree in memory: its files, the path that is begun, its calls of each kind, and its counts.
pub record TreeContents : Type 0 where
  pub files : List File
  pub begun : Option (List ℕ)
  pub lists : CallsMade
  pub reads : CallsMade
  pub begins : CallsMade
  pub appends : CallsMade
  pub finishes : CallsMade
  pub faults : ℕ
  pub refusals : ℕ
  pub list_faults : ℕ
  pub read_faults : ℕ

-- no files, nothing begun, no call that fails, and no count risen
abbrev pub no_contents : TreeContents
no_contents = record {
  files = [];
  begun = None;
  lists = no_calls;
  reads = no_calls;
  begins = no_calls;
  appends = no_calls;
  finishes = no_calls;
  faults = 0;
  refusals = 0;
  list_faults = 0;
  read_faults = 0;
}

-- the path of the file that is begun, by its index
abbrev pub begun_path : Option ℕ → List File → Option (List ℕ)
begun_path None files = None
begun_path (Some i) files = path_at i files

-- what the tree holds
abbrev pub contents : MemTree → TreeContents
contents t = record {
  files = t.files.items.items;
  begun = begun_path t.begun t.files.items.items;
  lists = t.lists;
  reads = t.reads;
  begins = t.begins;
  appends = t.appends;
  finishes = t.finishes;
  faults = t.faults;
  refusals = t.refusals;
  list_faults = t.list_faults;
  read_faults = t.read_faults;
}

-- What it tells: all its files, and the path that is begun.
abbrev pub files_of : MemTree → Option (List File)
files_of t = Some (contents t).files

abbrev pub begun_of : MemTree → Option (List ℕ)
begun_of t = (contents t).begun

abbrev pub told_by : MemTree → Option (List ℕ)
told_by t = told_of (files_of t) (begun_of t)

abbrev pub KeepsRest : MemTree → MemTree → Type 0
KeepsRest old new =
    RestStays (files_of old) (files_of new) (begun_of old) (begun_of new)
    old.list_faults new.list_faults old.read_faults new.read_faults

abbrev pub tree_members : TreeMembers MemTree
tree_members = record {
  told = told_by;
  faults = λ t. t.faults;
  refusals = λ t. t.refusals;
  is_open = λ t. is_some (begun_of t);
  keeps_rest = KeepsRest;
  files = files_of;
  begun = begun_of;
  list_faults = λ t. t.list_faults;
  read_faults = λ t. t.read_faults;
}

-- A call of each kind, with what this tree tells.
abbrev pub ListsInMemory : MemTree → MemTree → List ℕ → Result (List (List ℕ)) TreeFault → Type 0
ListsInMemory old new folder result = Lists tree_members old new folder result

abbrev pub ReadsInMemory : MemTree → MemTree → List ℕ → ℕ → Result (List ℕ) TreeFault → Type 0
ReadsInMemory old new path most result = Reads tree_members old new path most result

abbrev pub BeginsInMemory : {T : Type 0} → MemTree → MemTree → List ℕ → Result T WriteFault → Type 0
BeginsInMemory old new path result = Begins tree_members old new path result

abbrev pub PutsInMemory : {T : Type 0} → MemTree → MemTree → List ℕ → Result T PutFault → Type 0
PutsInMemory old new bytes result =
    PutsBy tree_members.told tree_members.faults tree_members.refusals tree_members.is_open
    tree_members.keeps_rest old new bytes result

abbrev pub FinishesInMemory : {T : Type 0} → MemTree → MemTree → Result T WriteFault → Type 0
FinishesInMemory old new result = Finishes tree_members old new result

-- What each call leaves. A call that is made counts among those of its kind; only a listed one fails.
abbrev pub after_list : {T : Type 0} → Result T TreeFault → TreeContents → TreeContents
after_list (Ok names) t = record t { lists = after_one t.lists }
after_list (Err tree.Absent) t = record t { lists = after_one t.lists }
after_list (Err tree.Failed) t =
    record t { lists = after_one t.lists; list_faults = one_more t.list_faults }
after_list (Err tree.Memory) t = record t { lists = after_one t.lists }

abbrev pub after_read : {T : Type 0} → Result T TreeFault → TreeContents → TreeContents
after_read (Ok bytes) t = record t { reads = after_one t.reads }
after_read (Err tree.Absent) t = record t { reads = after_one t.reads }
after_read (Err tree.Failed) t =
    record t { reads = after_one t.reads; read_faults = one_more t.read_faults }
after_read (Err tree.Memory) t = record t { reads = after_one t.reads }

-- a refused `begin` changes no file
abbrev pub after_begin : {T : Type 0} → Result T WriteFault → List ℕ → TreeContents → TreeContents
after_begin (Ok done) path t =
    record t { begins = after_one t.begins; files = put_at path [] t.files; begun = Some path }
after_begin (Err write.Failed) path t =
    record t { begins = after_one t.begins; faults = one_more t.faults }
after_begin (Err write.Memory) path t =
    record t { begins = after_one t.begins; refusals = one_more t.refusals }

-- a refused `put` adds no bytes, and ends the file
abbrev pub after_put : {T : Type 0} → Result T PutFault → List ℕ → TreeContents → TreeContents
after_put (Ok done) bytes t =
    record t { appends = after_one t.appends; files = append_begun t.begun bytes t.files }
after_put (Err puts.Failed) bytes t =
    record t { appends = after_one t.appends; begun = None; faults = one_more t.faults }
after_put (Err puts.Memory) bytes t =
    record t { appends = after_one t.appends; begun = None; refusals = one_more t.refusals }

-- `finish` changes no file
abbrev pub after_finish : {T : Type 0} → Result T WriteFault → TreeContents → TreeContents
after_finish (Ok done) t = record t { finishes = after_one t.finishes; begun = None }
after_finish (Err write.Failed) t =
    record t { finishes = after_one t.finishes; begun = None; faults = one_more t.faults }
after_finish (Err write.Memory) t =
    record t { finishes = after_one t.finishes; begun = None; refusals = one_more t.refusals }

-- the call of this kind and number is to fail too
abbrev pub failing_too : Op → ℕ → TreeContents → TreeContents
failing_too op.List nth t = record t { lists = with_failing nth t.lists }
failing_too op.Read nth t = record t { reads = with_failing nth t.reads }
failing_too op.Begin nth t = record t { begins = with_failing nth t.begins }
failing_too op.Append nth t = record t { appends = with_failing nth t.appends }
failing_too op.Finish nth t = record t { finishes = with_failing nth t.finishes }

-- No call is to fail.
pub record NeverFails (t : TreeContents) : Type 0 where
  pub lists : t.lists.failing ≡ []
  pub reads : t.reads.failing ≡ []
  pub begins : t.begins.failing ≡ []
  pub appends : t.appends.failing ≡ []
  pub finishes : t.finishes.failing ≡ []

-- that is shown in one way at most
pub NeverFails-prop : (t : TreeContents) → IsProp (NeverFails t)
NeverFails-prop t = hlevel (failing-prop)
