-- What the calls of the objects that never fail are: each of their counts of faults is 0.
use Rattle.std.specs.Prelude.{ℕ, List, Some, is_some, Result}
use Rattle.acl_text.specs.Output.{PutsBy}
use Rattle.acl_text.specs.declared.output.PutFault.{PutFault}
use Rattle.acl_host.specs.declared.days.Day.{Day}
use Rattle.acl_host.specs.Files.{RestStays}
use Rattle.acl_host.specs.Outside.{TreeMembers, Lists, Reads, Begins, Finishes, Writes, Tells}
use Rattle.acl_host.specs.declared.clocks.ClockFault.{ClockFault}
use Rattle.acl_host.specs.declared.sinks.WriteFault.{WriteFault}
use Rattle.acl_host.specs.declared.trees.TreeFault.{TreeFault}
use Rattle.acl_memory.specs.MemoryTrees.{begun_of, files_of, told_by}
use Rattle.acl_memory.specs.declared.sure_clocks.SureClock.{SureClock}
use Rattle.acl_memory.specs.declared.sure_sinks.SureSink.{SureSink}
use Rattle.acl_memory.specs.declared.sure_trees.SureTree.{SureTree}

abbrev pub KeepsRestSurely : SureTree → SureTree → Type 0
KeepsRestSurely old new =
    RestStays (files_of old.tree) (files_of new.tree) (begun_of old.tree) (begun_of new.tree) 0 0 0 0

abbrev pub sure_members : TreeMembers SureTree
sure_members = record {
  told = λ t. told_by t.tree;
  faults = λ t. 0;
  refusals = λ t. t.tree.refusals;
  is_open = λ t. is_some (begun_of t.tree);
  keeps_rest = KeepsRestSurely;
  files = λ t. files_of t.tree;
  begun = λ t. begun_of t.tree;
  list_faults = λ t. 0;
  read_faults = λ t. 0;
}

abbrev pub ListsSurely : SureTree → SureTree → List ℕ → Result (List (List ℕ)) TreeFault → Type 0
ListsSurely old new folder result = Lists sure_members old new folder result

abbrev pub ReadsSurely : SureTree → SureTree → List ℕ → ℕ → Result (List ℕ) TreeFault → Type 0
ReadsSurely old new path most result = Reads sure_members old new path most result

abbrev pub BeginsSurely : {T : Type 0} → SureTree → SureTree → List ℕ → Result T WriteFault → Type 0
BeginsSurely old new path result = Begins sure_members old new path result

abbrev pub PutsSurely : {T : Type 0} → SureTree → SureTree → List ℕ → Result T PutFault → Type 0
PutsSurely old new bytes result =
    PutsBy sure_members.told sure_members.faults sure_members.refusals sure_members.is_open
    sure_members.keeps_rest old new bytes result

abbrev pub FinishesSurely : {T : Type 0} → SureTree → SureTree → Result T WriteFault → Type 0
FinishesSurely old new result = Finishes sure_members old new result

abbrev pub WritesSurely : {T : Type 0} → SureSink → SureSink → List ℕ → Result T WriteFault → Type 0
WritesSurely old new bytes result =
    Writes (λ (s : SureSink). Some s.sink.bytes) (λ s. 0) (λ s. s.sink.refusals) old new bytes result

abbrev pub TellsSurely : SureClock → SureClock → Result Day ClockFault → Type 0
TellsSurely old new result = Tells (λ (c : SureClock). Some c.day.number) (λ c. 0) old new result
