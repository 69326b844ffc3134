-- Objects of which never call is to fail: none fails, and none is to fail then.
use Rattle.std.proofs.Common.{◌≡◌, ℕ, ◌+◌, ◌==◌, true, List, [], Result, Ok, Err, IsErrOf, refl, ap, sym, ◌∙◌, arith}
use Rattle.std.proofs.lemmas.Bool.{false≢true}
use Rattle.std.specs.List.{list_any}
use Rattle.acl_text.specs.declared.output.PutFault.{PutFault}
use Rattle.acl_text.specs.declared.output.PutFault.TheVariants as puts
use Rattle.acl_host.specs.declared.sinks.WriteFault.{WriteFault}
use Rattle.acl_host.specs.declared.sinks.WriteFault.TheVariants as write
use Rattle.acl_host.specs.declared.trees.TreeFault.{TreeFault}
use Rattle.acl_host.specs.declared.trees.TreeFault.TheVariants as tree
use Rattle.acl_host.specs.Outside.{CountsWriting}
use Rattle.acl_memory.specs.Memory.{CallsMade, next_fails}
use Rattle.acl_memory.specs.MemorySinks.{Written, WritesInMemory, after_write}
use Rattle.acl_memory.specs.MemoryTrees.{NeverFails, TreeContents, ListsInMemory, ReadsInMemory, BeginsInMemory, PutsInMemory, FinishesInMemory, tree_members, after_list, after_read, after_begin, after_put, after_finish}
use Rattle.acl_memory.specs.SureObjects.{ListsSurely, ReadsSurely, BeginsSurely, PutsSurely, FinishesSurely, WritesSurely, sure_members}
use Rattle.acl_memory.specs.declared.sure_sinks.SureSink.{SureSink}
use Rattle.acl_memory.specs.declared.sure_trees.SureTree.{SureTree}

-- The next call is not to fail.
pub none_next : (calls : CallsMade) → calls.failing ≡ [] → next_fails calls ≡ true → ⊥
none_next calls none h =
    false≢true (sym (ap (λ (xs : List ℕ). list_any (λ n. n == calls.made + 1) xs) none) ∙ h)

-- ---- what is left

pub sure_list : {T : Type 0} (r : Result T TreeFault) (t : TreeContents) → NeverFails t → NeverFails (after_list r t)
sure_list (Ok names) t h = record { lists = h.lists; reads = h.reads; begins = h.begins; appends = h.appends; finishes = h.finishes }
sure_list (Err tree.Absent) t h = record { lists = h.lists; reads = h.reads; begins = h.begins; appends = h.appends; finishes = h.finishes }
sure_list (Err tree.Failed) t h = record { lists = h.lists; reads = h.reads; begins = h.begins; appends = h.appends; finishes = h.finishes }
sure_list (Err tree.Memory) t h = record { lists = h.lists; reads = h.reads; begins = h.begins; appends = h.appends; finishes = h.finishes }

pub sure_read : {T : Type 0} (r : Result T TreeFault) (t : TreeContents) → NeverFails t → NeverFails (after_read r t)
sure_read (Ok bytes) t h = record { lists = h.lists; reads = h.reads; begins = h.begins; appends = h.appends; finishes = h.finishes }
sure_read (Err tree.Absent) t h = record { lists = h.lists; reads = h.reads; begins = h.begins; appends = h.appends; finishes = h.finishes }
sure_read (Err tree.Failed) t h = record { lists = h.lists; reads = h.reads; begins = h.begins; appends = h.appends; finishes = h.finishes }
sure_read (Err tree.Memory) t h = record { lists = h.lists; reads = h.reads; begins = h.begins; appends = h.appends; finishes = h.finishes }

pub sure_begin : {T : Type 0} (r : Result T WriteFault) (path : List ℕ) (t : TreeContents) → NeverFails t → NeverFails (after_begin r path t)
sure_begin (Ok done) path t h = record { lists = h.lists; reads = h.reads; begins = h.begins; appends = h.appends; finishes = h.finishes }
sure_begin (Err write.Failed) path t h = record { lists = h.lists; reads = h.reads; begins = h.begins; appends = h.appends; finishes = h.finishes }
sure_begin (Err write.Memory) path t h = record { lists = h.lists; reads = h.reads; begins = h.begins; appends = h.appends; finishes = h.finishes }

pub sure_put : {T : Type 0} (r : Result T PutFault) (bytes : List ℕ) (t : TreeContents) → NeverFails t → NeverFails (after_put r bytes t)
sure_put (Ok done) bytes t h = record { lists = h.lists; reads = h.reads; begins = h.begins; appends = h.appends; finishes = h.finishes }
sure_put (Err puts.Failed) bytes t h = record { lists = h.lists; reads = h.reads; begins = h.begins; appends = h.appends; finishes = h.finishes }
sure_put (Err puts.Memory) bytes t h = record { lists = h.lists; reads = h.reads; begins = h.begins; appends = h.appends; finishes = h.finishes }

pub sure_finish : {T : Type 0} (r : Result T WriteFault) (t : TreeContents) → NeverFails t → NeverFails (after_finish r t)
sure_finish (Ok done) t h = record { lists = h.lists; reads = h.reads; begins = h.begins; appends = h.appends; finishes = h.finishes }
sure_finish (Err write.Failed) t h = record { lists = h.lists; reads = h.reads; begins = h.begins; appends = h.appends; finishes = h.finishes }
sure_finish (Err write.Memory) t h = record { lists = h.lists; reads = h.reads; begins = h.begins; appends = h.appends; finishes = h.finishes }

pub sure_write : {T : Type 0} (r : Result T WriteFault) (bytes : List ℕ) (s : Written) → s.writes.failing ≡ [] → (after_write r bytes s).writes.failing ≡ []
sure_write (Ok done) bytes s h = h
sure_write (Err write.Failed) bytes s h = h
sure_write (Err write.Memory) bytes s h = h

-- ---- the calls

pub lists_surely : (old new : SureTree) (folder : List ℕ) (r : Result (List (List ℕ)) TreeFault) → (IsErrOf r tree.Failed → ⊥)
    → ListsInMemory old.tree new.tree folder r → ListsSurely old new folder r
lists_surely old new folder r never h = record {
  lists = record {
    looks = record {
      files_stay = h.lists.looks.files_stay;
      begun_stays = h.lists.looks.begun_stays;
      faults_stay = refl;
      refusals_stay = h.lists.looks.refusals_stay;
    };
    lists_grow = omega arith;
    reads_stay = refl;
  };
  answer = h.answer;
  failed = λ e. absurd (never e);
  faults_stay = λ e. refl;
}

pub reads_surely : (old new : SureTree) (path : List ℕ) (most : ℕ) (r : Result (List ℕ) TreeFault) → (IsErrOf r tree.Failed → ⊥)
    → ReadsInMemory old.tree new.tree path most r → ReadsSurely old new path most r
reads_surely old new path most r never h = record {
  reads = record {
    looks = record {
      files_stay = h.reads.looks.files_stay;
      begun_stays = h.reads.looks.begun_stays;
      faults_stay = refl;
      refusals_stay = h.reads.looks.refusals_stay;
    };
    lists_stay = refl;
    reads_grow = omega arith;
  };
  answer = h.answer;
  failed = λ e. absurd (never e);
  faults_stay = λ e. refl;
}

counts_surely : {T : Type 0} (old new : SureTree) (r : Result T WriteFault) → (IsErrOf r write.Failed → ⊥)
    → CountsWriting tree_members old.tree new.tree r → CountsWriting sure_members old new r
counts_surely old new r never h = record {
  lists_stay = refl;
  reads_stay = refl;
  faults_grow = omega arith;
  refusals_grow = h.refusals_grow;
  failed = λ e. absurd (never e);
  faults_stay = λ e. refl;
  memory = h.memory;
}

pub begins_surely : {T : Type 0} (old new : SureTree) (path : List ℕ) (r : Result T WriteFault) → (IsErrOf r write.Failed → ⊥)
    → BeginsInMemory old.tree new.tree path r → BeginsSurely old new path r
begins_surely old new path r never h =
    record { ok = h.ok; made = h.made; err = h.err; left = h.left; counts = counts_surely old new r never h.counts }

pub finishes_surely : {T : Type 0} (old new : SureTree) (r : Result T WriteFault) → (IsErrOf r write.Failed → ⊥)
    → FinishesInMemory old.tree new.tree r → FinishesSurely old new r
finishes_surely old new r never h =
    record { ended = h.ended; ok = h.ok; left = h.left; counts = counts_surely old new r never h.counts }

pub puts_surely : {T : Type 0} (old new : SureTree) (bytes : List ℕ) (r : Result T PutFault) → (IsErrOf r puts.Failed → ⊥)
    → PutsInMemory old.tree new.tree bytes r → PutsSurely old new bytes r
puts_surely old new bytes r never h = record {
  ok = h.ok;
  err = h.err;
  opened = h.opened;
  closed = h.closed;
  rest = record { begun = h.rest.begun; lists = refl; reads = refl; others = h.rest.others };
  faults_grow = omega arith;
  refusals_grow = h.refusals_grow;
  failed = λ e. absurd (never e);
  faults_stay = λ e. refl;
  memory = h.memory;
}

pub writes_surely : {T : Type 0} (old new : SureSink) (bytes : List ℕ) (r : Result T WriteFault) → (IsErrOf r write.Failed → ⊥)
    → WritesInMemory old.sink new.sink bytes r → WritesSurely old new bytes r
writes_surely old new bytes r never h = record {
  ok = h.ok;
  err = h.err;
  faults_grow = omega arith;
  refusals_grow = h.refusals_grow;
  failed = λ e. absurd (never e);
  faults_stay = λ e. refl;
  memory = h.memory;
}
