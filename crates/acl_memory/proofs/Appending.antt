-- What a put, and a begin, leave of a tree in memory.
use Rattle.std.proofs.Common.{◌≡◌, ℕ, List, [], ◌++◌, Option, None, Some, IsSome, IfSome, Result, Ok, Err, OnOk, OnErr, IsErrOf, option_map, refl, arith}
use Rattle.acl_text.specs.declared.output.PutFault.{PutFault}
use Rattle.acl_host.specs.Files.{File, told_of, SameOrNone, OthersStay}
use Rattle.acl_memory.specs.MemoryFiles.{put_at, path_at, append_begun}
use Rattle.acl_memory.specs.MemoryTrees.{contents, begun_path, begun_of, PutsInMemory, BeginsInMemory}
use Rattle.acl_memory.specs.declared.mem_trees.MemTree.{MemTree}
use Rattle.acl_host.specs.declared.sinks.WriteFault.{WriteFault}
use Rattle.acl_memory.proofs.Replacing.{held-put, others-put, held-append, others-append, path-append, path-stays}

abbrev done : Result (Unit {0}) PutFault
done = Ok tt

not-refused : {e : PutFault} → IsErrOf done e → ⊥
not-refused h = cc

pub path-begun : (i : ℕ) (o : Option (List ℕ)) (b : List ℕ) (fs : List File)
    → path_at i (append_begun o b fs) ≡ path_at i fs
path-begun i None b fs = refl
path-begun i (Some p) b fs = path-append i p b fs

told-append : (o : Option (List ℕ)) (b : List ℕ) (fs : List File) → IsSome o
    → told_of (Some (append_begun o b fs)) o
    ≡ option_map (λ (t : List ℕ). t ++ b) (told_of (Some fs) o)
told-append None b fs h = cc
told-append (Some p) b fs h = held-append p b fs

same-begun : (o : Option (List ℕ)) → SameOrNone o o
same-begun None = tt
same-begun (Some p) = refl

others-begun : (o : Option (List ℕ)) (b : List ℕ) (fs : List File)
    → OthersStay o fs (append_begun o b fs)
others-begun None b fs = λ q. refl
others-begun (Some p) b fs = others-append p b fs

-- the begun file stands where it stood, also where a file is put
pub begun-stays : (begun : Option ℕ) (p b : List ℕ) (fs : List File)
    → IfSome begun (λ i. IsSome (path_at i fs))
    → begun_path begun (put_at p b fs) ≡ begun_path begun fs
begun-stays None p b fs h = refl
begun-stays (Some i) p b fs h = path-stays i p b fs h

pub stands-put : {T E : Type 0} (r : Result T E) (begun : Option ℕ) (p b : List ℕ)
    (fs new : List File)
    → IfSome begun (λ i. IsSome (path_at i fs)) → OnOk r (new ≡ put_at p b fs)
    → OnErr r (new ≡ fs) → IfSome begun (λ i. IsSome (path_at i new))
stands-put (Ok x) None p b fs new h ok err = tt
stands-put (Ok x) (Some i) p b fs new h ok err = rw (ok, path-stays i p b fs h) h
stands-put (Err e) begun p b fs new h ok err = rw err h

pub stands-appended : {T E : Type 0} (r : Result T E) (i : ℕ) (b : List ℕ) (fs new : List File)
    → IsSome (path_at i fs) → OnOk r (new ≡ append_begun (path_at i fs) b fs)
    → OnErr r (new ≡ fs) → IsSome (path_at i new)
stands-appended (Ok x) i b fs new h ok err = rw (ok, path-begun i (path_at i fs) b fs) h
stands-appended (Err e) i b fs new h ok err = rw err h

pub puts-held : (old new : MemTree) (b : List ℕ) → IsSome (begun_of old)
    → (contents new).files ≡ append_begun (begun_of old) b (contents old).files
    → begun_of new ≡ begun_of old
    → new.faults ≡ old.faults → new.refusals ≡ old.refusals → new.list_faults ≡ old.list_faults
    → new.read_faults ≡ old.read_faults → PutsInMemory old new b done
puts-held old new b is files begun faults refusals lists reads = record {
  ok = rw (begun, files) (told-append (begun_of old) b (contents old).files is);
  err = tt;
  opened = rw begun is;
  closed = tt;
  rest = record {
    begun = rw begun (same-begun (begun_of old));
    lists = lists;
    reads = reads;
    others = rw files (others-begun (begun_of old) b (contents old).files);
  };
  faults_grow = omega arith;
  refusals_grow = omega arith;
  failed = λ e. absurd (not-refused e);
  faults_stay = λ e. faults;
  memory = λ e. absurd (not-refused e);
}

abbrev begun : Result (Unit {0}) WriteFault
begun = Ok tt

not-failed : {e : WriteFault} → IsErrOf begun e → ⊥
not-failed h = cc

pub begins-held : (old new : MemTree) (p : List ℕ)
    → (contents new).files ≡ put_at p [] (contents old).files → begun_of new ≡ Some p
    → new.faults ≡ old.faults → new.refusals ≡ old.refusals → new.list_faults ≡ old.list_faults
    → new.read_faults ≡ old.read_faults → BeginsInMemory old new p begun
begins-held old new p files is faults refusals lists reads = record {
  ok = is;
  made = rw files (record {
    empty = held-put p [] (contents old).files;
    others = others-put p [] (contents old).files;
  });
  err = tt;
  left = tt;
  counts = record {
    lists_stay = lists;
    reads_stay = reads;
    faults_grow = omega arith;
    refusals_grow = omega arith;
    failed = λ e. absurd (not-failed e);
    faults_stay = λ e. faults;
    memory = λ e. absurd (not-failed e);
  };
}
