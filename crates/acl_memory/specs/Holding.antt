-- A path that is begun is held.
use Rattle.std.specs.Prelude.{ℕ, zero, suc, Bool, true, false, List, [], ◌∷◌, Option, None, Some, is_some, IsSome, IfSome, if◌then◌else◌}
use Rattle.std.specs.Str.{bytes_eq}
use Rattle.std.proofs.Common.{refl, ap}
use Rattle.std.proofs.lemmas.Slice.Eq.{bytes_eq-Decides}
use Rattle.acl_host.specs.Files.{File, file_at, IsHeld}
use Rattle.acl_memory.specs.MemoryFiles.{path_at}
use Rattle.acl_memory.specs.MemoryTrees.{begun_path}

some-either-way : {A : Type 0} (b : Bool) (x : A) (o : Option A) → IsSome o
    → IsSome (if b then Some x else o)
some-either-way true x o h = refl
some-either-way false x o h = h

if-some-weaker : {A : Type 0} {P Q : A → Type 0} (o : Option A) → ((x : A) → P x → Q x) → IfSome o P
    → IfSome o Q
if-some-weaker None f h = tt
if-some-weaker (Some x) f h = f x h

held-at : (i : ℕ) (files : List File) → IfSome (path_at i files) (IsHeld files)
held-at i [] = tt
held-at zero (f ∷ files) =
    ap (λ b. is_some (if b then Some f.1 else file_at files f.0))
    ((bytes_eq-Decides f.0 f.0).1 refl)
held-at (suc i) (f ∷ files) =
    if-some-weaker (path_at i files)
    (λ (path : List ℕ). some-either-way (bytes_eq f.0 path) f.1 (file_at files path))
    (held-at i files)

pub begun_is_held : (begun : Option ℕ) (files : List File)
    → IfSome (begun_path begun files) (IsHeld files)
begun_is_held None files = tt
begun_is_held (Some i) files = held-at i files
