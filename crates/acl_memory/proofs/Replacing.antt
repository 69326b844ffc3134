-- Changes of a list of files: what is held at each path then.
use Rattle.std.proofs.Common.{◌≡◌, ◌≢◌, ℕ, zero, suc, ◌<◌, Bool, true, false, List, [], ◌∷◌, ◌++◌, length, get_or, Option, None, Some, IsSome, is_some, Result, Ok, Err, OnOk, OnErr, option_map, inl, inr, refl, ap, sym, ◌∙◌, cond, arith}
use Rattle.std.proofs.Math.ListN.{set}
use Rattle.std.specs.Str.{bytes_eq}
use Rattle.std.proofs.lemmas.List.{set-get_or}
use Rattle.std.proofs.lemmas.Bool.{cases_Bool, false_from_ne_true}
use Rattle.std.proofs.lemmas.Slice.Eq.{bytes_eq-Decides}
use Rattle.acl_host.specs.Files.{File, file_at, DistinctPaths, SameBut}
use Rattle.acl_memory.specs.MemoryFiles.{put_at, path_at, append_to, append_begun}

pub same_path : (p q : List ℕ) → p ≡ q → bytes_eq p q ≡ true
same_path p q e = (bytes_eq-Decides p q).1 e

pub other_path : (p q : List ℕ) → p ≢ q → bytes_eq p q ≡ false
other_path p q ne = false_from_ne_true (bytes_eq p q) (λ h. ne ((bytes_eq-Decides p q).0 h))

pub not_same : (p q : List ℕ) → bytes_eq p q ≡ false → p ≢ q
not_same p q h e = let t = same_path p q e in cc

pub held-put : (p b : List ℕ) (fs : List File) → file_at (put_at p b fs) p ≡ Some b
held-put p b [] = rw (same_path p p refl) refl
held-put p b (f ∷ fs) = elim (cases_Bool (bytes_eq f.0 p)) [
  | inl h ↦ simp h
  | inr h ↦ simp h (held-put p b fs)
]

pub others-put : (p b : List ℕ) (fs : List File) → SameBut p fs (put_at p b fs)
others-put p b [] q ne = rw (other_path p q (λ e. ne (sym e))) refl
others-put p b (f ∷ fs) q ne = elim (cases_Bool (bytes_eq f.0 p)) [
  | inl h ↦
      let same : f.0 ≡ p = (bytes_eq-Decides f.0 p).0 h in
      let other : bytes_eq f.0 q ≡ false = other_path f.0 q (λ e. ne (sym e ∙ same)) in
      simp (h, other)
  | inr h ↦ rw h (ap (λ o. cond (bytes_eq f.0 q) (Some f.1) o) (others-put p b fs q ne))
]

pub distinct-put : (p b : List ℕ) (fs : List File) → DistinctPaths fs
    → DistinctPaths (put_at p b fs)
distinct-put p b [] d = (refl, tt)
distinct-put p b (f ∷ fs) d = elim (cases_Bool (bytes_eq f.0 p)) [
  | inl h ↦ rw h (d.0, d.1)
  | inr h ↦ rw h (others-put p b fs f.0 (not_same f.0 p h) ∙ d.0, distinct-put p b fs d.1)
]

pub path-held : (i : ℕ) (fs : List File) (p : List ℕ) → path_at i fs ≡ Some p
    → IsSome (file_at fs p)
path-held i [] p e = cc
path-held zero (f ∷ fs) p e = let same : f.0 ≡ p = cc in rw (same_path f.0 p same) refl
path-held (suc i) (f ∷ fs) p e = elim (cases_Bool (bytes_eq f.0 p)) [
  | inl h ↦ rw h refl
  | inr h ↦ rw h (path-held i fs p e)
]

-- the file at the index is the one at its path
pub in-place : (i : ℕ) (fs : List File) (p b : List ℕ) (d : File) → DistinctPaths fs
    → path_at i fs ≡ Some p → set fs i ((get_or fs i d).0, b) ≡ put_at p b fs
in-place i [] p b d u e = cc
in-place zero (f ∷ fs) p b d u e = let same : f.0 ≡ p = cc in rw (same_path f.0 p same) refl
in-place (suc i) (f ∷ fs) p b d u e = elim (cases_Bool (bytes_eq f.0 p)) [
  | inl h ↦
      let same : f.0 ≡ p = (bytes_eq-Decides f.0 p).0 h in
      let held : IsSome (file_at fs p) = path-held i fs p e in
      let none : file_at fs p ≡ None = ap (λ q. file_at fs q) (sym same) ∙ u.0 in
      let no = rw none at held in cc
  | inr h ↦ rw h (ap (λ t. f ∷ t) (in-place i fs p b d u.1 e))
]

pub at-end : (p b : List ℕ) (fs : List File) → file_at fs p ≡ None
    → fs ++ (p, b) ∷ [] ≡ put_at p b fs
at-end p b [] e = refl
at-end p b (f ∷ fs) e = elim (cases_Bool (bytes_eq f.0 p)) [
  | inl h ↦ let n = rw h at e in cc
  | inr h ↦ rw h (ap (λ t. f ∷ t) (at-end p b fs (rw h at e)))
]

pub path-end : (p b : List ℕ) (fs : List File) → path_at (length fs) (fs ++ (p, b) ∷ []) ≡ Some p
path-end p b [] = refl
path-end p b (f ∷ fs) = path-end p b fs

pub path-within : (i : ℕ) (fs : List File) → IsSome (path_at i fs) → i < length fs
path-within i [] h = absurd (let no : is_some {T = List ℕ} None ≡ true = h in cc)
path-within zero (f ∷ fs) h = omega arith
path-within (suc i) (f ∷ fs) h = let r = path-within i fs h in omega arith

pub path-of : (i : ℕ) (fs : List File) (d : File) → i < length fs
    → path_at i fs ≡ Some (get_or fs i d).0
path-of i [] d h = absurd (omega arith)
path-of zero (f ∷ fs) d h = refl
path-of (suc i) (f ∷ fs) d h = path-of i fs d (omega arith)

-- a file that stands keeps its place where another is put
pub path-stays : (i : ℕ) (p b : List ℕ) (fs : List File) → IsSome (path_at i fs)
    → path_at i (put_at p b fs) ≡ path_at i fs
path-stays i p b [] h = absurd (let no : is_some {T = List ℕ} None ≡ true = h in cc)
path-stays zero p b (f ∷ fs) h =
    elim (cases_Bool (bytes_eq f.0 p)) [ inl e ↦ rw e refl | inr e ↦ rw e refl ]
path-stays (suc i) p b (f ∷ fs) h = elim (cases_Bool (bytes_eq f.0 p)) [
  | inl e ↦ rw e refl
  | inr e ↦ rw e (path-stays i p b fs h)
]

pub path-put : (i : ℕ) (fs : List File) (p b q : List ℕ) → path_at i fs ≡ Some q
    → path_at i (put_at p b fs) ≡ Some q
path-put i fs p b q e = path-stays i p b fs (rw e refl) ∙ e

pub held-append : (p b : List ℕ) (fs : List File)
    → file_at (append_to p b fs) p ≡ option_map (λ (old : List ℕ). old ++ b) (file_at fs p)
held-append p b [] = refl
held-append p b (f ∷ fs) = elim (cases_Bool (bytes_eq f.0 p)) [
  | inl h ↦ simp h
  | inr h ↦ simp h (held-append p b fs)
]

pub others-append : (p b : List ℕ) (fs : List File) → SameBut p fs (append_to p b fs)
others-append p b [] q ne = refl
others-append p b (f ∷ fs) q ne = elim (cases_Bool (bytes_eq f.0 p)) [
  | inl h ↦
      let same : f.0 ≡ p = (bytes_eq-Decides f.0 p).0 h in
      let other : bytes_eq f.0 q ≡ false = other_path f.0 q (λ e. ne (sym e ∙ same)) in
      simp (h, other)
  | inr h ↦ rw h (ap (λ o. cond (bytes_eq f.0 q) (Some f.1) o) (others-append p b fs q ne))
]

pub distinct-append : (p b : List ℕ) (fs : List File) → DistinctPaths fs
    → DistinctPaths (append_to p b fs)
distinct-append p b [] d = tt
distinct-append p b (f ∷ fs) d = elim (cases_Bool (bytes_eq f.0 p)) [
  | inl h ↦ rw h (d.0, d.1)
  | inr h ↦ rw h (others-append p b fs f.0 (not_same f.0 p h) ∙ d.0, distinct-append p b fs d.1)
]

-- appending keeps each path at its index
pub path-append : (i : ℕ) (p b : List ℕ) (fs : List File)
    → path_at i (append_to p b fs) ≡ path_at i fs
path-append i p b [] = refl
path-append zero p b (f ∷ fs) = elim (cases_Bool (bytes_eq f.0 p)) [
  | inl h ↦ rw h refl
  | inr h ↦ rw h refl
]
path-append (suc i) p b (f ∷ fs) = elim (cases_Bool (bytes_eq f.0 p)) [
  | inl h ↦ rw h refl
  | inr h ↦ rw h (path-append i p b fs)
]

-- appending is a write at the index of the path
pub append-set : (i : ℕ) (fs : List File) (p b : List ℕ) (d : File) → DistinctPaths fs
    → path_at i fs ≡ Some p → set fs i ((get_or fs i d).0, (get_or fs i d).1 ++ b)
    ≡ append_to p b fs
append-set i [] p b d u e = cc
append-set zero (f ∷ fs) p b d u e = let same : f.0 ≡ p = cc in rw (same_path f.0 p same) refl
append-set (suc i) (f ∷ fs) p b d u e = elim (cases_Bool (bytes_eq f.0 p)) [
  | inl h ↦
      let same : f.0 ≡ p = (bytes_eq-Decides f.0 p).0 h in
      let held : IsSome (file_at fs p) = path-held i fs p e in
      let none : file_at fs p ≡ None = ap (λ q. file_at fs q) (sym same) ∙ u.0 in
      let no = rw none at held in cc
  | inr h ↦ rw h (ap (λ t. f ∷ t) (append-set i fs p b d u.1 e))
]

-- a file that was read at the index and written there again
pub written-in-place : (i : ℕ) (fs : List File) (p b : List ℕ) (was now : File) → DistinctPaths fs
    → path_at i fs ≡ Some p → was ≡ get_or fs i was → now ≡ (was.0, b)
    → set fs i now ≡ put_at p b fs
written-in-place i fs p b was now d e same is =
    let name : was.0 ≡ (get_or fs i was).0 = ap (λ (f : File). f.0) same in
    ap (λ (f : File). set fs i f) (is ∙ ap (λ (q : List ℕ). (q, b)) name)
    ∙ in-place i fs p b was d e

pub appended-in-place : (i : ℕ) (fs : List File) (p b : List ℕ) (was now : File) → DistinctPaths fs
    → path_at i fs ≡ Some p → was ≡ get_or fs i was → now ≡ (was.0, was.1 ++ b)
    → set fs i now ≡ append_to p b fs
appended-in-place i fs p b was now d e same is =
    ap (λ (f : File). set fs i f) (is ∙ ap (λ (f : File). (f.0, f.1 ++ b)) same)
    ∙ append-set i fs p b was d e

-- the same where the path of the index is looked up
pub appended-at : (i : ℕ) (fs : List File) (b : List ℕ) (was now : File) → DistinctPaths fs
    → IsSome (path_at i fs) → was ≡ get_or fs i was → now ≡ (was.0, was.1 ++ b)
    → set fs i now ≡ append_begun (path_at i fs) b fs
appended-at i fs b was now d there same is =
    let at : path_at i fs ≡ Some (get_or fs i was).0 = path-of i fs was (path-within i fs there) in
    rw at (appended-in-place i fs (get_or fs i was).0 b was now d at same is)

distinct-begun : (o : Option (List ℕ)) (b : List ℕ) (fs : List File) → DistinctPaths fs
    → DistinctPaths (append_begun o b fs)
distinct-begun None b fs d = d
distinct-begun (Some p) b fs d = distinct-append p b fs d

pub distinct-appended : {T E : Type 0} (r : Result T E) (i : ℕ) (fs : List File) (b : List ℕ)
    (was now : File) → DistinctPaths fs → IsSome (path_at i fs) → was ≡ get_or fs i was
    → OnOk r (now ≡ (was.0, was.1 ++ b)) → OnErr r (now ≡ was) → DistinctPaths (set fs i now)
distinct-appended (Ok x) i fs b was now d there same ok err =
    rw (appended-at i fs b was now d there same ok) (distinct-begun (path_at i fs) b fs d)
distinct-appended (Err x) i fs b was now d there same ok err =
    let stays : set fs i now ≡ fs = ap (λ (f : File). set fs i f) (err ∙ same)
    ∙ set-get_or fs i was in
    rw stays d

-- a file that was added at the end
pub added-at-end : (fs : List File) (p b : List ℕ) (f : File) → f ≡ (p, b) → file_at fs p ≡ None
    → fs ++ f ∷ [] ≡ put_at p b fs
added-at-end fs p b f is none = ap (λ (g : File). fs ++ g ∷ []) is ∙ at-end p b fs none

pub distinct-pushed : (t : Bool) (fs : List File) (p b : List ℕ) (f : File) → f ≡ (p, b)
    → file_at fs p ≡ None → DistinctPaths fs → DistinctPaths (cond t (fs ++ f ∷ []) fs)
distinct-pushed true fs p b f is none d = rw (added-at-end fs p b f is none) (distinct-put p b fs d)
distinct-pushed false fs p b f is none d = d
