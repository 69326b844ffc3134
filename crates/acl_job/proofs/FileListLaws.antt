-- One file, and the others behind it.
use Prim.Native.Nat.{zero, suc}
use Rattle.std.proofs.Common.{◌≡◌, ℕ, List, [], ◌∷◌, length, take, Option, None, Some, Result, Ok, Err, refl, sym, subst, ◌∙◌, arith}
use Rattle.std.proofs.lemmas.List.{take_all}
use Rattle.acl_host.specs.Files.{File, BothTell}
use Rattle.acl_host.specs.Outside.{CountsWriting, TreeMembers}
use Rattle.acl_host.specs.Writing.{HoldsText, WritesFile}
use Rattle.acl_host.specs.declared.sinks.WriteFault.{WriteFault}
use Rattle.acl_job.specs.FileLists.{IsApart, PathsDiffer, HoldsAll, SameButAt, HoldsTexts, Interrupted, WritesFiles}

-- ---- what is told, by two steps

pub both-go-on : {A : Type 0} (P Q R : A → A → Type 0) (a b c : Option A) → ((x y z : A) → P x y → Q y z → R x z)
    → BothTell a b P → BothTell b c Q → BothTell a c R
both-go-on P Q R None b c f p q = subst (λ o. BothTell o c Q) p q
both-go-on P Q R (Some x) None c f p q = absurd p
both-go-on P Q R (Some x) (Some y) None f p q = absurd q
both-go-on P Q R (Some x) (Some y) (Some z) f p q = f x y z p q

pub both-more : {A : Type 0} (P Q : A → A → Type 0) (a b : Option A) → ((x y : A) → P x y → Q x y) → BothTell a b P → BothTell a b Q
both-more P Q None b f p = p
both-more P Q (Some x) None f p = absurd p
both-more P Q (Some x) (Some y) f p = f x y p

-- ---- files

apart-take : (n : ℕ) (q : List ℕ) (ts : List File) → IsApart q ts → IsApart q (take n ts)
apart-take zero q ts h = tt
apart-take (suc n) q [] h = tt
apart-take (suc n) q (t ∷ ts) h = (h.0, apart-take n q ts h.1)

holds-cons : (t : File) (ts f0 f1 f2 : List File) → IsApart t.0 ts → HoldsText t.0 t.1 f0 f1 → HoldsTexts ts f1 f2 → HoldsTexts (t ∷ ts) f0 f2
holds-cons t ts f0 f1 f2 apart first more = record {
  held = (more.others t.0 apart ∙ first.held, more.held);
  others = λ q h. more.others q h.1 ∙ first.others q h.0;
}

stops-cons : (t : File) (ts f0 f1 f2 : List File) → IsApart t.0 ts → HoldsText t.0 t.1 f0 f1 → Interrupted ts f1 f2 → Interrupted (t ∷ ts) f0 f2
stops-cons t ts f0 f1 f2 apart first more = (
  suc more.0,
  record {
    held = (more.1.others t.0 (apart-take (suc more.0) t.0 ts apart) ∙ first.held, more.1.held);
    others = λ q h. more.1.others q h.1 ∙ first.others q h.0;
  },
)

-- Files that are all written were not interrupted before the end.
pub whole-stops : (ts f0 f1 : List File) → HoldsTexts ts f0 f1 → Interrupted ts f0 f1
whole-stops ts f0 f1 h =
    let all : take (length ts) ts ≡ ts = take_all (length ts) ts (omega arith) in
    let past : take (suc (length ts)) ts ≡ ts = take_all (suc (length ts)) ts (omega arith) in (
      length ts,
      record {
        held = subst (λ xs. HoldsAll xs f1) (sym all) h.held;
        others = subst (λ xs. SameButAt xs f0 f1) (sym past) h.others;
      },
    )

-- ---- calls

counts-go-on : {S T U : Type 0} (tree : TreeMembers S) (s0 s1 s2 : S) (x : T) (r : Result U WriteFault)
    → CountsWriting {T = T} tree s0 s1 (Ok x) → CountsWriting tree s1 s2 r
    → CountsWriting tree s0 s2 r
counts-go-on tree s0 s1 s2 x r p q = record {
  lists_stay = q.lists_stay ∙ p.lists_stay;
  reads_stay = q.reads_stay ∙ p.reads_stay;
  faults_grow = omega (arith, p.faults_grow, q.faults_grow);
  refusals_grow = omega (arith, p.refusals_grow, q.refusals_grow);
  failed = λ e h. omega (arith, p.faults_grow, q.failed e h);
  faults_stay = λ e. q.faults_stay e ∙ p.faults_stay refl;
  memory = λ e h. omega (arith, p.refusals_grow, q.memory e h);
}

pub writes-cons : {S T U : Type 0} (tree : TreeMembers S) (s0 s1 s2 : S) (t : File) (ts : List File) (x : T) (r : Result U WriteFault) → tree.begun s0 ≡ None → PathsDiffer (t ∷ ts)
    → WritesFile {T = T} tree s0 s1 t.0 t.1 (Ok x)
    → WritesFiles tree s1 s2 ts r
    → WritesFiles tree s0 s2 (t ∷ ts) r
writes-cons tree s0 s1 s2 t ts x (Ok y) none differ p q = record {
  ended = q.ended ∙ p.ended ∙ sym none;
  ok = both-go-on (HoldsText t.0 t.1) (HoldsTexts ts) (HoldsTexts (t ∷ ts)) (tree.files s0) (tree.files s1) (tree.files s2) (λ a b c. holds-cons t ts a b c differ.0) p.ok q.ok;
  err = tt;
  counts = counts-go-on tree s0 s1 s2 x (Ok y) p.counts q.counts;
}
writes-cons tree s0 s1 s2 t ts x (Err e) none differ p q = record {
  ended = q.ended ∙ p.ended ∙ sym none;
  ok = tt;
  err = both-go-on (HoldsText t.0 t.1) (Interrupted ts) (Interrupted (t ∷ ts)) (tree.files s0) (tree.files s1) (tree.files s2) (λ a b c. stops-cons t ts a b c differ.0) p.ok q.err;
  counts = counts-go-on tree s0 s1 s2 x (Err e) p.counts q.counts;
}
