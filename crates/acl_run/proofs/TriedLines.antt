-- A write whose refusal is passed over.
use Rattle.std.proofs.Common.{ℕ, List, ◌++◌, length, Option, None, Some, Result, Ok, Err, refl, ap, sym, subst}
use Rattle.std.proofs.lemmas.List.{append-nil}
use Rattle.std.proofs.Math.Seq.{take-length}
use Rattle.acl_host.specs.declared.sinks.WriteFault.{WriteFault}
use Rattle.acl_host.specs.declared.sinks.WriteFault.TheVariants.{Failed, Memory}
use Rattle.acl_host.specs.Files.{BothTell}
use Rattle.acl_host.specs.Outside.{Writes, AddsFront}
use Rattle.acl_run.specs.Told.{Got}
use Rattle.acl_run.specs.Telling.{TriesLine}

pub whole-front : (line : List ℕ) (old new : Option (List ℕ)) → Got line old new → BothTell old new (AddsFront line)
whole-front line None new e = e
whole-front line (Some b) new e =
    let P : Option (List ℕ) → Type 0 = λ n. BothTell (Some b) n (AddsFront line) in
    subst P (sym e) (length line, ap (λ x. b ++ x) (sym (take-length line)))

pub no-front : (line : List ℕ) (old : Option (List ℕ)) → BothTell old old (AddsFront line)
no-front line None = refl
no-front line (Some b) = (0, sym (append-nil b))

pub tried : {S T : Type 0} {told : S → Option (List ℕ)} {faults refusals : S → ℕ} {old new : S} {line : List ℕ} (r : Result T WriteFault)
    → Writes told faults refusals old new line r → TriesLine line (record { told = told old; faults = faults old; refusals = refusals old })
    (record { told = told new; faults = faults new; refusals = refusals new })
tried {told = told} {old = old} {new = new} {line = line} (Ok x) p = record {
  tried = record {
    front = whole-front line (told old) (told new) p.ok;
    whole = λ _ _. p.ok;
  };
  counts = record { faults_grow = p.faults_grow; refusals_grow = p.refusals_grow };
}
tried (Err Failed) p = record {
  tried = record {
    front = p.err;
    whole = λ no_fault _. absurd (no_fault (p.failed refl));
  };
  counts = record { faults_grow = p.faults_grow; refusals_grow = p.refusals_grow };
}
tried (Err Memory) p = record {
  tried = record {
    front = p.err;
    whole = λ _ no_refusal. absurd (no_refusal (p.memory refl));
  };
  counts = record { faults_grow = p.faults_grow; refusals_grow = p.refusals_grow };
}
