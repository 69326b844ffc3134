-- An output into memory: what it holds, and what a put into it is.
use Rattle.std.specs.Prelude.{ℕ, Bool, List, Some, Result}
use Rattle.acl_text.specs.Output.{PutsBy}
use Rattle.acl_text.specs.declared.output.PutFault.{PutFault}

-- Bytes that were put together in memory: whether more may be put, and how often memory was wanted.
pub record Gathered : Type 0 where
  pub bytes : List ℕ
  pub is_open : Bool
  pub refusals : ℕ

-- A put into it: all bytes are told, nothing fails, and there is no rest.
abbrev pub GatheredPuts : {T : Type 0} → Gathered → Gathered → List ℕ → Result T PutFault → Type 0
GatheredPuts old new text result =
    PutsBy (λ (w : Gathered). Some w.bytes) (λ w. 0) (λ w. w.refusals) (λ w. w.is_open)
    (λ x y. Unit {0}) old new text result
