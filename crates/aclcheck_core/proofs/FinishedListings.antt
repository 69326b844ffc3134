-- A run that ends with a failed listing was decided so.
use Rattle.std.proofs.Common.{◌≡◌, ℕ, inl, inr, List, Option, None, Some, ap, sym, subst, ◌∙◌}
use Rattle.acl_text.specs.declared.wholes.Whole.{Whole}
use Rattle.acl_run.specs.Finishing.{Finishes}
use Rattle.acl_run.specs.Lines.{outside_line}
use Rattle.acl_run.specs.Telling.{RefusesSo, Reports}
use Rattle.acl_run.specs.Worlds.{Stream}
use Rattle.acl_run.specs.declared.deciding.Decision.{Decision}
use Rattle.acl_run.specs.declared.deciding.Decision.TheVariants as decided
use Rattle.acl_run.specs.declared.endings.Ended.{Ended}
use Rattle.acl_run.specs.declared.endings.Ended.TheVariants as ended
use Rattle.acl_run.specs.declared.endings.Which.{Which}
use Rattle.acl_run.specs.declared.endings.Which.TheVariants as which

abbrev Lists : Ended → Type 0
Lists result = result ≡ ended.Outside which.List

refused : (line : List ℕ) (wanted : Ended) (e e' : Stream) (result : Ended) → (wanted ≡ ended.Outside which.List → ⊥) → RefusesSo line wanted e e' result
    → Lists result → ⊥
refused line wanted e e' result differs (inl h) is = differs (sym h.0 ∙ is)
refused line wanted e e' result differs (inr (inl h)) is = other (sym h.0 ∙ is)
  where
    other : ended.Outside which.Err ≡ ended.Outside which.List → ⊥
    other x = cc
refused line wanted e e' result differs (inr (inr h)) is = other (sym h.0 ∙ is)
  where
    other : ended.Memory ≡ ended.Outside which.List → ⊥
    other x = cc

pub decided-so : (name usage : List ℕ) (decision : Decision (Option Whole)) (o o' e e' : Stream) (result : Ended) → Finishes name usage decision o o' e e' result
    → Lists result → decision ≡ decided.Outside which.List
decided-so name usage decided.Usage o o' e e' result h is = absurd (refused usage ended.Usage e e' result other h.1.so is)
  where
    other : ended.Usage ≡ ended.Outside which.List → ⊥
    other x = cc
decided-so name usage (decided.Refused fault line) o o' e e' result h is = absurd (refused line.bytes (ended.Rejected fault) e e' result other h.1.so is)
  where
    other : ended.Rejected fault ≡ ended.Outside which.List → ⊥
    other x = cc
decided-so name usage (decided.Planned None) o o' e e' result h is = absurd (other (sym h.0 ∙ is))
  where
    other : ended.Done ≡ ended.Outside which.List → ⊥
    other x = cc
decided-so name usage (decided.Planned (Some text)) o o' e e' result h is =
    absurd (subst (Reports (outside_line name which.Out) text.bytes o o' e e') is h.so)
decided-so name usage (decided.Outside w) o o' e e' result h is = ap decided.Outside (same (sym h.2 ∙ is))
  where
    same : {v : Which} → ended.Outside w ≡ ended.Outside v → w ≡ v
    same x = cc
decided-so name usage decided.Memory o o' e e' result h is = absurd (other (sym h.2 ∙ is))
  where
    other : ended.Memory ≡ ended.Outside which.List → ⊥
    other x = cc
