-- What ending a run leaves on the two streams, once it is decided what to tell.
use Rattle.std.specs.Prelude.{◌≡◌, ℕ, List, Option, None, Some, option_map}
use Rattle.acl_text.specs.declared.wholes.Whole.{Whole}
use Rattle.acl_run.specs.Lines.{outside_line}
use Rattle.acl_run.specs.Telling.{Refuses, ReportsOn, TriesLine}
use Rattle.acl_run.specs.Worlds.{Stream}
use Rattle.acl_run.specs.declared.deciding.Decision.{Decision}
use Rattle.acl_run.specs.declared.deciding.Decision.TheVariants as decided
use Rattle.acl_run.specs.declared.endings.Ended.{Ended}
use Rattle.acl_run.specs.declared.endings.Ended.TheVariants as ended
use Rattle.acl_run.specs.declared.endings.Which.TheVariants as which

-- The text that there is to tell, as the code has it.
abbrev pub text_in : Option Whole → Option (List ℕ)
text_in = option_map (λ (w : Whole). w.bytes)

-- The code's text is the answer's, which means what is asked.
pub record IsTextOf {A : Type 0} (text : A → Option (List ℕ)) (Means : A → Type 0) (answer : A) (work : Option Whole)
    : Type 0 where
  pub text_is : text_in work ≡ text answer
  pub means : Means answer

abbrev pub Tells : List ℕ → Option (List ℕ) → Stream → Stream → Stream → Stream → Ended → Type 0
Tells line None o o' e e' result = (result ≡ ended.Done) × (o' ≡ o) × (e' ≡ e)
Tells line (Some text) o o' e e' result = ReportsOn line text o o' e e' result

abbrev pub Finishes : List ℕ → List ℕ → Decision (Option Whole) → Stream → Stream → Stream → Stream → Ended → Type 0
Finishes name usage decided.Usage o o' e e' result = (o' ≡ o) × Refuses usage ended.Usage e e' result
Finishes name usage (decided.Refused fault line) o o' e e' result =
    (o' ≡ o) × Refuses line.bytes (ended.Rejected fault) e e' result
Finishes name usage (decided.Planned work) o o' e e' result =
    Tells (outside_line name which.Out) (text_in work) o o' e e' result
Finishes name usage (decided.Outside w) o o' e e' result =
    (o' ≡ o) × TriesLine (outside_line name w) e e' × (result ≡ ended.Outside w)
Finishes name usage decided.Memory o o' e e' result = (o' ≡ o) × (e' ≡ e) × (result ≡ ended.Memory)
