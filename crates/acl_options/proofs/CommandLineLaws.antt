-- What clap's answers make of the words.
use Rattle.std.specs.Prelude.{◌&&◌, IfOk}
use Rattle.std.proofs.Common.{IsTrue, ◌↔◌, ◌≡◌, ◌≢◌, inl, inr, ℕ, Bool, true, false, List, [], ◌∷◌, Option, None, Some, Result, Ok, refl, ap, sym, ◌∙◌, subst}
use Rattle.std.proofs.lemmas.Bool.{false≢true}
use Rattle.clap.proofs.OnLiterals.{clap_on_literals}
use Rattle.clap.specs.Words.{App, HasKind, IsAmong, Kinds, Row, app_of, fault_of, is_simple, is_simple_and_free, kind_of, matches_of}
use Rattle.clap.specs.declared.builder.command.Command.{Command}
use Rattle.clap.specs.declared.error.Error.{Error}
use Rattle.clap.specs.declared.error.kind.ErrorKind.{ErrorKind}
use Rattle.clap.specs.declared.error.kind.ErrorKind.TheVariants.{OutOfMemory}
use Rattle.clap.specs.declared.parser.matches.ArgMatches.{ArgMatches}
use Rattle.acl_options.specs.CheckCommands.{policy_command, text_command}
use Rattle.acl_options.specs.CodeViews.{rows_found}
use Rattle.acl_options.specs.CommandLines.{command}
use Rattle.acl_options.specs.ComputableCommands.{rows_in}
use Rattle.acl_options.specs.ToolCommands.{dead, speedway, standard}

pub free : is_simple_and_free command ≡ true
unfolding clap_on_literals
free = refl

pub speedway_free : is_simple_and_free speedway ≡ true
unfolding clap_on_literals
speedway_free = refl

pub dead_free : is_simple_and_free dead ≡ true
unfolding clap_on_literals
dead_free = refl

pub standard_free : is_simple_and_free standard ≡ true
unfolding clap_on_literals
standard_free = refl

pub policy_free : is_simple_and_free policy_command ≡ true
unfolding clap_on_literals
policy_free = refl

pub text_free : is_simple_and_free text_command ≡ true
unfolding clap_on_literals
text_free = refl

pub simple_too : (app : App) → is_simple_and_free app ≡ true → is_simple app ≡ true
simple_too app e = both (is_simple app) _ e
  where
    both : (a b : Bool) → (a && b) ≡ true → a ≡ true
    both true b e = refl
    both false b e = e

-- clap took the words and found these rows
pub when_taken : (app : App) (words : List (List ℕ)) (rows : List Row) → fault_of app words ≡ [] → rows ≡ matches_of app words
    → Some rows ≡ rows_in app words
when_taken app words rows none found = rw none (ap Some found)

refused : (app : App) (words : List (List ℕ)) (k : ErrorKind) (kinds : Kinds) → IsAmong k kinds → fault_of app words ≡ kinds → None ≡ rows_in app words
refused app words k [] among e = absurd among
refused app words k (x ∷ xs) among e = rw e refl

-- clap refused the words, and not for memory
pub when_refused : (app : App) (words : List (List ℕ)) (error : Error) → kind_of error ≢ OutOfMemory → HasKind (fault_of app words) error
    → None ≡ rows_in app words
when_refused app words error other (inl memory) = absurd (other memory)
when_refused app words error other (inr among) = refused app words (kind_of error) (fault_of app words) among refl

pub not_memory : (b : Bool) (k : ErrorKind) → (IsTrue b ↔ (k ≡ OutOfMemory)) → b ≡ false → k ≢ OutOfMemory
not_memory b k is differs = λ e. false≢true (sym differs ∙ is.1 e)

-- what clap found is that of the command which was made
pub found_for : {E F : Type 0} (words : List (List ℕ)) (app : App) (made : Command) (given : Result Command E) (found : Result (Option ArgMatches) F)
    → given ≡ Ok made → IfOk found (λ f. rows_found f ≡ rows_in (app_of made) words) → IfOk given (λ c. app_of c ≡ app)
    → IfOk found (λ f. rows_found f ≡ rows_in app words)
found_for {E} {F} words app made given found is rows known =
    subst (λ (a : App). IfOk found (λ f. rows_found f ≡ rows_in a words))
    (subst (λ (r : Result Command E). IfOk r (λ c. app_of c ≡ app)) is known) rows
