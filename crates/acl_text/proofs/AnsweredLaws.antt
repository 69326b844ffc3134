-- Steps and questions whose slips and faults have codes that `aclgen` answers.
use Rattle.std.proofs.Common.{Bool, true, false, if◌then◌else◌, List, [], ◌∷◌, Option, None, Some, Result, Ok, Err}
use Rattle.std.specs.Option.{option_or}
use Rattle.acl_text.specs.AnsweredCodes.{EndsAnswered, FailsAnswered, IsAnswered, SlipIsAnswered}
use Rattle.acl_text.specs.Refusals.{first_in}
use Rattle.acl_text.specs.declared.faults.Fault.{Fault}
use Rattle.acl_text.specs.declared.faults.Slip.{Slip}
use Rattle.acl_text.specs.Steps.{◌>>=◌, or_err}

-- both ways of a choice
pub either : {A : Type 0} (Q : A → Type 0) (c : Bool) (x y : A) → Q x → Q y → Q (if c then x else y)
either Q true x y h k = h
either Q false x y h k = k

pub steps_end : {A B : Type 0} (r : Result A Slip) (next : A → Result B Slip) → EndsAnswered r → ((x : A) → EndsAnswered (next x)) → EndsAnswered (r >>= next)
steps_end (Ok x) next h k = k x
steps_end (Err s) next h k = h

pub steps_fail : {A B : Type 0} (r : Result A Fault) (next : A → Result B Fault) → FailsAnswered r → ((x : A) → FailsAnswered (next x)) → FailsAnswered (r >>= next)
steps_fail (Ok x) next h k = k x
steps_fail (Err f) next h k = h

pub missing_fails : {A : Type 0} (f : Fault) (o : Option A) → IsAnswered f.code → FailsAnswered (or_err f o)
missing_fails f None h = h
missing_fails f (Some x) h = tt

pub either_answered : (a b : Option Slip) → SlipIsAnswered a → SlipIsAnswered b → SlipIsAnswered (option_or a b)
either_answered None b h k = k
either_answered (Some s) b h k = h

pub first_answered : {A : Type 0} (question : A → Option Slip) (xs : List A) → ((x : A) → SlipIsAnswered (question x)) → SlipIsAnswered (first_in question xs)
first_answered question [] h = tt
first_answered question (x ∷ xs) h = either_answered (question x) (first_in question xs) (h x) (first_answered question xs h)
