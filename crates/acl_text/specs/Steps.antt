-- Steps that may end in an error, one behind the other.
use Rattle.std.specs.Prelude.{Option, None, Some, Result, Ok, Err}

-- The next step, where the one before gave a value; else its error.
infixl 10 ◌>>=◌
abbrev pub ◌>>=◌ : {A B E : Type 0} → Result A E → (A → Result B E) → Result B E
(Ok x) >>= f = f x
(Err e) >>= f = Err e

-- The value that is there, or the error.
abbrev pub or_err : {A E : Type 0} → E → Option A → Result A E
or_err e None = Err e
or_err e (Some x) = Ok x
