-- Parts that are read one behind the other.
use Rattle.std.specs.Prelude.{Option, option_and_then}

-- The next part, where the one before was read; else nothing.
infixl 10 ◌>>=◌
abbrev pub ◌>>=◌ : {A B : Type 0} → Option A → (A → Option B) → Option B
o >>= f = option_and_then f o
