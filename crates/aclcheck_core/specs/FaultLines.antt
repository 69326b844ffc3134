-- The program's name, and the lines of standard error, beside that of a fault, which begin with it or say how it is
-- called.
use Rattle.std.specs.Prelude.{ℕ, List, codes}

abbrev pub program_name : List ℕ
program_name = codes "aclcheck"

abbrev pub usage_line : List ℕ
usage_line = codes "usage: aclcheck COMMAND OPTIONS\n"
