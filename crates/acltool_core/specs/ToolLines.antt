-- The lines that acltool writes on standard error about itself.
use Rattle.std.specs.Prelude.{ℕ, List, codes}

abbrev pub program_name : List ℕ
program_name = codes "acltool"

abbrev pub usage_line : List ℕ
usage_line = codes "usage: acltool COMMAND OPTIONS\n"
