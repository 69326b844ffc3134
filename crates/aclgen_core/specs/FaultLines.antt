-- The program's name, and the lines of standard error, beside that of a fault, which begin with it or say how it is
-- called.
use Rattle.std.specs.Prelude.{ℕ, List, codes}

abbrev pub program_name : List ℕ
program_name = codes "aclgen"

abbrev pub usage_line : List ℕ
usage_line = codes "usage: aclgen --policy_file P --definitions_directory D --output_directory O [--date YYYY-MM-DD] [--exp_info N] [--shade_check]\n"
