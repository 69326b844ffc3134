-- The lines of standard error on what failed outside the program, which begin with its name.
use Rattle.std.specs.Prelude.{ℕ, List, [], ◌++◌, codes}
use Rattle.acl_run.specs.declared.endings.Which.{Which}
use Rattle.acl_run.specs.declared.endings.Which.TheVariants as which

abbrev pub outside_line : List ℕ → Which → List ℕ
outside_line name which.List = name ++ codes ": list failed\n"
outside_line name which.Read = name ++ codes ": read failed\n"
outside_line name which.Write = name ++ codes ": write failed\n"
outside_line name which.Out = name ++ codes ": output failed\n"
outside_line name which.Err = []
outside_line name which.Clock = name ++ codes ": clock failed\n"
