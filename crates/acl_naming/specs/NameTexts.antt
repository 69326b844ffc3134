-- How a contract sees a name that stands in its place or in memory of its own.
use Rattle.std.specs.Prelude.{ℕ, List}
use Rattle.acl_naming.specs.declared.name_texts.KeptName.{KeptName}
use Rattle.acl_naming.specs.declared.name_texts.KeptName.TheVariants.{Short, Long}

abbrev pub bytes_of : KeptName → List ℕ
bytes_of (Short name) = name
bytes_of (Long name) = name
