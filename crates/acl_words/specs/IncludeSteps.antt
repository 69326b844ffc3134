-- What is read of a file whose lines are spliced in.
use Rattle.std.specs.Prelude.{ℕ, List, take, option_map, Result}
use Rattle.acl_text.specs.declared.faults.Fault.{Fault}
use Rattle.acl_text.specs.Steps.{or_err}
use Rattle.acl_host.specs.Files.{File, file_at}

-- The bytes of a file, of a long one a byte more than a file may have.
abbrev pub front : List ℕ → List ℕ
front bytes = take 4194305 bytes

-- The front of the file at the path; or this fault, where there is none.
abbrev pub front_at : Fault → List File → List ℕ → Result (List ℕ) Fault
front_at missing files path = or_err missing (option_map front (file_at files path))
