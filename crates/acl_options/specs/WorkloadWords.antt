-- The words of the workload: `--workload`, and the number of its terms.
use Rattle.std.specs.Prelude.{◌≡◌, ◌≤◌, ℕ, if◌then◌else◌, List, [], ◌∷◌, codes, Option, None}
use Rattle.std.specs.Str.{bytes_eq}
use Rattle.acl_packet.specs.Decimals.{IsNumber}
use Rattle.acl_options.specs.ComputableCommands.{count_in}

-- The words are these two, and the second is a number from 1 to 1024. The words are those behind the program's name.
pub record IsWorkload (words : List (List ℕ)) (n : ℕ) : Type 0 where
  pub text : List ℕ
  pub words_are : words ≡ codes "--workload" ∷ text ∷ []
  pub number : IsNumber text n
  pub least : 1 ≤ n
  pub most : n ≤ 1024

-- ---- the same, as a function

-- The number of the workload that the words ask for.
abbrev pub workload_of : List (List ℕ) → Option ℕ
workload_of (name ∷ text ∷ []) =
    if bytes_eq name (codes "--workload") then count_in 1024 text else None
workload_of _ = None
