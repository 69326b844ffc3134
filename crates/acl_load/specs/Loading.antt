-- The naming files of a folder: what they define together, or the first fault.
use Rattle.std.specs.Prelude.{◌≡◌, ℕ, ◌+◌, Bool, nat_lt, nat_eq, if◌then◌else◌, List, [], ◌∷◌, ◌++◌, length, filter, map, codes, None, Result, Ok, Err}
use Rattle.std.specs.List.{ends_with}
use Rattle.acl_text.specs.declared.faults.Code.TheVariants.{TooLong, TooManyFiles}
use Rattle.acl_text.specs.declared.faults.Fault.{Fault}
use Rattle.acl_text.specs.declared.faults.Slip.{Slip}
use Rattle.acl_text.specs.Steps.{◌>>=◌}
use Rattle.acl_text.specs.Refusals.{file_fault, slip_fault}
use Rattle.acl_host.specs.Files.{File, join_path, names_under}
use Rattle.acl_host.specs.WholeFiles.{whole_file, listing}
use Rattle.acl_naming.specs.Definitions.{Definition, Naming}
use Rattle.acl_naming.specs.Checking.{undefined_of, HasNoCycle, IsSlipOf}
use Rattle.acl_naming.specs.NamingFiles.{file_added}
use Rattle.acl_naming.specs.declared.item_words.NamingKind.{NamingKind}
use Rattle.acl_naming.specs.declared.item_words.NamingKind.TheVariants.{Networks, Services}

-- A naming file of networks ends in `.net`, one of services in `.svc`.
abbrev pub is_net : List ℕ → Bool
is_net name = ends_with nat_eq name (codes ".net")

abbrev pub is_svc : List ℕ → Bool
is_svc name = ends_with nat_eq name (codes ".svc")

-- The paths of the naming files among the names in a folder, in the order in which they are read: networks before
-- services, each in the order of the names. Files are numbered in this order, from 0.
abbrev pub net_paths : List ℕ → List (List ℕ) → List (List ℕ)
net_paths folder names = map (join_path folder) (filter is_net names)

abbrev pub svc_paths : List ℕ → List (List ℕ) → List (List ℕ)
svc_paths folder names = map (join_path folder) (filter is_svc names)

abbrev pub naming_paths : List ℕ → List (List ℕ) → List (List ℕ)
naming_paths folder names = net_paths folder names ++ svc_paths folder names

-- The greatest number of naming files of a folder, and of the bytes of one.
abbrev pub MOST_FILES : ℕ
MOST_FILES = 4096

abbrev pub MOST_BYTES : ℕ
MOST_BYTES = 4194304

-- The fault of a slip has the path of its file as its label.
abbrev pub or_fault : {A : Type 0} → List (List ℕ) → Result A Slip → Result A Fault
or_fault paths (Ok x) = Ok x
or_fault paths (Err slip) = Err (slip_fault paths slip)

abbrev pub naming_file : List ℕ → List File → Result (List ℕ) Fault
naming_file path files = whole_file MOST_BYTES TooLong path files

-- The list of a naming that has the definitions of this kind, and the naming with another list in its place.
abbrev pub list_of : NamingKind → Naming → List Definition
list_of Networks base = base.networks
list_of Services base = base.services

abbrev pub with_list : NamingKind → Naming → List Definition → Naming
with_list Networks base definitions = record base { networks = definitions }
with_list Services base definitions = record base { services = definitions }

-- One file of a kind, and its definitions behind those of this kind so far. `paths` are those of all files.
unfoldable pub with_file : List (List ℕ) → NamingKind → ℕ → List ℕ → List File → Naming
    → Result Naming Fault
with_file paths kind number path files base = do
  bytes ← naming_file path files
  definitions ← or_fault paths (file_added kind number (list_of kind base) bytes)
  Ok (with_list kind base definitions)

-- One file after the other, all of a kind, of which the first has this number.
abbrev pub all_of : List (List ℕ) → NamingKind → ℕ → List (List ℕ) → List File → Naming
    → Result Naming Fault
all_of paths kind number [] files base = Ok base
all_of paths kind number (path ∷ more) files base =
    with_file paths kind number path files base
    >>= (λ next. all_of paths kind (number + 1) more files next)

abbrev pub no_definitions : Naming
no_definitions = record { networks = []; services = [] }

-- The files of networks, then those of services, which are numbered behind them.
unfoldable pub both_kinds : List (List ℕ) → List (List ℕ) → List (List ℕ) → List File
    → Result Naming Fault
both_kinds paths networks services files = do
  base ← all_of paths Networks 0 networks files no_definitions
  all_of paths Services (length networks) services files base

-- What the naming files among the names define together.
abbrev pub all_files : List ℕ → List (List ℕ) → List File → Result Naming Fault
all_files folder names files =
    both_kinds (naming_paths folder names) (net_paths folder names) (svc_paths folder names) files

-- What the naming files of a folder define together; too many of them are a fault of the folder.
unfoldable pub definitions_of : List ℕ → List File → Result Naming Fault
definitions_of folder files = do
  names ← listing folder files
  if nat_lt MOST_FILES (length (naming_paths folder names)) then Err (file_fault TooManyFiles folder)
      else all_files folder names files

-- Each name that stands in a definition is defined in its kind, and none reaches itself.
pub record IsSoundNaming (naming : Naming) : Type 0 where
  pub defined : undefined_of naming ≡ None
  pub networks : HasNoCycle naming.networks
  pub services : HasNoCycle naming.services

-- The answer on definitions: a fault stays, sound ones are given, and of others the slip is told.
abbrev pub AnswersWith : List (List ℕ) → Result Naming Fault → Result Naming Fault → Type 0
AnswersWith paths (Err fault) answer = answer ≡ Err fault
AnswersWith paths (Ok naming) (Ok given) = (given ≡ naming) × IsSoundNaming naming
AnswersWith paths (Ok naming) (Err fault) =
    (slip : Slip) × IsSlipOf naming slip × (fault ≡ slip_fault paths slip)

-- The answer on a folder's naming files: what they define, each name defined and none reaching itself, or the
-- first fault.
abbrev pub Loads : List ℕ → List File → Result Naming Fault → Type 0
Loads folder files answer =
    AnswersWith (naming_paths folder (names_under folder files))
    (definitions_of folder files) answer
