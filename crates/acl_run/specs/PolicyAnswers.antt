-- An answer that is made of a policy: the naming files and the policy are loaded, and then it is judged.
use Rattle.std.specs.Prelude.{◌≡◌, ℕ, List, Option, None, Some, Result, Ok, Err, IfSome}
use Rattle.acl_text.specs.declared.faults.Fault.{Fault}
use Rattle.acl_text.specs.declared.faults.Rejection.{Rejection}
use Rattle.acl_text.specs.declared.faults.Rejection.TheVariants as rejections
use Rattle.acl_text.specs.declared.faults.Slip.{Slip}
use Rattle.acl_text.specs.Refusals.{slip_fault}
use Rattle.acl_host.specs.Files.{File}
use Rattle.acl_load.specs.declared.load_faults.LoadFault.{LoadFault}
use Rattle.acl_load.specs.declared.policy_loading.Loaded.{Loaded}
use Rattle.acl_load.specs.LoadedPolicies.{FirstFaultOr, LoadsPolicy}
use Rattle.acl_load.specs.LoadFaults.{load_told}

-- A slip is told with the label of its file.
abbrev pub or_slip : {A : Type 0} → List (List ℕ) → Option Slip → A → Result A Fault
or_slip labels (Some slip) answer = Err (slip_fault labels slip)
or_slip labels None answer = Ok answer

-- The answer of a policy that is loaded, or its slip.
abbrev pub answer_of : {A : Type 0} → (Loaded → Option Slip) → (Loaded → A) → Loaded → Result A Fault
answer_of slip answer loaded = or_slip loaded.sources.labels (slip loaded) (answer loaded)

-- The folder of naming files and the policy at the path are loaded; the first fault of that, or of what is judged then, or
-- the answer.
abbrev pub AnswersPolicy : {A : Type 0} → List ℕ → List ℕ → (Loaded → Option Slip) → (Loaded → A) → List File
    → Result A Fault → Type 0
AnswersPolicy folder path slip answer files given = (loaded : Result Loaded Fault)
    × LoadsPolicy folder path files loaded × FirstFaultOr (λ l a. a ≡ answer_of slip answer l) loaded given

-- ---- as the code has it

-- What is made of a policy that is loaded, or its slip as a fault.
abbrev pub MakesLoaded : {A W : Type 0} → (A → W → Type 0) → Result A Fault → Result W Rejection → Type 0
MakesLoaded IsReady (Ok answer) (Ok work) = IsReady answer work
MakesLoaded IsReady (Err fault) (Ok work) = ⊥
MakesLoaded IsReady given (Err (rejections.Fault fault)) = given ≡ Err fault
MakesLoaded IsReady given (Err rejections.Memory) = Unit {0}

-- The answer of the tree's files is made, or their first fault.
abbrev pub Makes : {A W : Type 0} → (List File → Result A Fault → Type 0) → (A → W → Type 0) → Option (List File)
    → Result W LoadFault → Type 0
Makes {A = A} Answers IsReady told (Ok work) =
    IfSome told (λ files. (answer : A) × Answers files (Ok answer) × IsReady answer work)
Makes Answers IsReady told (Err e) =
    IfSome told (λ files. IfSome (load_told e) (λ fault. Answers files (Err fault)))
