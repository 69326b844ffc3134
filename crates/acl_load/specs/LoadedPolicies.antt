-- A policy that is loaded: the naming files, the policy with its included files, its terms; or the first fault of them.
use Rattle.std.specs.Prelude.{◌≡◌, ℕ, List, Option, None, Some, Result, Ok, Err}
use Rattle.std.specs.List.{AllZip}
use Rattle.acl_text.specs.declared.faults.Fault.{Fault}
use Rattle.acl_text.specs.declared.faults.Slip.{Slip}
use Rattle.acl_text.specs.Steps.{◌>>=◌}
use Rattle.acl_text.specs.Refusals.{first_in, slip_fault}
use Rattle.acl_host.specs.Files.{File}
use Rattle.acl_naming.specs.Definitions.{Naming}
use Rattle.acl_words.specs.Splices.{Splice}
use Rattle.acl_words.specs.Splicing.{splice_of}
use Rattle.acl_words.specs.Words.{words_of}
use Rattle.acl_policy.specs.declared.blocks.Block.{Block}
use Rattle.acl_policy.specs.declared.blocks.Policy.{Policy}
use Rattle.acl_policy.specs.RawTerms.{RawTerm}
use Rattle.acl_policy.specs.Conditions.{IsPolicy}
use Rattle.acl_policy.specs.Policies.{policy_of}
use Rattle.acl_terms.specs.declared.terms.Term.{Term}
use Rattle.acl_terms.specs.Resolved.{IsResolved}
use Rattle.acl_terms.specs.Slips.{slip_of}
use Rattle.acl_load.specs.declared.policy_loading.Loaded.{Loaded}
use Rattle.acl_load.specs.declared.policy_texts.PolicyText.{PolicyText}
use Rattle.acl_load.specs.Loading.{Loads, or_fault}

-- ---- the policy

-- The policy in the lines of a splice. A slip is told with the label of its file.
unfoldable pub policy_in : Splice → Result Policy Fault
policy_in splice = or_fault splice.labels (policy_of (words_of splice.lines))

-- The policy at the path, with the files that it includes.
unfoldable pub policy_at : List ℕ → List File → Result PolicyText Fault
policy_at path files = do
  splice ← splice_of files path
  policy ← policy_in splice
  Ok (record { sources = splice; policy = policy })

-- ---- its terms

-- The first slip of a block's terms, and of those of all blocks, in order.
abbrev pub terms_slip : Naming → List RawTerm → Option Slip
terms_slip definitions raws = first_in (slip_of definitions) raws

abbrev pub blocks_slip : Naming → List Block → Option Slip
blocks_slip definitions blocks = first_in (λ b. terms_slip definitions b.terms) blocks

-- Each written term is resolved, in order.
abbrev pub AreResolved : Naming → List RawTerm → List Term → Type 0
AreResolved definitions raws terms = AllZip (IsResolved definitions) raws terms

-- There is one list for each block, in order, with one term for each of its written terms.
abbrev pub AreResolvedIn : Naming → List Block → List (List Term) → Type 0
AreResolvedIn definitions blocks lists = AllZip (λ b terms. AreResolved definitions b.terms terms) blocks lists

-- What is loaded has the definitions, and the policy as it was read, with its terms resolved.
pub record IsLoadedFrom (definitions : Naming) (text : PolicyText) (loaded : Loaded) : Type 0 where
  pub definitions_are : loaded.definitions ≡ definitions
  pub sources_are : loaded.sources ≡ text.sources
  pub policy_is : loaded.policy ≡ text.policy
  pub terms_are : AreResolvedIn definitions text.policy.blocks loaded.terms

abbrev pub ResolvesWith : Option Slip → Naming → PolicyText → Result Loaded Fault → Type 0
ResolvesWith (Some slip) definitions text answer = answer ≡ Err (slip_fault text.sources.labels slip)
ResolvesWith None definitions text (Err fault) = ⊥
ResolvesWith None definitions text (Ok loaded) = IsLoadedFrom definitions text loaded

-- The answer on a policy's terms: the first slip of one, with the label of its file, or all terms resolved.
abbrev pub Resolves : Naming → PolicyText → Result Loaded Fault → Type 0
Resolves definitions text answer =
    ResolvesWith (blocks_slip definitions text.policy.blocks) definitions text answer

-- ---- the whole

-- A step behind one that gave a value or the first fault.
abbrev pub FirstFaultOr : {A B : Type 0} → (A → Result B Fault → Type 0) → Result A Fault → Result B Fault → Type 0
FirstFaultOr next (Err fault) answer = answer ≡ Err fault
FirstFaultOr next (Ok x) answer = next x answer

-- The answer on a folder of naming files and a policy: the naming files come first, then the policy with its
-- included files, then its terms. The first fault is the answer, or what is loaded.
abbrev pub LoadsPolicy : List ℕ → List ℕ → List File → Result Loaded Fault → Type 0
LoadsPolicy folder path files answer =
    (definitions : Result Naming Fault) × Loads folder files definitions
    × FirstFaultOr (λ naming. FirstFaultOr (Resolves naming) (policy_at path files)) definitions answer

-- What holds of all that is loaded: the policy is one, no term of it has a slip, and each is resolved.
pub record LoadedStands (loaded : Loaded) : Type 0 where
  pub policy_fits : IsPolicy loaded.policy
  pub no_slip : blocks_slip loaded.definitions loaded.policy.blocks ≡ None
  pub resolved : AreResolvedIn loaded.definitions loaded.policy.blocks loaded.terms

-- ---- laws

-- There is at most one answer.
abbrev pub AnswersAreOne : Type 0
AnswersAreOne = (folder path : List ℕ) (files : List File) (a b : Result Loaded Fault)
    → LoadsPolicy folder path files a → LoadsPolicy folder path files b → a ≡ b

-- The naming files of a folder have an answer.
abbrev pub DefinitionsAreThere : Type 0
DefinitionsAreThere =
    (folder : List ℕ) (files : List File) → (answer : Result Naming Fault) × Loads folder files answer

-- A folder of naming files and a policy have an answer.
abbrev pub AnswersAreThere : Type 0
AnswersAreThere = (folder path : List ℕ) (files : List File)
    → (answer : Result Loaded Fault) × LoadsPolicy folder path files answer

-- What is loaded stands, whatever the files hold.
abbrev pub LoadedPoliciesStand : Type 0
LoadedPoliciesStand = (folder path : List ℕ) (files : List File) (loaded : Loaded)
    → LoadsPolicy folder path files (Ok loaded) → LoadedStands loaded
