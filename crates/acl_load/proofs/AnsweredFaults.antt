-- What is wrong with what is loaded has a code that `aclgen` answers.
use Rattle.std.proofs.Common.{ℕ, ◌+◌, nat_lt, List, [], ◌∷◌, length, Option, None, Some, Result, Ok, Err, sym, subst}
use Rattle.acl_text.specs.AnsweredCodes.{EndsAnswered, FailsAnswered, IsAnswered, SlipIsAnswered}
use Rattle.acl_text.specs.declared.faults.Code.{Code}
use Rattle.acl_text.specs.declared.faults.Code.TheVariants as codes_of
use Rattle.acl_text.specs.declared.faults.Fault.{Fault}
use Rattle.acl_text.specs.declared.faults.Slip.{Slip}
use Rattle.acl_text.specs.Steps.{◌>>=◌}
use Rattle.acl_text.proofs.AnsweredLaws.{either, first_answered, steps_fail}
use Rattle.acl_host.specs.Files.{File, file_at, is_folder, names_under}
use Rattle.acl_host.specs.WholeFiles.{at_most, listing, whole_file}
use Rattle.acl_naming.specs.Definitions.{Naming}
use Rattle.acl_naming.specs.NamingFiles.{file_added}
use Rattle.acl_naming.proofs.AnsweredSlips.{file_answered, names_answered}
use Rattle.acl_words.specs.Splicing.{splice_of}
use Rattle.acl_words.proofs.AnsweredFaults.{splice_answered}
use Rattle.acl_words.specs.Words.{words_of}
use Rattle.acl_policy.specs.Policies.{policy_of}
use Rattle.acl_policy.proofs.PolicyFit.{policy_answered}
use Rattle.acl_terms.specs.Slips.{slip_of}
use Rattle.acl_terms.proofs.AnsweredSlips.{term_answered}
use Rattle.acl_naming.specs.declared.item_words.NamingKind.{NamingKind}
use Rattle.acl_naming.specs.declared.item_words.NamingKind.TheVariants.{Networks, Services}
use Rattle.acl_load.specs.declared.policy_loading.Loaded.{Loaded}
use Rattle.acl_load.specs.declared.policy_texts.PolicyText.{PolicyText}
use Rattle.acl_load.specs.LoadedPolicies.{FirstFaultOr, LoadsPolicy, Resolves, ResolvesWith, blocks_slip, policy_at, policy_in, terms_slip}
use Rattle.acl_load.specs.Loading.{AnswersWith, Loads, MOST_BYTES, MOST_FILES, all_of, both_kinds, definitions_of, list_of, naming_file, naming_paths, net_paths, no_definitions, or_fault, svc_paths, with_file, with_list}

-- ---- files

or_fault_fails : {A : Type 0} (labels : List (List ℕ)) (r : Result A Slip) → EndsAnswered r → FailsAnswered (or_fault labels r)
or_fault_fails labels (Ok x) h = tt
or_fault_fails labels (Err s) h = h

at_most_fails : (most : ℕ) (code : Code) (path : List ℕ) (o : Option (List ℕ)) → IsAnswered code → FailsAnswered (at_most most code path o)
at_most_fails most code path None h = tt
at_most_fails most code path (Some bytes) h =
    either (λ (r : Result (List ℕ) Fault). FailsAnswered r) (nat_lt most (length bytes)) _ _ h tt

naming_file_fails : (path : List ℕ) (files : List File) → FailsAnswered (naming_file path files)
unfolding whole_file
naming_file_fails path files = at_most_fails MOST_BYTES codes_of.TooLong path (file_at files path) tt

listing_fails : (folder : List ℕ) (files : List File) → FailsAnswered (listing folder files)
unfolding listing
listing_fails folder files = either (λ (r : Result (List (List ℕ)) Fault). FailsAnswered r) (is_folder folder files) _ _ tt tt

-- ---- definitions

with_file_fails : (paths : List (List ℕ)) (kind : NamingKind) (number : ℕ) (path : List ℕ) (files : List File) (base : Naming)
    → FailsAnswered (with_file paths kind number path files base)
unfolding with_file
with_file_fails paths kind number path files base =
    steps_fail (naming_file path files)
    (λ bytes. or_fault paths (file_added kind number (list_of kind base) bytes) >>= λ definitions. Ok (with_list kind base definitions))
    (naming_file_fails path files)
    (λ bytes. steps_fail (or_fault paths (file_added kind number (list_of kind base) bytes)) (λ definitions. Ok (with_list kind base definitions))
    (or_fault_fails paths _ (file_answered kind number (list_of kind base) bytes)) (λ _. tt))

all_fail : (paths : List (List ℕ)) (kind : NamingKind) (number : ℕ) (more : List (List ℕ)) (files : List File) (base : Naming)
    → FailsAnswered (all_of paths kind number more files base)
all_fail paths kind number [] files base = tt
all_fail paths kind number (path ∷ more) files base =
    steps_fail (with_file paths kind number path files base) (λ next. all_of paths kind (number + 1) more files next)
    (with_file_fails paths kind number path files base) (λ next. all_fail paths kind (number + 1) more files next)

both_fail : (paths networks services : List (List ℕ)) (files : List File) → FailsAnswered (both_kinds paths networks services files)
unfolding both_kinds
both_fail paths networks services files =
    steps_fail (all_of paths Networks 0 networks files no_definitions) (λ base. all_of paths Services (length networks) services files base)
    (all_fail paths Networks 0 networks files no_definitions) (λ base. all_fail paths Services (length networks) services files base)

definitions_fail : (folder : List ℕ) (files : List File) → FailsAnswered (definitions_of folder files)
unfolding definitions_of
definitions_fail folder files =
    steps_fail (listing folder files) _ (listing_fails folder files)
    (λ names. either (λ (r : Result Naming Fault). FailsAnswered r) (nat_lt MOST_FILES (length (naming_paths folder names))) _ _ tt
    (both_fail (naming_paths folder names) (net_paths folder names) (svc_paths folder names) files))

loads_answered : (folder : List ℕ) (files : List File) (answer : Result Naming Fault) → Loads folder files answer → FailsAnswered answer
loads_answered folder files answer h = by (naming_paths folder (names_under folder files)) (definitions_of folder files) answer (definitions_fail folder files) h where
  by : (paths : List (List ℕ)) (definitions answer : Result Naming Fault) → FailsAnswered definitions → AnswersWith paths definitions answer → FailsAnswered answer
  by paths (Err fault) answer h e = subst (λ (r : Result Naming Fault). FailsAnswered r) (sym e) h
  by paths (Ok naming) (Ok given) h e = tt
  by paths (Ok naming) (Err fault) h e = subst (λ (f : Fault). IsAnswered f.code) (sym e.2) (names_answered naming e.0 e.1)

-- ---- the policy and its terms

policy_fails : (path : List ℕ) (files : List File) → FailsAnswered (policy_at path files)
unfolding policy_at policy_in
policy_fails path files =
    steps_fail (splice_of files path) _ (splice_answered files path)
    (λ splice. steps_fail (or_fault splice.labels (policy_of (words_of splice.lines))) (λ policy. Ok (record { sources = splice; policy = policy }))
    (or_fault_fails splice.labels (policy_of (words_of splice.lines)) (policy_answered (words_of splice.lines))) (λ _. tt))

resolves_answered : (naming : Naming) (text : PolicyText) (answer : Result Loaded Fault) → Resolves naming text answer → FailsAnswered answer
resolves_answered naming text answer h = by (blocks_slip naming text.policy.blocks) answer
    (first_answered (λ b. terms_slip naming b.terms) text.policy.blocks (λ b. first_answered (slip_of naming) b.terms (term_answered naming))) h
  where
    by : (o : Option Slip) (answer : Result Loaded Fault) → SlipIsAnswered o → ResolvesWith o naming text answer → FailsAnswered answer
    by (Some slip) answer h e = subst (λ (r : Result Loaded Fault). FailsAnswered r) (sym e) h
    by None (Err fault) h e = absurd e
    by None (Ok loaded) h e = tt

-- a step behind one that ends so, and that ends so itself
pub goes_on_answered : {A B : Type 0} (next : A → Result B Fault → Type 0) (r : Result A Fault) (answer : Result B Fault)
    → FailsAnswered r → ((x : A) → next x answer → FailsAnswered answer) → FirstFaultOr next r answer → FailsAnswered answer
goes_on_answered next (Err fault) answer h k e = subst (λ (r : Result _ Fault). FailsAnswered r) (sym e) h
goes_on_answered next (Ok x) answer h k e = k x e

pub policy_loads_answered : (folder path : List ℕ) (files : List File) (answer : Result Loaded Fault) → LoadsPolicy folder path files answer → FailsAnswered answer
policy_loads_answered folder path files answer h =
    goes_on_answered (λ naming. FirstFaultOr (Resolves naming) (policy_at path files)) h.0 answer (loads_answered folder files h.0 h.1)
    (λ naming e. goes_on_answered (Resolves naming) (policy_at path files) answer (policy_fails path files)
    (λ text r. resolves_answered naming text answer r) e) h.2
