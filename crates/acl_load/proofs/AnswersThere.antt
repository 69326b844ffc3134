-- A folder of naming files and a policy have an answer.
use Rattle.std.proofs.Common.{◌≡◌, ℕ, ◌+◌, Bool, true, false, nat_lt, if◌then◌else◌, List, [], ◌∷◌, length, Option, None, Some, Result, Ok, Err, IfOk, refl, sym, subst}
use Rattle.std.specs.List.{All, AllByRecursion}
use Rattle.std.proofs.lemmas.List.Elements.{All-nil, recursion_from_All}
use Rattle.acl_text.specs.declared.faults.Fault.{Fault}
use Rattle.acl_text.specs.declared.faults.Refusal.{Refusal}
use Rattle.acl_text.specs.declared.faults.Slip.{Slip}
use Rattle.acl_text.specs.Steps.{◌>>=◌}
use Rattle.acl_text.specs.Refusals.{slip_fault}
use Rattle.acl_host.specs.Files.{File, names_under}
use Rattle.acl_host.specs.WholeFiles.{listing}
use Rattle.acl_naming.specs.declared.item_words.NamingKind.TheVariants as kinds
use Rattle.acl_naming.specs.Definitions.{Definition, Naming}
use Rattle.acl_naming.specs.NamingFiles.{file_added}
use Rattle.acl_naming.specs.PortLaws.{IsInOrder, PortsAreOrdered, PortsAreSome}
use Rattle.acl_naming.proofs.OrderedPorts.{order-kept, ordered-some}
use Rattle.acl_words.specs.Splices.{Splice}
use Rattle.acl_words.specs.Splicing.{splice_of}
use Rattle.acl_words.specs.Tokens.{Token}
use Rattle.acl_words.specs.Words.{words_of}
use Rattle.acl_policy.specs.declared.blocks.Block.{Block}
use Rattle.acl_policy.specs.declared.blocks.Policy.{Policy}
use Rattle.acl_policy.specs.RawTerms.{RawTerm}
use Rattle.acl_policy.specs.Conditions.{IsBlock, IsPolicy, IsRawTerm}
use Rattle.acl_policy.specs.Policies.{policy_of}
use Rattle.acl_policy.proofs.PolicyFit.{read_fits}
use Rattle.acl_terms.specs.declared.terms.Term.{Term}
use Rattle.acl_terms.specs.Slips.{slip_of}
use Rattle.acl_terms.proofs.TermLaws.{term-there}
use Rattle.acl_terms.proofs.WordLaws.{parts}
use Rattle.acl_naming.specs.declared.item_words.NamingKind.{NamingKind}
use Rattle.acl_naming.specs.declared.item_words.NamingKind.TheVariants.{Networks, Services}
use Rattle.acl_load.specs.declared.policy_loading.Loaded.{Loaded}
use Rattle.acl_load.specs.declared.policy_texts.PolicyText.{PolicyText}
use Rattle.acl_load.specs.LoadedPolicies.{AnswersAreThere, AreResolved, AreResolvedIn, FirstFaultOr, IsLoadedFrom, LoadedPoliciesStand, LoadedStands, LoadsPolicy, Resolves, ResolvesWith, blocks_slip, policy_at, policy_in, terms_slip}
use Rattle.acl_load.specs.Loading.{AnswersWith, Loads, MOST_FILES, all_of, both_kinds, definitions_of, naming_file, naming_paths, net_paths, no_definitions, or_fault, svc_paths, with_file}
use Rattle.acl_load.proofs.DefinitionsThere.{loads-there}

-- ---- what holds of each value that a step may give

anything : {A : Type 0} (r : Result A Fault) → IfOk r (λ _. Unit {0})
anything (Ok x) = tt
anything (Err f) = tt

behind : {A B : Type 0} (P : A → Type 0) (Q : B → Type 0) (r : Result A Fault) (next : A → Result B Fault) → IfOk r P
    → ((x : A) → P x → IfOk (next x) Q) → IfOk (r >>= next) Q
behind P Q (Ok x) next h more = more x h
behind P Q (Err f) next h more = tt

-- the same of a step of which nothing is asked
unasked : {A B : Type 0} (Q : B → Type 0) (r : Result A Fault) (next : A → Result B Fault) → ((x : A) → IfOk (next x) Q)
    → IfOk (r >>= next) Q
unasked Q r next more = behind (λ _. Unit {0}) Q r next (anything r) (λ x _. more x)

chosen : {A : Type 0} (Q : A → Type 0) (b : Bool) (x y : Result A Fault) → IfOk x Q → IfOk y Q → IfOk (if b then x else y) Q
chosen Q true x y h k = h
chosen Q false x y h k = k

told-by : {A : Type 0} (Q : A → Type 0) (paths : List (List ℕ)) (r : Result A Slip) → IfOk r Q → IfOk (or_fault paths r) Q
told-by Q paths (Ok x) h = h
told-by Q paths (Err s) h = tt

-- ---- ports of services lie in order

abbrev Ordered : Naming → Type 0
Ordered n = PortsAreOrdered n.services

file-ordered : (paths : List (List ℕ)) (kind : NamingKind) (number : ℕ) (path : List ℕ) (files : List File) (base : Naming) → Ordered base
    → IfOk (with_file paths kind number path files base) Ordered
unfolding with_file
file-ordered paths Networks number path files base h =
    unasked Ordered (naming_file path files) _
    (λ bytes. unasked Ordered (or_fault paths (file_added kinds.Networks number base.networks bytes)) _ (λ definitions. h))
file-ordered paths Services number path files base h =
    unasked Ordered (naming_file path files) _
    (λ bytes. let added = file_added kinds.Services number base.services bytes in
    behind PortsAreOrdered Ordered (or_fault paths added) _
    (told-by PortsAreOrdered paths added (order-kept number base.services bytes h)) (λ definitions k. k))

files-ordered : (paths : List (List ℕ)) (kind : NamingKind) (number : ℕ) (more : List (List ℕ)) (files : List File) (base : Naming) → Ordered base
    → IfOk (all_of paths kind number more files base) Ordered
files-ordered paths kind number [] files base h = h
files-ordered paths kind number (path ∷ more) files base h =
    behind Ordered Ordered (with_file paths kind number path files base) _ (file-ordered paths kind number path files base h)
    (λ next k. files-ordered paths kind (number + 1) more files next k)

both-ordered : (paths networks services : List (List ℕ)) (files : List File) → IfOk (both_kinds paths networks services files) Ordered
unfolding both_kinds
both-ordered paths networks services files =
    behind Ordered Ordered (all_of paths Networks 0 networks files no_definitions) _
    (files-ordered paths Networks 0 networks files no_definitions (All-nil (λ (d : Definition). All IsInOrder d.items)))
    (λ base k. files-ordered paths Services (length networks) services files base k)

read-ordered : (folder : List ℕ) (files : List File) → IfOk (definitions_of folder files) Ordered
unfolding definitions_of
read-ordered folder files =
    unasked Ordered (listing folder files) _
    (λ names. let paths = naming_paths folder names in
    chosen Ordered (nat_lt MOST_FILES (length paths)) _ _ tt
    (both-ordered paths (net_paths folder names) (svc_paths folder names) files))

given-ordered : (paths : List (List ℕ)) (read : Result Naming Fault) (n : Naming) → IfOk read Ordered → AnswersWith paths read (Ok n)
    → Ordered n
given-ordered paths (Ok m) n h a = subst Ordered (sym a.0) h
given-ordered paths (Err f) n h a = let e : Ok n ≡ Err f = a in absurd cc

loads-ordered : (folder : List ℕ) (files : List File) (n : Naming) → Loads folder files (Ok n) → Ordered n
loads-ordered folder files n l =
    given-ordered (naming_paths folder (names_under folder files)) (definitions_of folder files) n (read-ordered folder files) l

-- ---- a policy that is read

policy-fits : (ws : List Token) → IfOk (policy_of ws) IsPolicy
policy-fits ws = by (policy_of ws) refl
  where
    by : (r : Result Policy Slip) → policy_of ws ≡ r → IfOk r IsPolicy
    by (Ok p) e = let read : Result Policy Refusal = Ok p in read_fits read ws e
    by (Err s) e = tt

in-fits : (splice : Splice) → IfOk (policy_in splice) IsPolicy
unfolding policy_in
in-fits splice = told-by IsPolicy splice.labels (policy_of (words_of splice.lines)) (policy-fits (words_of splice.lines))

abbrev Fits : PolicyText → Type 0
Fits text = IsPolicy text.policy

text-fits : (path : List ℕ) (files : List File) → IfOk (policy_at path files) Fits
unfolding policy_at
text-fits path files =
    unasked Fits (splice_of files path) _
    (λ splice. behind IsPolicy Fits (policy_in splice) _ (in-fits splice) (λ policy k. k))

-- ---- its terms

terms-there : (n : Naming) (raws : List RawTerm) → PortsAreSome n.services → AllByRecursion IsRawTerm raws → terms_slip n raws ≡ None
    → (terms : List Term) × AreResolved n raws terms
terms-there n [] some fit clean = ([], tt)
terms-there n (raw ∷ raws) some fit clean =
    let both = parts (slip_of n raw) (terms_slip n raws) clean in
    let first = term-there n raw some fit.0 both.0 in
    let rest = terms-there n raws some fit.1 both.1 in
    (first.0 ∷ rest.0, (first.1, rest.1))

blocks-there : (n : Naming) (blocks : List Block) → PortsAreSome n.services → AllByRecursion IsBlock blocks → blocks_slip n blocks ≡ None
    → (lists : List (List Term)) × AreResolvedIn n blocks lists
blocks-there n [] some fit clean = ([], tt)
blocks-there n (b ∷ blocks) some fit clean =
    let both = parts (terms_slip n b.terms) (blocks_slip n blocks) clean in
    let first = terms-there n b.terms some (recursion_from_All IsRawTerm b.terms fit.0.terms_are) both.0 in
    let rest = blocks-there n blocks some fit.1 both.1 in
    (first.0 ∷ rest.0, (first.1, rest.1))

-- ---- the answer

abbrev There : (Result Loaded Fault → Type 0) → Type 0
There R = (answer : Result Loaded Fault) × R answer

resolved-there : (n : Naming) (text : PolicyText) → PortsAreSome n.services → Fits text → There (Resolves n text)
resolved-there n text some fits = by (blocks_slip n text.policy.blocks) refl
  where
    by : (o : Option Slip) → blocks_slip n text.policy.blocks ≡ o → There (ResolvesWith o n text)
    by (Some s) e = (Err (slip_fault text.sources.labels s), refl)
    by None e =
        let lists = blocks-there n text.policy.blocks some (recursion_from_All IsBlock text.policy.blocks fits.blocks_are) e in (
          Ok (record { definitions = n; sources = text.sources; policy = text.policy; terms = lists.0 }),
          record { definitions_are = refl; sources_are = refl; policy_is = refl; terms_are = lists.1 },
        )

text-there : (n : Naming) (read : Result PolicyText Fault) → PortsAreSome n.services → IfOk read Fits → There (FirstFaultOr (Resolves n) read)
text-there n (Ok text) some fits = resolved-there n text some fits
text-there n (Err f) some fits = (Err f, refl)

pub answer-there : AnswersAreThere
answer-there folder path files = by (loads-there folder files).0 (loads-there folder files).1
  where
    by : (definitions : Result Naming Fault) → Loads folder files definitions → There (LoadsPolicy folder path files)
    by (Ok n) l =
        let some = ordered-some n.services (loads-ordered folder files n l) in
        let text = text-there n (policy_at path files) some (text-fits path files) in
        (text.0, (Ok n, l, text.1))
    by (Err f) l = (Err f, (Err f, l, refl))

-- ---- what is loaded

stands : (n : Naming) (text : PolicyText) (loaded : Loaded) → Fits text → blocks_slip n text.policy.blocks ≡ None
    → IsLoadedFrom n text loaded → LoadedStands loaded
stands n text loaded fits clean h = record {
  policy_fits = subst IsPolicy (sym h.policy_is) fits;
  no_slip = subst (λ (d : Naming). blocks_slip d loaded.policy.blocks ≡ None) (sym h.definitions_are)
      (subst (λ (p : Policy). blocks_slip n p.blocks ≡ None) (sym h.policy_is) clean);
  resolved = subst (λ (d : Naming). AreResolvedIn d loaded.policy.blocks loaded.terms) (sym h.definitions_are)
      (subst (λ (p : Policy). AreResolvedIn n p.blocks loaded.terms) (sym h.policy_is) h.terms_are);
}

resolved-stands : (n : Naming) (text : PolicyText) (loaded : Loaded) → Fits text → Resolves n text (Ok loaded) → LoadedStands loaded
resolved-stands n text loaded fits h = by (blocks_slip n text.policy.blocks) refl h
  where
    by : (o : Option Slip) → blocks_slip n text.policy.blocks ≡ o → ResolvesWith o n text (Ok loaded) → LoadedStands loaded
    by (Some s) e r = absurd (ok-no-err r)
      where
        ok-no-err : Ok loaded ≡ Err (slip_fault text.sources.labels s) → ⊥
        ok-no-err q = cc
    by None e r = stands n text loaded fits e r

text-stands : (n : Naming) (read : Result PolicyText Fault) (loaded : Loaded) → IfOk read Fits → FirstFaultOr (Resolves n) read (Ok loaded) → LoadedStands loaded
text-stands n (Ok text) loaded fits h = resolved-stands n text loaded fits h
text-stands n (Err f) loaded fits h = let e : Ok loaded ≡ Err f = h in absurd cc

pub loaded-stands : LoadedPoliciesStand
loaded-stands folder path files loaded h = by h.0 h.2
  where
    by : (definitions : Result Naming Fault) → FirstFaultOr (λ n. FirstFaultOr (Resolves n) (policy_at path files)) definitions (Ok loaded) → LoadedStands loaded
    by (Ok n) r = text-stands n (policy_at path files) loaded (text-fits path files) r
    by (Err f) r = let e : Ok loaded ≡ Err f = r in absurd cc
