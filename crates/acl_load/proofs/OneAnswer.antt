-- A folder of naming files and a policy have one answer.
use Rattle.std.proofs.Common.{◌≡◌, ℕ, ◌<◌, ◌≤◌, ◌⊎◌, inl, inr, List, [], ◌∷◌, Option, None, Some, Result, Ok, Err, refl, ap, sym, subst, ◌∙◌}
use Rattle.std.specs.List.{AllZip}
use Rattle.std.proofs.lemmas.Bool.{cases_lt}
use Rattle.std.proofs.Math.Nat.{eq-or-lt_of_le}
use Rattle.acl_text.specs.declared.faults.Code.TheVariants as codes
use Rattle.acl_text.specs.declared.faults.Fault.{Fault}
use Rattle.acl_text.specs.declared.faults.Slip.{Slip}
use Rattle.acl_text.specs.Refusals.{slip, slip_fault}
use Rattle.acl_host.specs.Files.{names_under}
use Rattle.acl_naming.specs.declared.naming_items.Reference.{Reference}
use Rattle.acl_naming.specs.Checking.{undefined_of, HasNoCycle, IsFirstCycle, IsCycleSlip, IsSlipBy}
use Rattle.acl_naming.specs.Definitions.{Definition, Naming}
use Rattle.acl_naming.specs.Tables.{name_at, place_at}
use Rattle.acl_policy.specs.declared.blocks.Block.{Block}
use Rattle.acl_policy.specs.RawTerms.{RawTerm}
use Rattle.acl_terms.specs.declared.terms.Term.{Term}
use Rattle.acl_terms.specs.Resolved.{IsResolved}
use Rattle.acl_terms.proofs.TermLaws.{one-term}
use Rattle.acl_load.specs.declared.policy_loading.Loaded.{Loaded}
use Rattle.acl_load.specs.declared.policy_texts.PolicyText.{PolicyText}
use Rattle.acl_load.specs.Loading.{AnswersWith, definitions_of, naming_paths}
use Rattle.acl_load.specs.LoadedPolicies.{AnswersAreOne, AreResolved, AreResolvedIn, FirstFaultOr, IsLoadedFrom, Resolves, ResolvesWith, blocks_slip, policy_at}

-- ---- one slip of the names

same-first : (base : List Definition) (i j : ℕ) → IsFirstCycle base i → IsFirstCycle base j → (i < j) ⊎ ((i ≡ j) ⊎ (j < i)) → i ≡ j
same-first base i j p q (inl h) = absurd (q.first i h p.cycle)
same-first base i j p q (inr (inl e)) = e
same-first base i j p q (inr (inr h)) = absurd (p.first j h q.cycle)

three-ways : (i j : ℕ) → (i < j) ⊎ ((i ≡ j) ⊎ (j < i))
three-ways i j = by_first (cases_lt i j)
  where
    by_second : (j ≡ i) ⊎ (j < i) → (i < j) ⊎ ((i ≡ j) ⊎ (j < i))
    by_second (inl e) = inr (inl (sym e))
    by_second (inr h) = inr (inr h)

    by_first : (i < j) ⊎ (j ≤ i) → (i < j) ⊎ ((i ≡ j) ⊎ (j < i))
    by_first (inl h) = inl h
    by_first (inr h) = by_second (eq-or-lt_of_le h)

same-cycle : (base : List Definition) (s t : Slip) → IsCycleSlip base s → IsCycleSlip base t → s ≡ t
same-cycle base s t p q =
    p.2 ∙ ap (λ (i : ℕ). slip codes.Cycle (place_at base i) (name_at base i)) (same-first base p.0 q.0 p.1 q.1 (three-ways p.0 q.0)) ∙ sym q.2

no-slip : (base : List Definition) (s : Slip) → HasNoCycle base → IsCycleSlip base s → ⊥
no-slip base s none p = none p.0 p.1.within p.1.cycle

same-slip : (u : Option Reference) (n : Naming) (s t : Slip) → IsSlipBy u n s → IsSlipBy u n t → s ≡ t
same-slip (Some r) n s t p q = p ∙ sym q
same-slip None n s t (inl p) (inl q) = same-cycle n.networks s t p q
same-slip None n s t (inl p) (inr q) = absurd (no-slip n.networks s q.0 p)
same-slip None n s t (inr p) (inl q) = absurd (no-slip n.networks t p.0 q)
same-slip None n s t (inr p) (inr q) = same-cycle n.services s t p.1 q.1

sound-no-slip : (u : Option Reference) (n : Naming) (s : Slip) → u ≡ None → HasNoCycle n.networks → HasNoCycle n.services → IsSlipBy u n s → ⊥
sound-no-slip (Some r) n s e f g p = cc
sound-no-slip None n s e f g (inl p) = no-slip n.networks s f p
sound-no-slip None n s e f g (inr p) = no-slip n.services s g p.1

same-loaded : (paths : List (List ℕ)) (d a b : Result Naming Fault) → AnswersWith paths d a → AnswersWith paths d b → a ≡ b
same-loaded paths (Err f) a b p q = p ∙ sym q
same-loaded paths (Ok n) (Ok x) (Ok y) p q = ap Ok (p.0 ∙ sym q.0)
same-loaded paths (Ok n) (Ok x) (Err g) p q = absurd (sound-no-slip (undefined_of n) n q.0 p.1.defined p.1.networks p.1.services q.1)
same-loaded paths (Ok n) (Err f) (Ok y) p q = absurd (sound-no-slip (undefined_of n) n p.0 q.1.defined q.1.networks q.1.services p.1)
same-loaded paths (Ok n) (Err f) (Err g) p q = ap Err (p.2 ∙ ap (slip_fault paths) (same-slip (undefined_of n) n p.0 q.0 p.1 q.1) ∙ sym q.2)

-- ---- one list of terms for each block

zip-one : {A B : Type 0} (R : A → B → Type 0) → ((a : A) (x y : B) → R a x → R a y → x ≡ y) → (zs : List A) (xs ys : List B)
    → AllZip R zs xs → AllZip R zs ys → xs ≡ ys
zip-one R one [] [] [] p q = refl
zip-one R one [] [] (y ∷ ys) p q = absurd q
zip-one R one [] (x ∷ xs) ys p q = absurd p
zip-one R one (z ∷ zs) [] ys p q = absurd p
zip-one R one (z ∷ zs) (x ∷ xs) [] p q = absurd q
zip-one {B = B} R one (z ∷ zs) (x ∷ xs) (y ∷ ys) p q =
    ap (λ (h : B). h ∷ xs) (one z x y p.0 q.0) ∙ ap (λ (t : List B). y ∷ t) (zip-one R one zs xs ys p.1 q.1)

one-terms : (n : Naming) (raws : List RawTerm) (ts us : List Term) → AreResolved n raws ts → AreResolved n raws us → ts ≡ us
one-terms n raws ts us p q = zip-one (IsResolved n) (one-term n) raws ts us p q

one-lists : (n : Naming) (blocks : List Block) (ts us : List (List Term)) → AreResolvedIn n blocks ts
    → AreResolvedIn n blocks us → ts ≡ us
one-lists n blocks ts us p q =
    zip-one (λ (b : Block) (l : List Term). AreResolved n b.terms l) (λ b. one-terms n b.terms) blocks ts us p q

-- ---- one answer

one-loaded : (n : Naming) (t : PolicyText) (a b : Loaded) → IsLoadedFrom n t a → IsLoadedFrom n t b → a ≡ b
one-loaded n t a b p q =
    ap (λ v. record { definitions = v; sources = a.sources; policy = a.policy; terms = a.terms })
    (p.definitions_are ∙ sym q.definitions_are)
    ∙ ap (λ v. record { definitions = b.definitions; sources = v; policy = a.policy; terms = a.terms })
    (p.sources_are ∙ sym q.sources_are)
    ∙ ap (λ v. record { definitions = b.definitions; sources = b.sources; policy = v; terms = a.terms })
    (p.policy_is ∙ sym q.policy_is)
    ∙ ap (λ v. record { definitions = b.definitions; sources = b.sources; policy = b.policy; terms = v })
    (one-lists n t.policy.blocks a.terms b.terms p.terms_are q.terms_are)

one-resolved : (o : Option Slip) (n : Naming) (t : PolicyText) (a b : Result Loaded Fault) → ResolvesWith o n t a
    → ResolvesWith o n t b → a ≡ b
one-resolved (Some s) n t a b p q = p ∙ sym q
one-resolved None n t (Err f) b p q = absurd p
one-resolved None n t (Ok x) (Err f) p q = absurd q
one-resolved None n t (Ok x) (Ok y) p q = ap Ok (one-loaded n t x y p q)

one-step : {A B : Type 0} (next : A → Result B Fault → Type 0)
    → ((x : A) (a b : Result B Fault) → next x a → next x b → a ≡ b) → (r : Result A Fault) (a b : Result B Fault)
    → FirstFaultOr next r a → FirstFaultOr next r b → a ≡ b
one-step next one (Err f) a b p q = p ∙ sym q
one-step next one (Ok x) a b p q = one x a b p q

pub one-answer : AnswersAreOne
one-answer folder path files a b p q =
    let same = same-loaded (naming_paths folder (names_under folder files)) (definitions_of folder files) p.0 q.0 p.1 q.1 in
    let next : Naming → Result Loaded Fault → Type 0 = λ n answer. FirstFaultOr (Resolves n) (policy_at path files) answer in
    let one_text : (n : Naming) (t : PolicyText) (x y : Result Loaded Fault) → Resolves n t x → Resolves n t y → x ≡ y =
    λ n t x y. one-resolved (blocks_slip n t.policy.blocks) n t x y in
    let At : Result Naming Fault → Type 0 = λ r. FirstFaultOr next r a in
    one-step next (λ n x y. one-step (Resolves n) (one_text n) (policy_at path files) x y) q.0 a b
    (subst At same p.2) q.2
