-- An answer that is made of a policy is one, is there, and is made of what is loaded.
use Rattle.std.proofs.Common.{◌≡◌, ℕ, List, Option, None, Some, Result, Ok, Err, IfSome, refl, sym, subst, ◌∙◌}
use Rattle.std.specs.Prelude.{IsErrAnd}
use Rattle.acl_text.specs.declared.faults.Fault.{Fault}
use Rattle.acl_text.specs.declared.faults.Rejection.{Rejection}
use Rattle.acl_text.specs.declared.faults.Rejection.TheVariants as rejections
use Rattle.acl_text.specs.declared.faults.Slip.{Slip}
use Rattle.acl_host.specs.Files.{File}
use Rattle.acl_load.specs.declared.load_faults.LoadFault.{LoadFault}
use Rattle.acl_load.specs.declared.load_faults.LoadFault.TheVariants as loads
use Rattle.acl_load.specs.declared.policy_loading.Loaded.{Loaded}
use Rattle.acl_load.specs.LoadedPolicies.{FirstFaultOr, LoadsPolicy}
use Rattle.acl_load.specs.LoadFaults.{load_told, of_rejection}
use Rattle.acl_load.proofs.AnswersThere.{answer-there}
use Rattle.acl_load.proofs.OneAnswer.{one-answer}
use Rattle.acl_run.specs.PolicyAnswers.{AnswersPolicy, Makes, MakesLoaded, answer_of}

module _ {A : Type 0} (folder path : List ℕ) (slip : Loaded → Option Slip) (answer : Loaded → A) where
  same-judged : (r : Result Loaded Fault) (a b : Result A Fault) → FirstFaultOr (λ l x. x ≡ answer_of slip answer l) r a
      → FirstFaultOr (λ l x. x ≡ answer_of slip answer l) r b → a ≡ b
  same-judged (Err fault) a b p q = p ∙ sym q
  same-judged (Ok loaded) a b p q = p ∙ sym q

  pub one-policy-answer : (files : List File) (a b : Result A Fault) → AnswersPolicy folder path slip answer files a
      → AnswersPolicy folder path slip answer files b → a ≡ b
  one-policy-answer files a b p q =
      let same = one-answer folder path files p.0 q.0 p.1 q.1 in
      let G : Result Loaded Fault → Type 0 = λ r. FirstFaultOr (λ l x. x ≡ answer_of slip answer l) r a in
      same-judged q.0 a b (subst G same p.2) q.2

  judged-there : (files : List File) (r : Result Loaded Fault) → LoadsPolicy folder path files r
      → (given : Result A Fault) × AnswersPolicy folder path slip answer files given
  judged-there files (Err fault) loads = (Err fault, (Err fault, loads, refl))
  judged-there files (Ok loaded) loads = (answer_of slip answer loaded, (Ok loaded, loads, refl))

  pub policy-answer-there : (files : List File) → (given : Result A Fault) × AnswersPolicy folder path slip answer files given
  policy-answer-there files =
      let loaded = answer-there folder path files in
      judged-there files loaded.0 loaded.1

  -- ---- as the code has it

  module _ {W : Type 0} (IsReady : A → W → Type 0) where
    made-so : (given : Result A Fault) (work : W) → MakesLoaded IsReady given (Ok work) → (a : A) × (given ≡ Ok a) × IsReady a work
    made-so (Ok a) work h = (a, refl, h)
    made-so (Err fault) work h = absurd h

    pub makes-of-policy : (told : Option (List File)) (loaded : Loaded) (work : W) → IfSome told (λ files. LoadsPolicy folder path files (Ok loaded))
        → MakesLoaded IsReady (answer_of slip answer loaded) (Ok work) → Makes (AnswersPolicy folder path slip answer) IsReady told (Ok work)
    makes-of-policy None loaded work loads h = tt
    makes-of-policy (Some files) loaded work loads h =
        let made = made-so (answer_of slip answer loaded) work h in
        (made.0, (Ok loaded, loads, sym made.1), made.2)

    rejected-so : (given : Result A Fault) (fault : Fault) → MakesLoaded IsReady given (Err (rejections.Fault fault)) → given ≡ Err fault
    rejected-so (Ok a) fault h = h
    rejected-so (Err other) fault h = h

    makes-fault : (told : Option (List File)) (loaded : Loaded) (e : Rejection) → IfSome told (λ files. LoadsPolicy folder path files (Ok loaded))
        → MakesLoaded IsReady (answer_of slip answer loaded) (Err e) → Makes (AnswersPolicy folder path slip answer) IsReady told (Err (of_rejection e))
    makes-fault None loaded e loads h = tt
    makes-fault (Some files) loaded (rejections.Fault fault) loads h = (Ok loaded, loads, sym (rejected-so (answer_of slip answer loaded) fault h))
    makes-fault (Some files) loaded rejections.Memory loads h = tt

    pub rejects-policy : (told : Option (List File)) (loaded : Loaded) (e : Rejection) (r : Result W LoadFault)
        → IfSome told (λ files. LoadsPolicy folder path files (Ok loaded)) → MakesLoaded IsReady (answer_of slip answer loaded) (Err e)
        → IsErrAnd r (λ x. x ≡ of_rejection e) → Makes (AnswersPolicy folder path slip answer) IsReady told r
    rejects-policy told loaded e (Ok work) loads h is = absurd is
    rejects-policy told loaded e (Err x) loads h is =
        subst (λ (y : LoadFault). Makes (AnswersPolicy folder path slip answer) IsReady told (Err y)) (sym is) (makes-fault told loaded e loads h)

    -- what was not loaded has its first fault
    pub loading-rejects : (told : Option (List File)) (e : LoadFault)
        → IfSome told (λ files. IfSome (load_told e) (λ fault. LoadsPolicy folder path files (Err fault)))
        → Makes (AnswersPolicy folder path slip answer) IsReady told (Err e)
    loading-rejects None e h = tt
    loading-rejects (Some files) (loads.Fault fault) h = (Err fault, h, refl)
    loading-rejects (Some files) loads.List h = tt
    loading-rejects (Some files) loads.Read h = tt
    loading-rejects (Some files) loads.Memory h = tt
