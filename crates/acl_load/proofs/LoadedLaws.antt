-- What is loaded of a policy: lists whose items belong together, and one step behind the other.
use Rattle.std.proofs.Common.{◌≡◌, ℕ, ◌+◌, ◌<◌, List, [], ◌∷◌, ◌++◌, length, take, drop, get_or, Option, None, Some, Result, Ok, Err, IfSome, refl, ap, sym, subst, ◌∙◌}
use Rattle.std.specs.Prelude.{IsErrAnd}
use Rattle.std.specs.List.{AllZip}
use Rattle.std.proofs.lemmas.List.{drop_more, take_more}
use Rattle.acl_text.specs.declared.faults.Fault.{Fault}
use Rattle.acl_text.specs.declared.faults.Slip.{Slip}
use Rattle.acl_text.specs.Answers.{Answers, Gives}
use Rattle.acl_text.specs.Refusals.{first_in}
use Rattle.acl_host.specs.Files.{File}
use Rattle.acl_host.specs.WholeFiles.{read_told}
use Rattle.acl_host.specs.declared.look_faults.ReadFault.{ReadFault}
use Rattle.acl_host.specs.declared.look_faults.ReadFault.TheVariants as reads
use Rattle.acl_naming.specs.Definitions.{Naming}
use Rattle.acl_words.specs.Splices.{Splice}
use Rattle.acl_policy.specs.declared.blocks.Policy.{Policy}
use Rattle.acl_policy.specs.PolicyPlaces.{PolicyStands}
use Rattle.acl_terms.proofs.DistinctLaws.{slip-next}
use Rattle.acl_load.specs.declared.policy_loading.Loaded.{Loaded}
use Rattle.acl_load.specs.declared.policy_texts.PolicyText.{PolicyText}
use Rattle.acl_load.specs.LoadFaults.{load_told, of_reading}
use Rattle.acl_load.specs.Loading.{Loads}
use Rattle.acl_load.specs.declared.load_faults.LoadFault.{LoadFault}
use Rattle.acl_load.specs.LoadedPolicies.{FirstFaultOr, LoadsPolicy, Resolves, policy_at}

-- ---- lists whose items belong together

zip-push : {A B : Type 0} (R : A → B → Type 0) (xs : List A) (ys : List B) (x : A) (y : B) → AllZip R xs ys → R x y
    → AllZip R (xs ++ x ∷ []) (ys ++ y ∷ [])
zip-push R [] [] x y h r = (r, tt)
zip-push R [] (b ∷ ys) x y h r = absurd h
zip-push R (a ∷ xs) [] x y h r = absurd h
zip-push R (a ∷ xs) (b ∷ ys) x y h r = (h.0, zip-push R xs ys x y h.1 r)

pub zip-more : {A B : Type 0} (R : A → B → Type 0) (xs : List A) (i : ℕ) (x d : A) (ys next : List B) (y : B)
    → i < length xs → x ≡ get_or xs i d → next ≡ ys ++ y ∷ [] → R x y → AllZip R (take i xs) ys
    → AllZip R (take (i + 1) xs) next
zip-more R xs i x d ys next y within is pushed holds had =
    let one_more = ap (λ z. take i xs ++ z ∷ []) is ∙ sym (take_more xs i d within) in
    subst (AllZip R (take (i + 1) xs)) (sym pushed)
    (subst (λ l. AllZip R l (ys ++ y ∷ [])) one_more (zip-push R (take i xs) ys x y had holds))

-- The next of the items has passed.
pub slip-more : {A : Type 0} (question : A → Option Slip) (xs : List A) (i : ℕ) (x d : A)
    → i < length xs → x ≡ get_or xs i d → question x ≡ None
    → first_in question (drop i xs) ≡ first_in question xs
    → first_in question (drop (i + 1) xs) ≡ first_in question xs
slip-more question xs i x d within is none had =
    slip-next question x (drop i xs) (drop (i + 1) xs) (first_in question xs)
    (drop_more xs i d within ∙ ap (λ y. y ∷ drop (i + 1) xs) (sym is)) none had

-- ---- one step behind the other

told-more : {Y F : Type 0} (told : Option F) (R S : Result Y F → Type 0) → ((a : Result Y F) → R a → S a)
    → IfSome told (λ f. R (Err f)) → IfSome told (λ f. S (Err f))
told-more None R S more h = tt
told-more (Some f) R S more h = more (Err f) h

answers-more : {X Y E F : Type 0} (told : E → Option F) (view : X → Y) (r : Result X E) (R S : Result Y F → Type 0)
    → ((a : Result Y F) → R a → S a) → Answers told view r R → Answers told view r S
answers-more told view (Ok x) R S more h = more (Ok (view x)) h
answers-more told view (Err e) R S more h = told-more (told e) R S more h

pub loaded-told : {E : Type 0} (told : E → Option Fault) (held : Option (List File)) (folder path : List ℕ)
    (definitions : Naming) (text : PolicyText) (r : Result Loaded E)
    → IfSome held (λ files. Loads folder files (Ok definitions)) → IfSome held (λ files. policy_at path files ≡ Ok text)
    → Answers told (λ l. l) r (Resolves definitions text)
    → IfSome held (λ files. Answers told (λ l. l) r (LoadsPolicy folder path files))
loaded-told told None folder path definitions text r loaded read resolved = tt
loaded-told told (Some files) folder path definitions text r loaded read resolved =
    let Goes : Result Loaded Fault → Result PolicyText Fault → Type 0 = λ answer t. FirstFaultOr (Resolves definitions) t answer in
    answers-more told (λ l. l) r (Resolves definitions text) (LoadsPolicy folder path files)
    (λ answer h. (Ok definitions, loaded, subst (Goes answer) (sym read) h)) resolved

-- The policy has the first fault, behind naming files that are loaded.
pub text-told : (held : Option (List File)) (folder path : List ℕ) (definitions : Naming) (e : ReadFault) (q : Result PolicyText ReadFault) (r : Result Loaded LoadFault)
    → IfSome held (λ files. Loads folder files (Ok definitions)) → q ≡ Err e → IfSome held (λ files. Gives read_told q (policy_at path files))
    → IsErrAnd r (λ x. x ≡ of_reading e) → IfSome held (λ files. Answers load_told (λ l. l) r (LoadsPolicy folder path files))
text-told None folder path definitions e q r loaded was gives is = tt
text-told (Some files) folder path definitions e q (Ok l) loaded was gives is = absurd is
text-told (Some files) folder path definitions e q (Err x) loaded was gives is =
    subst (λ (y : LoadFault). IfSome (load_told y) (λ f. LoadsPolicy folder path files (Err f))) (sym is)
    (by e (subst (λ (z : Result PolicyText ReadFault). Gives read_told z (policy_at path files)) was gives))
  where
    by : (e : ReadFault) → Gives {X = PolicyText} read_told (Err e) (policy_at path files)
        → IfSome (load_told (of_reading e)) (λ f. LoadsPolicy folder path files (Err f))
    by (reads.Fault f) g = (Ok definitions, loaded, subst (λ (t : Result PolicyText Fault). FirstFaultOr (Resolves definitions) t (Err f)) (sym g) refl)
    by reads.Outside g = tt
    by reads.Memory g = tt

pub stand-there : (s t : Splice) (p q : Policy) → s ≡ t → p ≡ q → PolicyStands t.lines q → PolicyStands s.lines p
stand-there s t p q e f h =
    subst (λ (x : Splice). PolicyStands x.lines p) (sym e) (subst (λ (y : Policy). PolicyStands t.lines y) (sym f) h)
