-- A question has one answer at most.
use Rattle.std.proofs.Common.{◌≡◌, ℕ, ◌-◌, List, [], ◌∷◌, map, Option, None, Some, Result, Ok, Err, inl, inr, refl, ap, ap₂, sym, subst, ◌∙◌}
use Rattle.std.specs.List.{AllByRecursion}
use Rattle.acl_packet.specs.declared.filtering.Outcome.{Outcome}
use Rattle.acl_packet.specs.declared.packets.Packet.{Packet}
use Rattle.acl_text.specs.declared.faults.Code.TheVariants.{TooLong}
use Rattle.acl_text.specs.declared.faults.Fault.{Fault}
use Rattle.acl_host.specs.declared.days.Day.{Day}
use Rattle.acl_host.specs.Files.{File}
use Rattle.acl_host.specs.WholeFiles.{whole_file}
use Rattle.acl_filters.specs.AskedFilters.{FilterRequest}
use Rattle.acl_filters.specs.PlatformLanguages.{OneDocument, outcome_on}
use Rattle.acl_load.specs.declared.policy_loading.Loaded.{Loaded}
use Rattle.acl_load.specs.LoadedPolicies.{FirstFaultOr}
use Rattle.acl_load.proofs.OneAnswer.{one-answer}
use Rattle.acl_naming.specs.Definitions.{Naming}
use Rattle.acl_options.specs.CheckCommands.{FileSection}
use Rattle.aclcheck_core.specs.CheckAnswers.{AsksLoaded, AsksSection, CheckAnswer, OfPolicy, OfSection}
use Rattle.aclcheck_core.specs.CheckLaws.{PolicyAnswersAreOne, SectionAnswersAreOne}
use Rattle.aclcheck_core.specs.Deciders.{Decided, IsDecided}
use Rattle.aclcheck_core.specs.PolicyAnswers.{Answered, AnswersPolicy, IsAnswered, PolicyAnswer}
use Rattle.aclcheck_core.specs.SectionAnswers.{AnswersBytes, AnswersSection, MOST_OF_TEXT, or_no_section}
use Rattle.aclcheck_core.proofs.DeciderLaws.{one-decided}

-- ---- a policy

abbrev made : FilterRequest → Decided → Answered
made r d = record { request = r; decided = d }

one-list : (n : Naming) (today : Day) (p : Packet) (xs bs : List Answered) → map (λ (a : Answered). a.request) xs ≡ map (λ (a : Answered). a.request) bs
    → AllByRecursion (IsAnswered n today p) xs → AllByRecursion (IsAnswered n today p) bs → xs ≡ bs
one-list n today p [] [] e h k = refl
one-list n today p [] (b ∷ bs) e h k = absurd cc
one-list n today p (a ∷ xs) [] e h k = absurd cc
one-list n today p (a ∷ xs) (b ∷ bs) e h k =
    let r : a.request ≡ b.request = cc in
    let rest : map (λ (x : Answered). x.request) xs ≡ map (λ (x : Answered). x.request) bs = cc in
    let P : FilterRequest → Type 0 = λ q. IsDecided n q.target today q.written p b.decided in
    let d : a.decided ≡ b.decided = one-decided n a.request.target today a.request.written p a.decided b.decided h.0 (subst P (sym r) k.0) in
    ap₂ (λ (x : Answered) ys. x ∷ ys) (ap₂ made r d) (one-list n today p xs bs rest h.1 k.1)

abbrev answer : Day → Packet → List Answered → PolicyAnswer
answer today p xs = record { today = today; packet = p; answers = xs }

one-policy-answer : (loaded : Loaded) (today : Day) (p : Packet) (a b : PolicyAnswer) → AnswersPolicy loaded today p a → AnswersPolicy loaded today p b → a ≡ b
one-policy-answer loaded today p a b h k =
    ap₂ (λ t q. answer t q a.answers) (h.today_is ∙ sym k.today_is) (h.packet_is ∙ sym k.packet_is)
    ∙ ap (answer b.today b.packet) (one-list loaded.definitions today p a.answers b.answers (h.targets_are ∙ sym k.targets_are) h.decided k.decided)

one-of-loaded : (p : Packet) (today : Day) (loaded : Loaded) (a b : Result CheckAnswer Fault) → AsksLoaded p today loaded a → AsksLoaded p today loaded b → a ≡ b
one-of-loaded p today loaded (Ok (OfPolicy a)) (Ok (OfPolicy b)) h k = ap (λ x. Ok (OfPolicy x)) (one-policy-answer loaded today p a b h k)
one-of-loaded p today loaded (Ok (OfPolicy a)) (Ok (OfSection at o)) h k = absurd k
one-of-loaded p today loaded (Ok (OfPolicy a)) (Err fault) h k = absurd k
one-of-loaded p today loaded (Ok (OfSection at o)) b h k = absurd h
one-of-loaded p today loaded (Err fault) b h k = absurd h

one-behind : {A B : Type 0} (next : A → Result B Fault → Type 0) → ((x : A) (a b : Result B Fault) → next x a → next x b → a ≡ b)
    → (first : Result A Fault) (a b : Result B Fault) → FirstFaultOr next first a → FirstFaultOr next first b → a ≡ b
one-behind next one (Ok x) a b h k = one x a b h k
one-behind next one (Err fault) a b h k = h ∙ sym k

pub one-policy : PolicyAnswersAreOne
one-policy inputs p today files a b h k =
    let same = one-answer inputs.definitions inputs.policy files h.0 k.0 h.1 k.1 in
    one-behind (AsksLoaded p today) (one-of-loaded p today) h.0 a b h.2
    (subst (λ (l : Result Loaded Fault). FirstFaultOr (AsksLoaded p today) l b) (sym same) k.2)

-- ---- a section

one-of-bytes : OneDocument → (at : FileSection) (p : Packet) (bytes : List ℕ) (a b : Result Outcome Fault) → AnswersBytes at p bytes a
    → AnswersBytes at p bytes b → a ≡ b
one-of-bytes one at p bytes a b (inl h) (inl k) =
    h.2 ∙ ap (λ doc. or_no_section at (outcome_on at.kind doc (at.number - 1) p)) (one at.kind bytes h.0 k.0 h.1 k.1) ∙ sym k.2
one-of-bytes one at p bytes a b (inl h) (inr k) = absurd (k.0 h.0 h.1)
one-of-bytes one at p bytes a b (inr h) (inl k) = absurd (h.0 k.0 k.1)
one-of-bytes one at p bytes a b (inr h) (inr k) = h.1 ∙ sym k.1

one-outcome-of : OneDocument → (at : FileSection) (p : Packet) (files : List File) (a b : Result Outcome Fault) → AnswersSection at p files a
    → AnswersSection at p files b → a ≡ b
one-outcome-of one at p files a b h k =
    one-behind (AnswersBytes at p) (one-of-bytes one at p) (whole_file MOST_OF_TEXT TooLong at.path files) a b h k

pub one-section : OneDocument → SectionAnswersAreOne
one-section one at p files (Ok (OfPolicy a)) b h k = absurd h
one-section one at p files (Ok (OfSection of o)) (Ok (OfPolicy b)) h k = absurd k
one-section one at p files (Ok (OfSection of o)) (Ok (OfSection of' o')) h k =
    let same : o ≡ o' = ok-same o o' (one-outcome-of one at p files (Ok o) (Ok o') h.1 k.1) in
    ap₂ (λ s x. Ok (OfSection s x)) (h.0 ∙ sym k.0) same
  where
    ok-same : (x y : Outcome) → (λ (r : Result Outcome Fault). r) (Ok x) ≡ Ok y → x ≡ y
    ok-same x y e = cc
one-section one at p files (Ok (OfSection of o)) (Err fault) h k = absurd (not-both o fault (one-outcome-of one at p files (Ok o) (Err fault) h.1 k))
  where
    not-both : (x : Outcome) (f : Fault) → (λ (r : Result Outcome Fault). r) (Ok x) ≡ Err f → ⊥
    not-both x f e = cc
one-section one at p files (Err fault) (Ok (OfPolicy b)) h k = absurd k
one-section one at p files (Err fault) (Ok (OfSection of o)) h k = absurd (not-both o fault (one-outcome-of one at p files (Ok o) (Err fault) k.1 h))
  where
    not-both : (x : Outcome) (f : Fault) → (λ (r : Result Outcome Fault). r) (Ok x) ≡ Err f → ⊥
    not-both x f e = cc
one-section one at p files (Err fault) (Err other) h k = err-same fault other (one-outcome-of one at p files (Err fault) (Err other) h k)
  where
    err-same : (f g : Fault) → (λ (r : Result Outcome Fault). r) (Err f) ≡ Err g → (λ (r : Result CheckAnswer Fault). r) (Err f) ≡ Err g
    err-same f g e = cc
