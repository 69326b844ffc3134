-- There is one answer at most.
use Rattle.std.proofs.Common.{◌≡◌, List, [], ◌∷◌, map, Result, Ok, Err, ap, ap₂, refl, sym, subst, ◌∙◌}
use Rattle.std.specs.List.{AllByRecursion}
use Rattle.acl_text.specs.declared.faults.Fault.{Fault}
use Rattle.acl_host.specs.declared.days.Day.{Day}
use Rattle.acl_load.proofs.OneAnswer.{one-answer}
use Rattle.acl_load.specs.LoadedPolicies.{FirstFaultOr}
use Rattle.acl_load.specs.declared.policy_loading.Loaded.{Loaded}
use Rattle.acl_dead.specs.Deciding.{AnswersAreOne}
use Rattle.acl_dead.specs.declared.decisions.Decided.{Decided}
use Rattle.acltool_core.specs.DeadLaws.{DeadAnswersAreOne}
use Rattle.acltool_core.specs.TermAnswers.{AnswersLoaded, AnswersQuestion, AnswersTerms, DeadAnswer, IsAnswered, TermAnswer, TermQuestion}

cons-nil : {A : Type 0} (x : A) (xs : List A) → x ∷ xs ≡ [] → ⊥
cons-nil x xs e = cc

abbrev answer-to : TermQuestion → Decided → TermAnswer
answer-to q d = record { question = q; decided = d }

one-decided : AnswersAreOne → (today : Day) (q : TermQuestion) (a b : Decided) → AnswersQuestion today q a → AnswersQuestion today q b → a ≡ b
unfolding AnswersQuestion
one-decided one today q a b h k = one q.terms q.target today q.place a b h k

one-answer-to : AnswersAreOne → (today : Day) (x y : TermAnswer) → x.question ≡ y.question → IsAnswered today x → IsAnswered today y → x ≡ y
one-answer-to one today x y q h k =
    ap₂ answer-to q (one-decided one today x.question x.decided y.decided h (subst (λ z. AnswersQuestion today z y.decided) (sym q) k))

first-or : {A : Type 0} → A → List A → A
first-or d [] = d
first-or d (x ∷ xs) = x

behind : {A : Type 0} → List A → List A
behind [] = []
behind (x ∷ xs) = xs

abbrev questions : List TermAnswer → List TermQuestion
questions xs = map (λ (x : TermAnswer). x.question) xs

one-list : AnswersAreOne → (today : Day) (xs ys : List TermAnswer) → questions xs ≡ questions ys → AllByRecursion (IsAnswered today) xs
    → AllByRecursion (IsAnswered today) ys → xs ≡ ys
unfolding first-or behind
one-list one today [] [] e h k = refl
one-list one today [] (y ∷ ys) e h k = absurd (cons-nil y.question (questions ys) (sym e))
one-list one today (x ∷ xs) [] e h k = absurd (cons-nil x.question (questions xs) e)
one-list one today (x ∷ xs) (y ∷ ys) e h k =
    ap₂ (λ (a : TermAnswer) zs. a ∷ zs) (one-answer-to one today x y (ap (first-or x.question) e) h.0 k.0)
    (one-list one today xs ys (ap behind e) h.1 k.1)

one-of-terms : AnswersAreOne → (today : Day) (loaded : Loaded) (a b : DeadAnswer) → AnswersTerms today loaded a → AnswersTerms today loaded b → a ≡ b
one-of-terms one today loaded a b h k =
    ap₂ (λ labels answers. record { labels = labels; answers = answers }) (h.labels_are ∙ sym k.labels_are)
    (one-list one today a.answers b.answers (h.questions_are ∙ sym k.questions_are) h.answered k.answered)

one-judged : AnswersAreOne → (today : Day) (loaded : Result Loaded Fault) (a b : Result DeadAnswer Fault) → FirstFaultOr (AnswersLoaded today) loaded a
    → FirstFaultOr (AnswersLoaded today) loaded b → a ≡ b
one-judged one today (Err fault) a b h k = h ∙ sym k
one-judged one today (Ok loaded) (Ok a) (Ok b) h k = ap Ok (one-of-terms one today loaded a b h k)
one-judged one today (Ok loaded) (Ok a) (Err fault) h k = absurd k
one-judged one today (Ok loaded) (Err fault) b h k = absurd h

pub one-dead : AnswersAreOne → DeadAnswersAreOne
one-dead one inputs today files a b h k =
    let same = one-answer inputs.definitions inputs.policy files h.0 k.0 h.1 k.1 in
    one-judged one today h.0 a b h.2 (subst (λ (l : Result Loaded Fault). FirstFaultOr (AnswersLoaded today) l b) (sym same) k.2)
