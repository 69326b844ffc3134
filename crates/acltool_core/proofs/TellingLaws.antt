-- Lines on answers, one behind the other; and the answer on a policy that they make.
use Rattle.std.proofs.Common.{◌≡◌, ℕ, ◌<◌, ◌≤◌, ◌+◌, ◌-◌, List, [], ◌∷◌, ◌++◌, drop, take, flat_map, length, map, zip, get_or, Option, None, Some, Result, Ok, Err, IfSome, refl, ap, ap₂, sym, subst, ◌∙◌, append_assoc, append-nil, arith}
use Rattle.std.specs.Prelude.{OnOk}
use Rattle.std.specs.List.{AllByRecursion, enumerate_from}
use Rattle.std.proofs.lemmas.Grind.{flat_map-append}
use Rattle.std.proofs.lemmas.List.{drop_all, drop_more, map-append, take_rest}
use Rattle.acl_text.specs.declared.faults.Fault.{Fault}
use Rattle.acl_text.specs.declared.wholes.Whole.{Whole}
use Rattle.acl_text.proofs.ListLaws.{all_append}
use Rattle.acl_host.specs.declared.days.Day.{Day}
use Rattle.acl_host.specs.Files.{File}
use Rattle.acl_target.specs.declared.targets.Target.{Target}
use Rattle.acl_policy.specs.declared.blocks.Block.{Block}
use Rattle.acl_terms.specs.declared.terms.Term.{Term}
use Rattle.acl_load.specs.LoadedPolicies.{LoadsPolicy}
use Rattle.acl_load.specs.declared.load_faults.LoadFault.{LoadFault}
use Rattle.acl_load.specs.declared.policy_loading.Loaded.{Loaded}
use Rattle.acl_options.specs.Commands.{Inputs}
use Rattle.acl_run.specs.PolicyAnswers.{Makes}
use Rattle.acl_dead.specs.Deciding.{Decides}
use Rattle.acl_dead.specs.declared.decisions.Decided.{Decided}
use Rattle.acltool_core.specs.TellingSteps.{Tells, TellsThese}
use Rattle.acltool_core.specs.TermAnswers.{AnswersDead, AnswersQuestion, DeadAnswer, IsAnswered, IsReady, TermAnswer, TermQuestion, answer_line, block_questions, decided_line, question_on, questions_of, term_questions}

module _ (labels : List (List ℕ)) (today : Day) where
  pub tells-none : (text : List ℕ) → Tells labels today [] text text
  tells-none text = ([], record { questions_are = refl; answered = tt; text_is = sym (append-nil text) })

  pub tells-one : (q : TermQuestion) (d : Decided) (old new : List ℕ) → Decides q.terms q.target today q.place d
      → new ≡ old ++ decided_line labels q.term q.target d → Tells labels today (q ∷ []) old new
  unfolding AnswersQuestion
  tells-one q d old new h e = (
    record { question = q; decided = d } ∷ [],
    record {
      questions_are = refl;
      answered = (h, tt);
      text_is = e ∙ ap (λ line. old ++ line) (sym (append-nil (decided_line labels q.term q.target d)));
    },
  )

  pub tells-append : (xs ys : List TermQuestion) (a b c : List ℕ) → Tells labels today xs a b → Tells labels today ys b c → Tells labels today (xs ++ ys) a c
  tells-append xs ys a b c h k = (
    h.0 ++ k.0,
    record {
      questions_are = map-append (λ (x : TermAnswer). x.question) h.0 k.0 ∙ ap₂ (λ us vs. us ++ vs) h.1.questions_are k.1.questions_are;
      answered = all_append (IsAnswered today) h.0 k.0 h.1.answered k.1.answered;
      text_is = k.1.text_is ∙ ap (λ t. t ++ flat_map (answer_line labels) k.0) h.1.text_is
          ∙ append_assoc a (flat_map (answer_line labels) h.0) (flat_map (answer_line labels) k.0)
          ∙ ap (λ t. a ++ t) (sym (flat_map-append (answer_line labels) h.0 k.0));
    },
  )

  -- a line that may have wanted memory
  pub tells-put : {E : Type 0} (q : TermQuestion) (d : Decided) (old new : List ℕ) (r : Result (Unit {0}) E) → Decides q.terms q.target today q.place d
      → OnOk r (new ≡ old ++ decided_line labels q.term q.target d) → OnOk r (Tells labels today (q ∷ []) old new)
  tells-put q d old new (Ok x) h e = tells-one q d old new h e
  tells-put q d old new (Err x) h e = tt

  -- lines behind others
  pub tells-more : {E : Type 0} (xs ys : List TermQuestion) (a b c : List ℕ) (r : Result (Unit {0}) E) → Tells labels today xs a b
      → OnOk r (Tells labels today ys b c) → OnOk r (Tells labels today (xs ++ ys) a c)
  tells-more xs ys a b c (Ok x) h k = tells-append xs ys a b c h k
  tells-more xs ys a b c (Err x) h k = tt

-- ---- lists

-- A list that begins with an item, and the rest of it as a slice pattern gives it.
pub first-rest : {X : Type 0} (xs : List X) (x : X) → 1 ≤ length xs → x ≡ get_or xs 0 x → xs ≡ x ∷ take (length xs - 1) (drop 1 xs)
first-rest [] x h e = absurd (omega (arith, h))
first-rest (y ∷ xs) x h e = ap (λ z. z ∷ xs) (sym e) ∙ ap (λ zs. x ∷ zs) (sym (take_rest (y ∷ xs) 1))

-- the questions on the terms from a place on
pub terms-from : (targets : List Target) (terms : List Term) (place : ℕ) (t : Term) → place < length terms → t ≡ get_or terms place t
    → flat_map (term_questions targets terms) (enumerate_from place (drop place terms))
    ≡ map (question_on terms place t) targets ++ flat_map (term_questions targets terms) (enumerate_from (place + 1) (drop (place + 1) terms))
terms-from targets terms place t h e =
    ap (λ xs. flat_map (term_questions targets terms) (enumerate_from place xs))
    (drop_more terms place t h ∙ ap (λ x. x ∷ drop (place + 1) terms) (sym e))

-- none are left behind the last
pub none-left : (targets : List Target) (terms : List Term) (place : ℕ) → length terms ≤ place
    → flat_map (term_questions targets terms) (enumerate_from place (drop place terms)) ≡ []
none-left targets terms place h = ap (λ xs. flat_map (term_questions targets terms) (enumerate_from place xs)) (drop_all place terms h)

-- the questions of blocks that begin with one
pub blocks-from : (bs : List Block) (b : Block) → 1 ≤ length bs → b ≡ get_or bs 0 b → (ls : List (List Term)) (l : List Term) → 1 ≤ length ls
    → l ≡ get_or ls 0 l → flat_map block_questions (zip bs ls)
    ≡ block_questions (b, l) ++ flat_map block_questions (zip (take (length bs - 1) (drop 1 bs)) (take (length ls - 1) (drop 1 ls)))
blocks-from bs b some is ls l more so =
    ap (λ xs. flat_map block_questions (zip xs ls)) (first-rest bs b some is)
    ∙ ap (λ ys. flat_map block_questions (zip (b ∷ take (length bs - 1) (drop 1 bs)) ys)) (first-rest ls l more so)

-- ---- the whole

pub told : (inputs : Inputs) (today : Day) (files : Option (List File)) (loaded : Loaded) (text : Whole)
    → IfSome files (λ fs. LoadsPolicy inputs.definitions inputs.policy fs (Ok loaded))
    → Tells loaded.sources.labels today (questions_of loaded) [] text.bytes
    → Makes (AnswersDead inputs today) IsReady files (Ok (Some text))
told inputs today None loaded text loads h = tt
told inputs today (Some files) loaded text loads h = (
  record { labels = loaded.sources.labels; answers = h.0 },
  (Ok loaded, loads, record { labels_are = refl; questions_are = h.1.questions_are; answered = h.1.answered }),
  record { text_is = ap Some h.1.text_is; means = tt },
)
