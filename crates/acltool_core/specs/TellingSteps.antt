-- Lines that are put one behind the other, each on an answer.
use Rattle.std.specs.Prelude.{◌≡◌, ℕ, ◌++◌, List, flat_map, map}
use Rattle.std.specs.List.{AllByRecursion}
use Rattle.acl_host.specs.declared.days.Day.{Day}
use Rattle.acltool_core.specs.TermAnswers.{IsAnswered, TermAnswer, TermQuestion, answer_line}

-- These answers are told.
pub record TellsThese (labels : List (List ℕ)) (today : Day) (questions : List TermQuestion) (old new : List ℕ)
    (answers : List TermAnswer) : Type 0 where
  pub questions_are : map (λ a. a.question) answers ≡ questions
  pub answered : AllByRecursion (IsAnswered today) answers
  pub text_is : new ≡ old ++ flat_map (answer_line labels) answers

-- Some are, one for each question.
abbrev pub Tells : List (List ℕ) → Day → List TermQuestion → List ℕ → List ℕ → Type 0
Tells labels today questions old new =
    (answers : List TermAnswer) × TellsThese labels today questions old new answers
