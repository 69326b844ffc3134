-- What is told of the terms of a policy: of each one, on each target of its block, a packet that it decides there, or that
-- there is none; and the lines that say so.
use Rattle.std.specs.Prelude.{◌≡◌, ℕ, List, ◌++◌, codes, flat_map, map, zip, Option, Some, Result, Ok, Err}
use Rattle.std.specs.List.{AllByRecursion, enumerate_from}
use Rattle.acl_text.specs.declared.faults.Fault.{Fault}
use Rattle.acl_text.specs.declared.wholes.Whole.{Whole}
use Rattle.acl_host.specs.declared.days.Day.{Day}
use Rattle.acl_host.specs.Files.{File}
use Rattle.acl_target.specs.TargetTexts.{target_text}
use Rattle.acl_target.specs.declared.targets.Target.{Target}
use Rattle.acl_policy.specs.declared.blocks.Block.{Block}
use Rattle.acl_terms.specs.declared.terms.Term.{Term}
use Rattle.acl_load.specs.declared.policy_loading.Loaded.{Loaded}
use Rattle.acl_load.specs.LoadedPolicies.{FirstFaultOr, LoadsPolicy}
use Rattle.acl_options.specs.PacketTexts.{packet_text}
use Rattle.acl_report.specs.Reports.{term_text}
use Rattle.acl_options.specs.Commands.{Inputs}
use Rattle.acl_run.specs.Finishing.{IsTextOf}
use Rattle.acl_dead.specs.Deciding.{Decides}
use Rattle.acl_dead.specs.declared.decisions.Decided.{Decided}
use Rattle.acl_dead.specs.declared.decisions.Decided.TheVariants as decisions

-- ---- questions

-- A term, at its place among those of its block, and a target of the block.
pub record TermQuestion : Type 0 where
  pub terms : List Term
  pub place : ℕ
  pub term : Term
  pub target : Target

abbrev pub question_on : List Term → ℕ → Term → Target → TermQuestion
question_on terms place t target = record { terms = terms; place = place; term = t; target = target }

-- On each target, in order.
abbrev pub term_questions : List Target → List Term → ℕ × Term → List TermQuestion
term_questions targets terms at = map (question_on terms at.0 at.1) targets

-- Of each term, in order.
abbrev pub block_questions : Block × List Term → List TermQuestion
block_questions b = flat_map (term_questions b.0.targets b.1) (enumerate_from 0 b.1)

-- Block by block, each with its list of terms.
abbrev pub questions_of : Loaded → List TermQuestion
questions_of loaded = flat_map block_questions (zip loaded.policy.blocks loaded.terms)

-- ---- answers

pub record TermAnswer : Type 0 where
  pub question : TermQuestion
  pub decided : Decided

unfoldable pub AnswersQuestion : Day → TermQuestion → Decided → Type 0
AnswersQuestion today q decided = Decides q.terms q.target today q.place decided

abbrev pub IsAnswered : Day → TermAnswer → Type 0
IsAnswered today a = AnswersQuestion today a.question a.decided

-- What is told of a policy: the labels of its files, and an answer for each question.
pub record DeadAnswer : Type 0 where
  pub labels : List (List ℕ)
  pub answers : List TermAnswer

-- Each question has its answer, in order.
pub record AnswersTerms (today : Day) (loaded : Loaded) (answer : DeadAnswer) : Type 0 where
  pub labels_are : answer.labels ≡ loaded.sources.labels
  pub questions_are : map (λ a. a.question) answer.answers ≡ questions_of loaded
  pub answered : AllByRecursion (IsAnswered today) answer.answers

abbrev pub AnswersLoaded : Day → Loaded → Result DeadAnswer Fault → Type 0
AnswersLoaded today loaded (Ok answer) = AnswersTerms today loaded answer
AnswersLoaded today loaded (Err fault) = ⊥

-- The naming files and the policy are loaded; the first fault of that, or the answers. No limit of a platform is judged.
abbrev pub AnswersDead : Inputs → Day → List File → Result DeadAnswer Fault → Type 0
AnswersDead inputs today files answer = (loaded : Result Loaded Fault)
    × LoadsPolicy inputs.definitions inputs.policy files loaded × FirstFaultOr (AnswersLoaded today) loaded answer

-- ---- lines

abbrev pub decided_text : Decided → List ℕ
decided_text (decisions.Packet p) = codes "decides " ++ packet_text p
decided_text decisions.Dead = codes "dead"
decided_text decisions.Undecided = codes "undecided"

-- LABEL:LINE: term NAME on TARGET: decides PACKET
--
-- The label and the line are those of the term's name. In place of the last two words it may be `dead`, or `undecided`.
unfoldable pub decided_line : List (List ℕ) → Term → Target → Decided → List ℕ
decided_line labels t target decided =
    term_text labels t ++ codes " on " ++ target_text target ++ codes ": " ++ decided_text decided ++ codes "\n"

abbrev pub answer_line : List (List ℕ) → TermAnswer → List ℕ
answer_line labels a = decided_line labels a.question.term a.question.target a.decided

-- A policy has terms and targets, so that there is something to tell always.
abbrev pub dead_text : DeadAnswer → Option (List ℕ)
dead_text answer = Some (flat_map (answer_line answer.labels) answer.answers)

-- The text of an answer is ready to be told. What it means, `IsAnswered` says of each line.
abbrev pub IsReady : DeadAnswer → Option Whole → Type 0
IsReady = IsTextOf dead_text (λ answer. Unit {0})
