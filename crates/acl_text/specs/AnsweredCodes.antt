-- The codes of the faults that `aclgen` answers.
--
-- The others are of questions that it does not ask: on a filter without a policy, on a text by itself, and on lists that
-- have a number.
use Rattle.std.specs.Prelude.{Option, Result, IfSome, IfErr}
use Rattle.acl_text.specs.declared.faults.Code.{Code}
use Rattle.acl_text.specs.declared.faults.Code.TheVariants.{NoPolicy, NoDocument, NoSection, NumberRange}
use Rattle.acl_text.specs.declared.faults.Fault.{Fault}
use Rattle.acl_text.specs.declared.faults.Slip.{Slip}

abbrev pub IsAnswered : Code → Type 0
IsAnswered NoPolicy = ⊥
IsAnswered NoDocument = ⊥
IsAnswered NoSection = ⊥
IsAnswered NumberRange = ⊥
IsAnswered code = Unit {0}

-- No slip, or one of such a code.
abbrev pub SlipIsAnswered : Option Slip → Type 0
SlipIsAnswered o = IfSome o (λ s. IsAnswered s.code)

-- A value, or a slip of such a code.
abbrev pub EndsAnswered : {X : Type 0} → Result X Slip → Type 0
EndsAnswered r = IfErr r (λ s. IsAnswered s.code)

-- A value, or a fault of such a code.
abbrev pub FailsAnswered : {X : Type 0} → Result X Fault → Type 0
FailsAnswered r = IfErr r (λ f. IsAnswered f.code)
