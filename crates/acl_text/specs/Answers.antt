-- What a call answers, beside a definition that gives a value or an error.
--
-- The code's error may be one that no definition knows: want of memory, or a failure outside. Such an answer
-- says nothing. `told` gives the error that the definition knows.
use Rattle.std.specs.Prelude.{◌≡◌, Option, None, Some, Result, Ok, Err, IfSome}
use Rattle.acl_text.specs.declared.faults.Fault.{Fault}
use Rattle.acl_text.specs.declared.faults.Slip.{Slip}
use Rattle.acl_text.specs.declared.faults.Refusal.{Refusal}
use Rattle.acl_text.specs.declared.faults.Refusal.TheVariants as refusals
use Rattle.acl_text.specs.declared.faults.Rejection.{Rejection}
use Rattle.acl_text.specs.declared.faults.Rejection.TheVariants as rejections

-- The slip of a refusal, and the fault of a rejection.
abbrev pub slip_told : Refusal → Option Slip
slip_told (refusals.Slip slip) = Some slip
slip_told refusals.Memory = None

abbrev pub fault_told : Rejection → Option Fault
fault_told (rejections.Fault fault) = Some fault
fault_told rejections.Memory = None

-- An error is the one that is expected, as far as the definition knows it.
abbrev pub Stops : {Y E F : Type 0} → (E → Option F) → E → Result Y F → Type 0
Stops told e expected = IfSome (told e) (λ f. expected ≡ Err f)

-- The call gives the value or the error that is expected.
abbrev pub Gives : {X E F : Type 0} → (E → Option F) → Result X E → Result X F → Type 0
Gives told (Ok x) expected = expected ≡ Ok x
Gives told (Err e) expected = Stops told e expected

-- The call leaves the value that is expected in its argument, or gives the error.
abbrev pub Leaves : {X Y E F : Type 0} → (E → Option F) → Y → Result X E → Result Y F → Type 0
Leaves told now (Ok x) expected = expected ≡ Ok now
Leaves told now (Err e) expected = Stops told e expected

-- The answer, seen by the definitions, is one that the relation takes.
abbrev pub Answers : {X Y E F : Type 0} → (E → Option F) → (X → Y) → Result X E
    → (Result Y F → Type 0) → Type 0
Answers told view (Ok x) R = R (Ok (view x))
Answers told view (Err e) R = IfSome (told e) (λ f. R (Err f))
