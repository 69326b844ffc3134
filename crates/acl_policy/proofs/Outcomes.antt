-- What holds of each value that a step may give, and of its slip.
use Rattle.std.proofs.Common.{◌≡◌, Bool, true, false, not, ◌&&◌, if◌then◌else◌, Option, None, Some, Result, Ok, Err, IfSome, option_and_then, refl}
use Rattle.acl_text.specs.AnsweredCodes.{IsAnswered}
use Rattle.acl_text.specs.declared.faults.Code.{Code}
use Rattle.acl_text.specs.declared.faults.Slip.{Slip}
use Rattle.acl_text.specs.declared.faults.Place.{Place}
use Rattle.acl_text.specs.Steps.{◌>>=◌}
use Rattle.acl_words.specs.declared.forms.Form.{Form}
use Rattle.acl_words.specs.declared.forms.Form.TheVariants as forms
use Rattle.acl_policy.specs.Slips.{code_for}

-- a word that is a slip by itself has such a code too
pub answered_for : (f : Form) (code : Code) → IsAnswered code → IsAnswered (code_for f code)
answered_for forms.Plain code h = h
answered_for forms.Quoted code h = h
answered_for forms.Unclosed code h = tt
answered_for forms.Bad code h = tt
answered_for forms.Keyword code h = h
answered_for forms.Begin code h = h
answered_for forms.End code h = h

-- A step gives a value that has Q, or such a slip.
abbrev pub Has : {A : Type 0} → (Slip → Type 0) → (A → Type 0) → Result A Slip → Type 0
Has At Q (Ok a) = Q a
Has At Q (Err slip) = At slip

-- A slip stands at such a place, and `aclgen` answers its code.
abbrev pub ToldAt : (Place → Type 0) → Slip → Type 0
ToldAt At slip = At slip.place × IsAnswered slip.code

module _ (At : Slip → Type 0) where
  pub bind_has : {A B : Type 0} (P : A → Type 0) (Q : B → Type 0) (x : Result A Slip) (f : A → Result B Slip)
      → Has At P x → ((a : A) → P a → Has At Q (f a)) → Has At Q (x >>= f)
  bind_has P Q (Ok a) f h k = k a h
  bind_has P Q (Err e) f h k = h

  pub if_has : {B : Type 0} (Q : B → Type 0) (c : Bool) (x y : Result B Slip)
      → (c ≡ true → Has At Q x) → (c ≡ false → Has At Q y) → Has At Q (if c then x else y)
  if_has Q true x y h k = h refl
  if_has Q false x y h k = k refl

  pub weaker : {A : Type 0} (P Q : A → Type 0) (x : Result A Slip)
      → Has At P x → ((a : A) → P a → Q a) → Has At Q x
  weaker P Q (Ok a) h k = k a h
  weaker P Q (Err e) h k = h

  pub at_other : {A : Type 0} (To : Slip → Type 0) (Q : A → Type 0) (x : Result A Slip)
      → Has At Q x → ((s : Slip) → At s → To s) → Has To Q x
  at_other To Q (Ok a) h k = h
  at_other To Q (Err e) h k = k e h

pub some_if : {B : Type 0} (Q : B → Type 0) (c : Bool) (x y : Option B) → (c ≡ true → IfSome x Q) → (c ≡ false → IfSome y Q) → IfSome (if c then x else y) Q
some_if Q true x y h k = h refl
some_if Q false x y h k = k refl

pub then_has : {A B : Type 0} (P : A → Type 0) (Q : B → Type 0) (f : A → Option B) (o : Option A) → IfSome o P → ((a : A) → P a → IfSome (f a) Q) → IfSome (option_and_then f o) Q
then_has P Q f (Some a) h k = k a h
then_has P Q f None h k = tt

pub some_from : {A : Type 0} (P : A → Type 0) (o : Option A) → ((a : A) → o ≡ Some a → P a) → IfSome o P
some_from P (Some a) h = h a refl
some_from P None h = tt

pub weaker_some : {A : Type 0} (P Q : A → Type 0) (x : Option A) → IfSome x P → ((a : A) → P a → Q a) → IfSome x Q
weaker_some P Q (Some a) h k = k a h
weaker_some P Q None h k = tt

pub and_right : (b c : Bool) → (b && c) ≡ true → c ≡ true
and_right true c h = h
and_right false c h = cc

pub not_false : (b : Bool) → not b ≡ false → b ≡ true
not_false true h = refl
not_false false h = cc
