-- Steps that give a value or a slip, one behind the other, and what holds of the values that they give.
use Rattle.std.proofs.Common.{◌≡◌, Bool, true, false, not, ◌&&◌, if◌then◌else◌, Result, Ok, Err, IfOk, refl, ap, ◌∙◌}
use Rattle.acl_text.specs.Steps.{◌>>=◌}
pub use Rattle.acl_policy.proofs.Outcomes.{some_if, then_has, weaker_some, and_right}

pub bind_assoc : {A B C E : Type 0} (x : Result A E) (f : A → Result B E) (g : B → Result C E)
    → ((x >>= f) >>= g) ≡ (x >>= λ a. f a >>= g)
bind_assoc (Ok a) f g = refl
bind_assoc (Err e) f g = refl

pub bind_same : {A B E : Type 0} (x : Result A E) (f g : A → Result B E) → ((a : A) → f a ≡ g a) → (x >>= f) ≡ (x >>= g)
bind_same (Ok a) f g h = h a
bind_same (Err e) f g h = refl

pub bind_ok : {A B E : Type 0} (P : A → Type 0) (Q : B → Type 0) (x : Result A E) (f : A → Result B E)
    → IfOk x P → ((a : A) → P a → IfOk (f a) Q) → IfOk (x >>= f) Q
bind_ok P Q (Ok a) f h k = k a h
bind_ok P Q (Err e) f h k = tt

pub if_ok : {B E : Type 0} (Q : B → Type 0) (c : Bool) (x y : Result B E)
    → (c ≡ true → IfOk x Q) → (c ≡ false → IfOk y Q) → IfOk (if c then x else y) Q
if_ok Q true x y h k = h refl
if_ok Q false x y h k = k refl

pub weaker_ok : {A E : Type 0} (P Q : A → Type 0) (x : Result A E) → IfOk x P → ((a : A) → P a → Q a) → IfOk x Q
weaker_ok P Q (Ok a) h k = k a h
weaker_ok P Q (Err e) h k = tt

pub always_ok : {A E : Type 0} (P : Type 0) (x : Result A E) → P → IfOk x (λ _. P)
always_ok P (Ok a) p = p
always_ok P (Err e) p = tt

pub and_left : (b c : Bool) → (b && c) ≡ true → b ≡ true
and_left true c h = refl
and_left false c h = h

pub and_both : (b c : Bool) → b ≡ true → c ≡ true → (b && c) ≡ true
and_both b c h k = ap (λ x. x && c) h ∙ k

pub not_true : (b : Bool) → not b ≡ true → b ≡ false
not_true false h = refl
not_true true h = cc

pub is_not : (b : Bool) → b ≡ false → not b ≡ true
is_not b h = ap not h

-- A branch that is known.
pub if_true : {A : Type 0} (c : Bool) (x y : A) → c ≡ true → (if c then x else y) ≡ x
if_true c x y h = ap (λ b. if b then x else y) h

pub if_false : {A : Type 0} (c : Bool) (x y : A) → c ≡ false → (if c then x else y) ≡ y
if_false c x y h = ap (λ b. if b then x else y) h
