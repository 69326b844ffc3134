-- What the first word of a target line decides.
use Rattle.std.proofs.Common.{◌≡◌, ◌<◌, ◌≤◌, ◌-◌, Bool, true, false, if◌then◌else◌, List, [], ◌∷◌, length, get_or, take, drop, Option, None, Some, Result, Ok, Err, ap, sym, ◌∙◌, arith}
use Rattle.std.proofs.lemmas.List.{take_rest}
use Rattle.acl_packet.specs.declared.addresses.Families.{Families}
use Rattle.acl_text.specs.Answers.{Stops, slip_told}
use Rattle.acl_text.specs.Refusals.{IsRefusalBy}
use Rattle.acl_text.specs.Steps.{◌>>=◌}
use Rattle.acl_text.specs.declared.faults.Code.TheVariants.{TargetLine}
use Rattle.acl_text.specs.declared.faults.Refusal.{Refusal}
use Rattle.acl_text.specs.declared.faults.Refusal.TheVariants as refusals
use Rattle.acl_text.specs.declared.faults.Slip.{Slip}
use Rattle.acl_target.specs.declared.targets.Kind.{Kind}
use Rattle.acl_target.specs.declared.targets.Kind.TheVariants.{Nftables}
use Rattle.acl_words.specs.Tokens.{Token}
use Rattle.acl_policy.specs.Slips.{slip_for}
use Rattle.acl_policy.specs.Targets.{device_line, device_words, family_word, hooked_line, last_family, name_word, nftables_line, or_slip}

-- A list that begins with a word, and the rest of it as a slice pattern gives it.
pub first_rest : {X : Type 0} (xs : List X) (x : X) → 1 ≤ length xs → x ≡ get_or xs 0 x → xs ≡ x ∷ take (length xs - 1) (drop 1 xs)
first_rest [] x h e = absurd (omega (arith, h))
first_rest (y ∷ xs) x h e = ap (λ z. z ∷ xs) (sym e) ∙ ap (λ zs. x ∷ zs) (sym (take_rest (y ∷ xs) 1))

-- The refusal is by the slip that is expected.
pub refused : {X : Type 0} (s : Slip) (r : Refusal) (expected : Result X Slip) → IsRefusalBy s r → expected ≡ Err s
    → Stops slip_told r expected
refused s (refusals.Slip t) expected is e = e ∙ ap Err (sym is)
refused s refusals.Memory expected is e = tt

module _ (k p w : Token) (all ws : List Token) (words : all ≡ w ∷ ws) where
  by_name : (kind : Kind) (b : Bool) → name_word w ≡ b
      → device_line kind k p all ≡ (if b then device_words kind k w ws else Err (slip_for TargetLine w))
  by_name kind b e = ap (device_line kind k p) words
      ∙ ap (λ (c : Bool). if c then device_words kind k w ws else Err (slip_for TargetLine w)) e

  pub named_line : (kind : Kind) → name_word w ≡ true → device_line kind k p all ≡ device_words kind k w ws
  named_line kind e = by_name kind true e

  pub unnamed_line : (kind : Kind) → name_word w ≡ false → device_line kind k p all ≡ Err (slip_for TargetLine w)
  unnamed_line kind e = by_name kind false e

  pub by_families : (o : Option Families) → family_word Nftables w ≡ o
      → nftables_line k p all ≡ (or_slip w o >>= λ families. hooked_line k p families ws)
  by_families o e = ap (nftables_line k p) words ∙ ap (λ x. or_slip w x >>= λ families. hooked_line k p families ws) e

module _ (kind : Kind) (w : Token) (all ws : List Token) (words : all ≡ w ∷ ws) where
  -- The first word is at fault, whatever stands behind it.
  no_family : (vs : List Token) → family_word kind w ≡ None → last_family kind (w ∷ vs) ≡ Err (slip_for TargetLine w)
  no_family [] e = ap (or_slip w) e
  no_family (v ∷ vs) e = ap (λ o. or_slip w o >>= λ f. Err (slip_for TargetLine v)) e

  pub family_missing : family_word kind w ≡ None → last_family kind all ≡ Err (slip_for TargetLine w)
  family_missing e = ap (last_family kind) words ∙ no_family ws e

  family_alone : (vs : List Token) (f : Families) → length vs < 1 → family_word kind w ≡ Some f → last_family kind (w ∷ vs) ≡ Ok f
  family_alone [] f h e = ap (or_slip w) e
  family_alone (v ∷ vs) f h e = absurd (omega (arith, h))

  pub family_is : (f : Families) → length ws < 1 → family_word kind w ≡ Some f → last_family kind all ≡ Ok f
  family_is f h e = ap (last_family kind) words ∙ family_alone ws f h e

  pub family_behind : (f : Families) (v : Token) (vs : List Token) → ws ≡ v ∷ vs → family_word kind w ≡ Some f
      → last_family kind all ≡ Err (slip_for TargetLine v)
  family_behind f v vs more e = ap (last_family kind) words ∙ ap (λ l. last_family kind (w ∷ l)) more
      ∙ ap (λ o. or_slip w o >>= λ f. Err (slip_for TargetLine v)) e
