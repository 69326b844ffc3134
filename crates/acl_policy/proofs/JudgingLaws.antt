-- What the words that come give behind those that a judge holds.
use Rattle.std.proofs.Common.{◌≡◌, ◌∙◌, ◌≤◌, Bool, true, false, if◌then◌else◌, List, [], ◌∷◌, ◌++◌, length, Option, Some, Result, Ok, Err, refl, sym, subst, ap, append_assoc, append-nil}
use Rattle.std.specs.Prelude.{IsErrAnd}
use Rattle.acl_text.specs.Answers.{Stops, slip_told}
use Rattle.acl_text.specs.declared.faults.Refusal.{Refusal}
use Rattle.acl_text.specs.declared.faults.Refusal.TheVariants as refusals
use Rattle.acl_text.specs.declared.faults.Slip.{Slip}
use Rattle.acl_text.specs.Steps.{◌>>=◌}
use Rattle.acl_words.specs.Tokens.{Token}
use Rattle.acl_policy.specs.declared.states.PolicyState.{PolicyState}
use Rattle.acl_policy.specs.JudgingSteps.{KeepsReading, behind_open, still_open, rest_behind}
use Rattle.acl_policy.specs.Policies.{is_mark, values_of, behind_mark, behind_marks}
use Rattle.acl_policy.proofs.ClausesInParts.{open_in_parts}

bind_assoc : {A B C : Type 0} (x : Result A Slip) (f : A → Result B Slip) (g : B → Result C Slip)
    → ((x >>= f) >>= g) ≡ (x >>= λ a. f a >>= g)
bind_assoc (Ok a) f g = refl
bind_assoc (Err e) f g = refl

same_bind : {A : Type 0} (x : Result A Slip) → (x >>= λ a. Ok a) ≡ x
same_bind (Ok a) = refl
same_bind (Err e) = refl

-- A step that ends with a refusal has the slip of what was to be read.
pub ends_reading : {X : Type 0} (old new : List Token → Result PolicyState Slip) (e : Refusal) (r : Result X Refusal)
    → IsErrAnd r (λ f. f ≡ e) → ((ws : List Token) → Stops slip_told e (old ws)) → KeepsReading old new r
ends_reading old new e (Ok x) is stops = absurd is
ends_reading old new e (Err f) is stops = λ ws. subst (λ g. Stops slip_told g (old ws)) (sym is) (stops ws)

module _ (mark : Option Token) (s : PolicyState) (vs : List Token) where
  abbrev now : Result PolicyState Slip
  now = behind_open mark s vs

  -- A word that is no mark.
  value_by : (c : Bool) (w : Token) (ws : List Token) → c ≡ false
      → (behind_open mark s (vs ++ (if c then [] else w ∷ values_of ws))
      >>= λ t. if c then (behind_mark w.form t w (values_of ws) >>= λ u. behind_marks u ws) else behind_marks t ws)
      ≡ (behind_open mark s ((vs ++ w ∷ []) ++ values_of ws) >>= λ t. behind_marks t ws)
  value_by true w ws e = absurd cc
  value_by false w ws e = ap (λ l. behind_open mark s l >>= λ t. behind_marks t ws) (sym (append_assoc vs (w ∷ []) (values_of ws)))

  pub value_comes : (w : Token) → is_mark w.form ≡ false → (ws : List Token)
      → rest_behind mark s vs (w ∷ ws) ≡ rest_behind mark s (vs ++ w ∷ []) ws
  unfolding rest_behind
  value_comes w e ws = value_by (is_mark w.form) w ws e

  -- A keyword or a brace.
  mark_by : (c : Bool) (w : Token) (ws : List Token) → c ≡ true
      → (behind_open mark s (vs ++ (if c then [] else w ∷ values_of ws))
      >>= λ t. if c then (behind_mark w.form t w (values_of ws) >>= λ u. behind_marks u ws) else behind_marks t ws)
      ≡ (now >>= λ t. behind_mark w.form t w (values_of ws) >>= λ u. behind_marks u ws)
  mark_by true w ws e = ap (λ l. behind_open mark s l >>= λ t. behind_mark w.form t w (values_of ws) >>= λ u. behind_marks u ws) (append-nil vs)
  mark_by false w ws e = absurd cc

  mark_comes : (w : Token) → is_mark w.form ≡ true → (ws : List Token)
      → rest_behind mark s vs (w ∷ ws) ≡ (now >>= λ t. rest_behind (Some w) t [] ws)
  unfolding rest_behind
  mark_comes w e ws = mark_by (is_mark w.form) w ws e

  -- A word behind many.
  more_by : (c : Bool) (w : Token) (ws : List Token) → c ≡ false → 8 ≤ length vs
      → (behind_open mark s (vs ++ (if c then [] else w ∷ values_of ws))
      >>= λ t. if c then (behind_mark w.form t w (values_of ws) >>= λ u. behind_marks u ws) else behind_marks t ws)
      ≡ (now >>= λ t. behind_open (still_open mark) t (if c then [] else w ∷ values_of ws)
      >>= λ u. if c then (behind_mark w.form u w (values_of ws) >>= λ u. behind_marks u ws) else behind_marks u ws)
  more_by true w ws e h = absurd cc
  more_by false w ws e h = ap (λ x. x >>= λ t. behind_marks t ws) (open_in_parts mark s vs w (values_of ws) h)
      ∙ bind_assoc now _ _

  more_comes : (w : Token) → is_mark w.form ≡ false → 8 ≤ length vs → (ws : List Token)
      → rest_behind mark s vs (w ∷ ws) ≡ (now >>= λ t. rest_behind (still_open mark) t [] (w ∷ ws))
  unfolding rest_behind
  more_comes w e h ws = more_by (is_mark w.form) w ws e h

  pub nothing_comes : rest_behind mark s vs [] ≡ now
  unfolding rest_behind
  nothing_comes = same_bind (behind_open mark s (vs ++ [])) ∙ ap (λ l. behind_open mark s l) (append-nil vs)

  pub mark_goes_on : (t : PolicyState) → now ≡ Ok t → (w : Token) → is_mark w.form ≡ true → (ws : List Token)
      → rest_behind mark s vs (w ∷ ws) ≡ rest_behind (Some w) t [] ws
  mark_goes_on t e w h ws = mark_comes w h ws ∙ ap (λ x. x >>= λ t. rest_behind (Some w) t [] ws) e

  pub more_goes_on : (t : PolicyState) → now ≡ Ok t → (w : Token) → is_mark w.form ≡ false → 8 ≤ length vs → (ws : List Token)
      → rest_behind mark s vs (w ∷ ws) ≡ rest_behind (still_open mark) t [] (w ∷ ws)
  more_goes_on t e w h k ws = more_comes w h k ws ∙ ap (λ x. x >>= λ t. rest_behind (still_open mark) t [] (w ∷ ws)) e

  slip_stays : (r : Refusal) (x : Result PolicyState Slip) (f : PolicyState → Result PolicyState Slip) → Stops slip_told r now → x ≡ (now >>= f) → Stops slip_told r x
  slip_stays (refusals.Slip slip) x f h e = e ∙ ap (λ y. y >>= f) h
  slip_stays refusals.Memory x f h e = tt

  pub mark_stops : (r : Refusal) → Stops slip_told r now → (w : Token) → is_mark w.form ≡ true → (ws : List Token)
      → Stops slip_told r (rest_behind mark s vs (w ∷ ws))
  mark_stops r h w e ws = slip_stays r _ _ h (mark_comes w e ws)

  pub more_stops : (r : Refusal) → Stops slip_told r now → (w : Token) → is_mark w.form ≡ false → 8 ≤ length vs → (ws : List Token)
      → Stops slip_told r (rest_behind mark s vs (w ∷ ws))
  more_stops r h w e k ws = slip_stays r _ _ h (more_comes w e k ws)
