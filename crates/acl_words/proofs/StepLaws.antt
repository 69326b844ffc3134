-- One more step.
use Rattle.std.proofs.Common.{◌≡◌, ◌≤◌, ◌+◌, ℕ, zero, suc, List, [], ◌∷◌, ◌++◌, length, take, refl, ap, sym, ◌∙◌, arith}
use Rattle.std.proofs.Math.ListN.{replicate}
use Rattle.std.proofs.lemmas.List.{take-replicate, replicate-append-replicate}
use Rattle.acl_text.specs.declared.faults.Place.{Place}
use Rattle.acl_words.specs.declared.place_lists.PlaceStep.{PlaceStep}
use Rattle.acl_words.specs.declared.place_lists.PlaceStep.TheVariants.{Same, Next, Own}
use Rattle.acl_words.specs.PlaceSteps.{AreStepped, added, kept_by, last_by, next_line, place_by, places_by}

-- What steps lead to, with one more behind them.
pub record IsStepped (p : Place) (own : List Place) (steps : List PlaceStep) (s : PlaceStep) (q : Place) : Type 0 where
  pub places_are : places_by p (own ++ added s q) (steps ++ s ∷ []) ≡ places_by p own steps ++ q ∷ []
  pub last_is : last_by p (own ++ added s q) (steps ++ s ∷ []) ≡ q
  pub own_are : kept_by (steps ++ s ∷ []) ≡ length (own ++ added s q)

no_own : (own : List Place) → zero ≡ length own → own ≡ []
no_own [] h = refl
no_own (q ∷ own) h = absurd (omega (arith, h))

kept-one : (s : PlaceStep) (q : Place) → kept_by (s ∷ []) ≡ length (added s q)
kept-one Same q = refl
kept-one Next q = refl
kept-one Own q = refl

first_step : (p : Place) (own : List Place) (s : PlaceStep) (q : Place) → own ≡ [] → place_by s p (added s q) ≡ q
    → IsStepped p own [] s q
first_step p own s q none is = rw (none) (record {
  places_are = ap (λ r. r ∷ []) is;
  last_is = is;
  own_are = kept-one s q;
})

pub step_more : (p : Place) (own : List Place) (steps : List PlaceStep) (s : PlaceStep) (q : Place)
    → kept_by steps ≡ length own → place_by s (last_by p own steps) (added s q) ≡ q → IsStepped p own steps s q
step_more p own [] s q kept is = first_step p own s q (no_own own kept) is
step_more p own (Same ∷ steps) s q kept is =
    let r = step_more p own steps s q kept is in record {
      places_are = ap (λ ps. p ∷ ps) r.places_are;
      last_is = r.last_is;
      own_are = r.own_are;
    }
step_more p own (Next ∷ steps) s q kept is =
    let r = step_more (next_line p) own steps s q kept is in record {
      places_are = ap (λ ps. next_line p ∷ ps) r.places_are;
      last_is = r.last_is;
      own_are = r.own_are;
    }
step_more p [] (Own ∷ steps) s q kept is = absurd (omega (arith, kept))
step_more p (o ∷ own) (Own ∷ steps) s q kept is =
    let r = step_more o own steps s q (omega (arith, kept)) is in record {
      places_are = ap (λ ps. o ∷ ps) r.places_are;
      last_is = r.last_is;
      own_are = ap suc r.own_are;
    }

-- What a list of places is behind one more.
pub stepped_with : (start last q : Place) (own own' : List Place) (steps steps' : List PlaceStep) (s : PlaceStep)
    → AreStepped start last own steps → place_by s last (added s q) ≡ q
    → own' ≡ own ++ added s q → steps' ≡ steps ++ s ∷ []
    → AreStepped start q own' steps' × (places_by start own' steps' ≡ places_by start own steps ++ q ∷ [])
stepped_with start last q own own' steps steps' s h is o t =
    let r = step_more start own steps s q h.own_are
    (ap (λ l. place_by s l (added s q)) (sym h.last_is) ∙ is) in
    rw (o, t) (record { last_is = sym r.last_is; own_are = r.own_are }, r.places_are)

-- Steps that stay where they are.
same_places : (n : ℕ) (p : Place) → places_by p [] (replicate n Same) ≡ replicate n p
same_places zero p = refl
same_places (suc n) p = ap (λ ps. p ∷ ps) (same_places n p)

pub repeated_by : (n : ℕ) (p : Place) → n ≤ 32 → places_by p [] (take n (replicate 32 Same)) ≡ replicate n p
repeated_by n p h = ap (places_by p []) (take-replicate n 32 Same h) ∙ same_places n p

pub once_more : (n : ℕ) (p : Place) → replicate n p ++ p ∷ [] ≡ replicate (n + 1) p
once_more n p = replicate-append-replicate n 1 p
