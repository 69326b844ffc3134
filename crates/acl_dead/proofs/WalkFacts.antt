use Rattle.std.proofs.Common.{◌≡◌, ℕ, ◌+◌, ◌<◌, ◌≤◌, ◌&&◌, List, [], ◌∷◌, length, get_or, sym, ap, ◌∙◌, subst, arith, inl, inr, ◌⊎◌, None}
use Rattle.std.proofs.lemmas.Bool.{and_parts, and_from, cases_lt}
use Rattle.std.proofs.lemmas.List.{get_or_read}
use Rattle.acl_dead.specs.declared.levels.Level.{Level}
use Rattle.acl_dead.specs.PlaceSteps.{has, Shared}
use Rattle.acl_dead.specs.Order.{IsBefore}
use Rattle.acl_dead.specs.LevelSteps.{row_of, IsPoint, IsFree, IsFirstFree, FindsFree, IsLevel, IsLayered}

-- the walk has left the values before a step behind
abbrev pub NoneBefore : Level → List Level → List ℕ → ℕ → Type 0
NoneBefore l ls boxes step =
    (k : ℕ) (q : List ℕ) → k < step → IsPoint ls q → IsFree (l ∷ ls) boxes (k ∷ q) → ⊥

pub cut_off : (w : ℕ) (l : Level) (ls : List Level) (boxes : List ℕ) (i : ℕ) → IsLevel w l ls
    → Shared boxes (row_of l i) l.covered
    → (q : List ℕ) → IsPoint ls q → IsFree (l ∷ ls) boxes (i ∷ q) → ⊥
cut_off w l ls boxes i level s q point free =
    free s.0 s.1 (and_from _ _ s.2 (level.all_behind s.0 q s.3 point))

abbrev pub Meets : List ℕ → List ℕ → List ℕ → Type 0
Meets left boxes row = (b : ℕ) → has left b ≡ (has boxes b && has row b)

pub free_behind : (l : Level) (ls : List Level) (boxes left : List ℕ) (i : ℕ) → Meets left boxes (row_of l i)
    → (q : List ℕ) → IsFree (l ∷ ls) boxes (i ∷ q) → IsFree ls left q
free_behind l ls boxes left i m q free b h at =
    let p = and_parts _ _ (sym (m b) ∙ h) in
    free b p.0 (and_from _ _ p.1 at)

pub free_before : (l : Level) (ls : List Level) (boxes left : List ℕ) (i : ℕ) → Meets left boxes (row_of l i)
    → (q : List ℕ) → IsFree ls left q → IsFree (l ∷ ls) boxes (i ∷ q)
free_before l ls boxes left i m q free b h at =
    let p = and_parts _ _ at in
    free b (m b ∙ and_from _ _ h p.0) p.1

cases_step : (k step : ℕ) → k < step + 1 → (k < step) ⊎ (k ≡ step)
cases_step k step h =
    elim (cases_lt k step) [ inl less ↦ inl less | inr ge ↦ inr (omega arith) ]

-- one more value is left behind
pub none_more : (l : Level) (ls : List Level) (boxes : List ℕ) (step : ℕ) → NoneBefore l ls boxes step
    → ((q : List ℕ) → IsPoint ls q → IsFree (l ∷ ls) boxes (step ∷ q) → ⊥)
    → NoneBefore l ls boxes (step + 1)
none_more l ls boxes step before here k q lt point free =
    elim (cases_step k step lt) [
      | inl less ↦ before k q less point free
      | inr same ↦ here q point (subst (λ (j : ℕ). IsFree (l ∷ ls) boxes (j ∷ q)) same free)
    ]

-- the answer behind is none, so this value is left behind
pub none_here : (l : Level) (ls : List Level) (boxes left : List ℕ) (i : ℕ) → Meets left boxes (row_of l i)
    → FindsFree ls left None → (q : List ℕ) → IsPoint ls q → IsFree (l ∷ ls) boxes (i ∷ q) → ⊥
none_here l ls boxes left i m none q point free =
    none q point (free_behind l ls boxes left i m q free)

-- the answer behind is a point, and so it is here
first : (l : Level) (ls : List Level) (boxes left p : List ℕ) (i : ℕ) → Meets left boxes (row_of l i)
    → NoneBefore l ls boxes i → IsFirstFree ls left p
    → (q : List ℕ) → IsPoint (l ∷ ls) q → IsBefore q (i ∷ p) → IsFree (l ∷ ls) boxes q → ⊥
first l ls boxes left p i m before found [] point is_before free = point
first l ls boxes left p i m before found (k ∷ q) point (inl less) free = before k q less point.1 free
first l ls boxes left p i m before found (k ∷ q) point (inr same) free =
    found.first q point.1 same.1
    (free_behind l ls boxes left i m q (subst (λ (j : ℕ). IsFree (l ∷ ls) boxes (j ∷ q)) same.0 free))

pub found_here : (l : Level) (ls : List Level) (boxes left p : List ℕ) (i : ℕ) → Meets left boxes (row_of l i)
    → i < length l.rows.items → NoneBefore l ls boxes i → IsFirstFree ls left p
    → IsFirstFree (l ∷ ls) boxes (i ∷ p)
found_here l ls boxes left p i m lt before found = record {
  within = (lt, found.within);
  free = free_before l ls boxes left i m p found.free;
  first = first l ls boxes left p i m before found;
}

pub none_all : (l : Level) (ls : List Level) (boxes : List ℕ) (step : ℕ) → length l.rows.items ≤ step
    → NoneBefore l ls boxes step → FindsFree (l ∷ ls) boxes None
none_all l ls boxes step all before [] point free = point
none_all l ls boxes step all before (k ∷ q) point free = before k q (omega arith) point.1 free

-- ---- the same, as the code has it

abbrev pub NoneYet : List Level → List Level → List ℕ → ℕ → Type 0
NoneYet levels ls boxes step =
    (k : ℕ) (q : List ℕ) → k < step → IsPoint ls q → IsFree levels boxes (k ∷ q) → ⊥

pub row_at : (l : Level) (rows : List (List ℕ)) (row : List ℕ) (step : ℕ) → rows ≡ l.rows.items → step < length rows
    → row ≡ get_or rows step row → (row ≡ row_of l step) × (step < length l.rows.items)
row_at l rows row step e lt is =
    (get_or_read rows step row lt is [] ∙ ap (λ xs. get_or xs step []) e, subst (λ (xs : List (List ℕ)). step < length xs) e lt)

pub step_cut : (w : ℕ) (levels : List Level) (l : Level) (ls : List Level) (boxes row : List ℕ) (step : ℕ)
    → levels ≡ l ∷ ls → row ≡ row_of l step → IsLayered w levels → Shared boxes row l.covered
    → NoneYet levels ls boxes step → NoneYet levels ls boxes (step + 1)
step_cut w levels l ls boxes row step e re layered shared before =
    let level = subst (λ (xs : List Level). IsLayered w xs) e layered in
    subst (λ (xs : List Level). NoneYet xs ls boxes (step + 1)) (sym e)
    (none_more l ls boxes step (subst (λ (xs : List Level). NoneYet xs ls boxes step) e before)
    (cut_off w l ls boxes step level.0 (subst (λ (r : List ℕ). Shared boxes r l.covered) re shared)))

pub step_none : (levels : List Level) (l : Level) (ls : List Level) (boxes left row : List ℕ) (step : ℕ)
    → levels ≡ l ∷ ls → row ≡ row_of l step → Meets left boxes row → FindsFree ls left None
    → NoneYet levels ls boxes step → NoneYet levels ls boxes (step + 1)
step_none levels l ls boxes left row step e re m none before =
    subst (λ (xs : List Level). NoneYet xs ls boxes (step + 1)) (sym e)
    (none_more l ls boxes step (subst (λ (xs : List Level). NoneYet xs ls boxes step) e before)
    (none_here l ls boxes left step (subst (λ (r : List ℕ). Meets left boxes r) re m) none))

pub step_found : (levels : List Level) (l : Level) (ls : List Level) (boxes left row p : List ℕ) (step : ℕ)
    → levels ≡ l ∷ ls → row ≡ row_of l step → step < length l.rows.items → Meets left boxes row
    → IsFirstFree ls left p → NoneYet levels ls boxes step → IsFirstFree levels boxes (step ∷ p)
step_found levels l ls boxes left row p step e re lt m found before =
    subst (λ (xs : List Level). IsFirstFree xs boxes (step ∷ p)) (sym e)
    (found_here l ls boxes left p step (subst (λ (r : List ℕ). Meets left boxes r) re m) lt
    (subst (λ (xs : List Level). NoneYet xs ls boxes step) e before) found)

pub step_end : (levels : List Level) (l : Level) (ls : List Level) (boxes : List ℕ) (step : ℕ)
    → levels ≡ l ∷ ls → length l.rows.items ≤ step → NoneYet levels ls boxes step → FindsFree levels boxes None
step_end levels l ls boxes step e all before =
    subst (λ (xs : List Level). FindsFree xs boxes None) (sym e)
    (none_all l ls boxes step all (subst (λ (xs : List Level). NoneYet xs ls boxes step) e before))
