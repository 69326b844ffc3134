-- Putting one text behind another: how two calls are one.
use Rattle.std.proofs.Common.{◌≡◌, ℕ, ◌+◌, ◌<◌, Bool, true, List, [], ◌∷◌, ◌++◌, length, take, drop, map, get_or, Option, None, Some, Result, Ok, option_map, IfSome, IsErr, IsErrOf, inl, inr, refl, ap, sym, subst, ◌∙◌, append_assoc, append-nil, add-one, arith}
use Rattle.std.proofs.Math.Seq.{take-append-add, take-length, drop-cons}
use Rattle.std.proofs.lemmas.Bool.{cases_lt}
use Rattle.std.proofs.lemmas.List.{take-append-le, take_all, take-append-drop, map-append}
use Rattle.std.proofs.lemmas.Grind.{flat_map-append}
use Rattle.std.specs.Borrow.{Bor}
use Rattle.std.proofs.lemmas.Result.{on_ok_weaker, on_err_weaker, IfOk-from_err}
use Rattle.acl_text.specs.declared.output.PutFault.{PutFault}
use Rattle.acl_text.specs.Output.{AppendsFront, PutsBy, joined}

-- what a put that succeeded answers
abbrev pub done : Result (Unit {0}) PutFault
done = Ok tt

appended-nothing : (o : Option (List ℕ)) → o ≡ option_map (λ (t : List ℕ). t ++ []) o
appended-nothing None = refl
appended-nothing (Some t) = ap Some (sym (append-nil t))

ok-not-err : {e : PutFault} → IsErrOf done e → ⊥
ok-not-err h = cc

appended-twice : (a b : List ℕ) (first middle last : Option (List ℕ)) → middle ≡ option_map (λ (t : List ℕ). t ++ a) first → last ≡ option_map (λ (t : List ℕ). t ++ b) middle
    → last ≡ option_map (λ (t : List ℕ). t ++ (a ++ b)) first
appended-twice a b None middle last e f = f ∙ ap (λ m. option_map (λ (t : List ℕ). t ++ b) m) e
appended-twice a b (Some t) middle last e f = f ∙ ap (λ m. option_map (λ (t : List ℕ). t ++ b) m) e ∙ ap Some (append_assoc t a b)

-- a front of b behind a is a front of a ++ b
front-behind : (a b : List ℕ) (first middle : Option (List ℕ)) (now : List ℕ) → middle ≡ option_map (λ (t : List ℕ). t ++ a) first → AppendsFront b middle now → AppendsFront (a ++ b) first now
front-behind a b None middle now e h = let P : Option (List ℕ) → Type 0 = λ m. AppendsFront b m now in subst P e h
front-behind a b (Some t) middle now e h =
    let P : Option (List ℕ) → Type 0 = λ m. AppendsFront b m now in
    let f : AppendsFront b (Some (t ++ a)) now = subst P e h in
    (length a + f.0, f.1 ∙ append_assoc t a (take f.0 b) ∙ ap (λ x. t ++ x) (sym (take-append-add a b f.0)))

fronts-behind : (a b : List ℕ) (first middle last : Option (List ℕ)) → middle ≡ option_map (λ (t : List ℕ). t ++ a) first → IfSome last (AppendsFront b middle) → IfSome last (AppendsFront (a ++ b) first)
fronts-behind a b first middle None e h = tt
fronts-behind a b first middle (Some now) e h = front-behind a b first middle now e h

front-longer : (n : ℕ) (a b : List ℕ) → (m : ℕ) × (take n a ≡ take m (a ++ b))
front-longer n a b = elim (cases_lt n (length a)) [
  | inl h ↦ (n, sym (take-append-le n a b (omega arith)))
  | inr h ↦ (length a, take_all n a h ∙ sym (take-length a) ∙ sym (take-append-le (length a) a b (omega arith)))
]

fronts-longer : (a b : List ℕ) (first last : Option (List ℕ)) → IfSome last (AppendsFront a first) → IfSome last (AppendsFront (a ++ b) first)
fronts-longer a b first None h = tt
fronts-longer a b None (Some now) h = h
fronts-longer a b (Some t) (Some now) h = let m = front-longer h.0 a b in (m.0, h.1 ∙ ap (λ x. t ++ x) m.1)

-- a text was put, then another: both were put, one behind the other
pub goes_on : {S T : Type 0} {told : S → Option (List ℕ)} {faults refusals : S → ℕ} {is_open : S → Bool} {keeps : S → S → Type 0} {old mid new : S} {a b : List ℕ} {r : Result T PutFault}
    → ((x y z : S) → keeps x y → keeps y z → keeps x z) → PutsBy told faults refusals is_open keeps old mid a done → PutsBy told faults refusals is_open keeps mid new b r
    → PutsBy told faults refusals is_open keeps old new (a ++ b) r
goes_on {told = told} {old = old} {mid = mid} {new = new} {a = a} {b = b} {r = r} keeps p q = record {
  ok = on_ok_weaker r (appended-twice a b (told old) (told mid) (told new) p.ok) q.ok;
  err = on_err_weaker r (fronts-behind a b (told old) (told mid) (told new) p.ok) q.err;
  opened = q.opened;
  closed = q.closed;
  rest = keeps old mid new p.rest q.rest;
  faults_grow = omega (arith, p.faults_grow, q.faults_grow);
  refusals_grow = omega (arith, p.refusals_grow, q.refusals_grow);
  failed = λ e. omega (arith, p.faults_grow, q.failed e);
  faults_stay = λ e. q.faults_stay e ∙ p.faults_stay refl;
  memory = λ e. omega (arith, p.refusals_grow, q.memory e);
}

-- a refusal at the first text is one at the longer text too
pub stops : {S T : Type 0} {told : S → Option (List ℕ)} {faults refusals : S → ℕ} {is_open : S → Bool} {keeps : S → S → Type 0} {old new : S} {a : List ℕ} {r : Result T PutFault}
    (b : List ℕ) → PutsBy told faults refusals is_open keeps old new a r → IsErr r → PutsBy told faults refusals is_open keeps old new (a ++ b) r
stops {told = told} {old = old} {new = new} {a = a} {r = r} b p refused = record {
  ok = IfOk-from_err r (λ _. told new ≡ option_map (λ (t : List ℕ). t ++ (a ++ b)) (told old)) refused;
  err = on_err_weaker r (fronts-longer a b (told old) (told new)) p.err;
  opened = p.opened;
  closed = p.closed;
  rest = p.rest;
  faults_grow = p.faults_grow;
  refusals_grow = p.refusals_grow;
  failed = p.failed;
  faults_stay = p.faults_stay;
  memory = p.memory;
}

-- nothing is put at once
pub puts-nothing : {S : Type 0} {told : S → Option (List ℕ)} {faults refusals : S → ℕ} {is_open : S → Bool} {keeps : S → S → Type 0} (s : S)
    → ((x : S) → keeps x x) → is_open s ≡ true → PutsBy told faults refusals is_open keeps s s [] done
puts-nothing {told = told} s keeps is = record {
  ok = appended-nothing (told s);
  err = tt;
  opened = is;
  closed = tt;
  rest = keeps s;
  faults_grow = omega arith;
  refusals_grow = omega arith;
  failed = λ e. absurd (ok-not-err e);
  faults_stay = λ _. refl;
  memory = λ e. absurd (ok-not-err e);
}

-- the pieces are those before one, that one, and those behind it
pub joined-split : (ps : List (Bor (List ℕ))) (i : ℕ) (d : Bor (List ℕ)) → i < length ps
    → joined (map (λ p. p.now) ps) ≡ (joined (map (λ p. p.now) (take i ps)) ++ (get_or ps i d).now) ++ joined (map (λ p. p.now) (drop (i + 1) ps))
joined-split ps i d h =
    let now : Bor (List ℕ) → List ℕ = λ p. p.now in
    let step : drop i ps ≡ get_or ps i d ∷ drop (i + 1) ps = rw add-one (drop-cons ps i d h) in
    let whole : take i ps ++ (get_or ps i d ∷ drop (i + 1) ps) ≡ ps = ap (λ t. take i ps ++ t) (sym step) ∙ take-append-drop i ps in
    sym (ap (λ t. joined (map now t)) whole) ∙ ap joined (map-append now (take i ps) (get_or ps i d ∷ drop (i + 1) ps))
    ∙ flat_map-append (λ (p : List ℕ). p) (map now (take i ps)) (map now (get_or ps i d ∷ drop (i + 1) ps)) ∙ sym (append_assoc (joined (map now (take i ps))) (get_or ps i d).now (joined (map now (drop (i + 1) ps))))
