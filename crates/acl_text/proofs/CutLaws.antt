-- Where a text is cut, and which bytes it has.
use Rattle.std.proofs.Common.{◌≡◌, ℕ, Bool, true, false, cond, ◌==◌, List, [], ◌∷◌, ◌++◌, length, take, drop, Option, None, Some, option_map, inl, inr, refl, ap, sym, ◌∙◌}
use Rattle.std.specs.Str.{bytes_eq}
use Rattle.std.specs.List.{list_all}
use Rattle.std.proofs.lemmas.Bool.{cond-true, cond-false, eqb-true, eq-eqb, or_parts, or_from, and_parts, false_from_ne_true}
use Rattle.std.proofs.lemmas.List.{take_at, drop_at, take-append-drop}
use Rattle.std.proofs.lemmas.Option.{none-some, same_Some, some_pair_parts}
use Rattle.std.proofs.lemmas.Slice.Eq.{bytes_eq-Decides}
use Rattle.acl_packet.proofs.ChoiceLaws.{chosen}
use Rattle.acl_text.specs.Cuts.{behind, cut_at, has_byte}
use Rattle.acl_text.proofs.OptionStepLaws.{mapped}

cut-further : (c b : ℕ) (bs xs ys : List ℕ) → (b == c) ≡ false → (p : List ℕ × List ℕ) → (b ∷ p.0 ≡ xs) → (p.1 ≡ ys)
    → (bs ≡ p.0 ++ c ∷ p.1) × (has_byte c p.0 ≡ false) → (b ∷ bs ≡ xs ++ c ∷ ys) × (has_byte c xs ≡ false)
cut-further c b bs xs ys n p e f h = (
  ap (λ t. b ∷ t) h.0 ∙ ap (λ t. t ++ c ∷ p.1) e ∙ ap (λ t. xs ++ c ∷ t) f,
  sym (ap (λ t. has_byte c t) e) ∙ or_from (b == c) (has_byte c p.0) n h.1,
)

cut-here : (c b : ℕ) (bs xs ys : List ℕ) → b ≡ c → [] ≡ xs → bs ≡ ys → (b ∷ bs ≡ xs ++ c ∷ ys) × (has_byte c xs ≡ false)
cut-here c b bs xs ys e f g = (ap (λ x. x ∷ bs) e ∙ ap (λ t. c ∷ t) g ∙ ap (λ t. t ++ c ∷ ys) f, sym (ap (λ t. has_byte c t) f))

pub cut-found : (c : ℕ) (bs xs ys : List ℕ) → cut_at c bs ≡ Some (xs, ys) → (bs ≡ xs ++ c ∷ ys) × (has_byte c xs ≡ false)
cut-found c [] xs ys e = absurd (none-some (xs, ys) e)
cut-found c (b ∷ bs) xs ys e =
    let step : List ℕ × List ℕ → List ℕ × List ℕ = λ p. (b ∷ p.0, p.1) in
    elim (chosen (b == c) (Some ([], bs)) (option_map step (cut_at c bs)) (Some (xs, ys)) e) [
      | inl h ↦ let p = some_pair_parts [] xs bs ys h.1 in cut-here c b bs xs ys (eqb-true b c h.0) p.0 p.1
      | inr h ↦ let q = mapped step (cut_at c bs) (xs, ys) h.1 in
          cut-further c b bs xs ys h.0 q.0 (ap (λ p. p.0) q.2) (ap (λ p. p.1) q.2) (cut-found c bs q.0.0 q.0.1 q.1)
    ]

pub cut-again : (c : ℕ) (xs ys : List ℕ) → has_byte c xs ≡ false → cut_at c (xs ++ c ∷ ys) ≡ Some (xs, ys)
cut-again c [] ys h = cond-true (c == c) _ _ (eq-eqb c c refl)
cut-again c (x ∷ xs) ys h =
    let step : List ℕ × List ℕ → List ℕ × List ℕ = λ p. (x ∷ p.0, p.1) in
    let p = or_parts (x == c) (has_byte c xs) h in
    cond-false (x == c) _ _ p.0 ∙ ap (option_map step) (cut-again c xs ys p.1)

pub cut-none : (c : ℕ) (bs : List ℕ) → has_byte c bs ≡ false → cut_at c bs ≡ None
cut-none c [] h = refl
cut-none c (x ∷ xs) h =
    let step : List ℕ × List ℕ → List ℕ × List ℕ = λ p. (x ∷ p.0, p.1) in
    let p = or_parts (x == c) (has_byte c xs) h in
    cond-false (x == c) _ _ p.0 ∙ ap (option_map step) (cut-none c xs p.1)

map-none : {A B : Type 0} (f : A → B) (o : Option A) → option_map f o ≡ None → o ≡ None
map-none f None e = refl
map-none f (Some x) e = absurd (none-some (f x) (sym e))

pub none-cut : (c : ℕ) (bs : List ℕ) → cut_at c bs ≡ None → has_byte c bs ≡ false
none-cut c [] e = refl
none-cut c (b ∷ bs) e =
    let step : List ℕ × List ℕ → List ℕ × List ℕ = λ p. (b ∷ p.0, p.1) in
    elim (chosen (b == c) (Some ([], bs)) (option_map step (cut_at c bs)) None e) [
      | inl h ↦ absurd (none-some ([], bs) (sym h.1))
      | inr h ↦ or_from (b == c) (has_byte c bs) h.0 (none-cut c bs (map-none step (cut_at c bs) h.1))
    ]

-- ---- the bytes of a text

pub has-append : (c : ℕ) (xs ys : List ℕ) → has_byte c xs ≡ false → has_byte c ys ≡ false → has_byte c (xs ++ ys) ≡ false
has-append c [] ys h k = k
has-append c (x ∷ xs) ys h k =
    let p = or_parts (x == c) (has_byte c xs) h in or_from (x == c) (has_byte c (xs ++ ys)) p.0 (has-append c xs ys p.1 k)

-- a byte for which a test fails is no byte of a text for whose bytes it holds
pub has-not : (test : ℕ → Bool) (c : ℕ) (bs : List ℕ) → list_all test bs ≡ true → test c ≡ false → has_byte c bs ≡ false
has-not test c [] h n = refl
has-not test c (b ∷ bs) h n =
    let p = and_parts (test b) (list_all test bs) h in
    or_from (b == c) (has_byte c bs) (false_from_ne_true (b == c) (λ e. differ test b c p.0 n (eqb-true b c e))) (has-not test c bs p.1 n)
  where
    differ : (test : ℕ → Bool) (b c : ℕ) → test b ≡ true → test c ≡ false → b ≡ c → ⊥
    differ test b c h n e = cc

-- ---- fronts

-- what stands behind a front
pub behind-found : (front text rest : List ℕ) → behind front text ≡ Some rest → text ≡ front ++ rest
unfolding behind
behind-found front text rest h = behind_cases (bytes_eq (take (length front) text) front) refl h where
  behind_cases : (b : Bool) → bytes_eq (take (length front) text) front ≡ b → cond b (Some (drop (length front) text)) None ≡ Some rest → text ≡ front ++ rest
  behind_cases true e s = sym (take-append-drop (length front) text) ∙ ap (λ t. t ++ drop (length front) text) ((bytes_eq-Decides (take (length front) text) front).0 e) ∙ ap (λ t. front ++ t) (same_Some (drop (length front) text) rest s)
  behind_cases false e s = absurd (none-some rest s)

pub behind-again : (front rest : List ℕ) → behind front (front ++ rest) ≡ Some rest
unfolding behind
behind-again front rest =
    let e : bytes_eq (take (length front) (front ++ rest)) front ≡ true = (bytes_eq-Decides (take (length front) (front ++ rest)) front).1 (take_at front rest (length front) refl) in
    ap (λ b. cond b (Some (drop (length front) (front ++ rest))) None) e ∙ ap Some (drop_at front rest (length front) refl)
