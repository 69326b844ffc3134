-- What words of new texts say of all words, and what lists of the same numbers have alike.
use Rattle.std.proofs.Common.{◌≡◌, ◌↔◌, ◌⊎◌, ◌≢◌, ℕ, Bool, true, false, ◌==◌, if◌then◌else◌, List, [], ◌∷◌, ◌++◌, Option, None, Some, Result, Ok, Err, IfOk, IfSome, ◌||◌, length, inl, inr, refl, ap, sym, subst, ◌∙◌, arith}
use Rattle.std.specs.List.{list_any, list_all}
use Rattle.std.specs.Str.{bytes_eq}
use Rattle.std.proofs.lemmas.Bool.Decides.{same_from_decides}
use Rattle.std.proofs.lemmas.Bool.{both_ways, eq-eqb, eqb-true, or_cases, or_left, or_right, and_from, and_parts}
use Rattle.std.proofs.lemmas.List.Folds.{list_any-append}
use Rattle.std.specs.Option.{option_or}
use Rattle.acl_text.specs.declared.faults.Code.TheVariants as codes
use Rattle.acl_text.specs.declared.faults.Slip.{Slip}
use Rattle.acl_text.proofs.OptionStepLaws.{same_bytes}
use Rattle.acl_text.specs.Refusals.{first_in}
use Rattle.acl_sets.specs.Ranges.{IsNormal, Numbers, holds}
use Rattle.acl_words.specs.declared.word_lists.Word.{Word}
use Rattle.acl_naming.specs.Definitions.{Definition, Naming}
use Rattle.acl_naming.specs.Ports.{top_port}
use Rattle.acl_naming.specs.Reach.{ReachesPort}
use Rattle.acl_terms.specs.DistinctSteps.{AreSame, has, new_words}
use Rattle.acl_terms.specs.Matching.{AnyOf, IsPort, NamesPort}
use Rattle.acl_terms.specs.Sets.{IsSetOf}
use Rattle.acl_terms.specs.Slips.{is_defined, reaches_protocol, network_slip, service_slip, unless}
use Rattle.acl_terms.proofs.SetLaws.{IsSetSoFar, any-join, begun-set, next-set, same-set}
use Rattle.acl_terms.proofs.SlipLaws.{both-passed, unless-passed}
use Rattle.acl_terms.proofs.WordLaws.{parts, passed}

-- ---- words of new texts

-- What the question answers depends on the text alone, as far as it has no answer.
abbrev pub AsksText : (Word → Option Slip) → Type 0
AsksText question = (v w : Word) → v.text ≡ w.text → question v ≡ None → question w ≡ None

abbrev pub ArePassed : (Word → Option Slip) → List (List ℕ) → Type 0
ArePassed question seen = (w : Word) → list_any (bytes_eq w.text) seen ≡ true → question w ≡ None

passed-more : (question : Word → Option Slip) (w : Word) (seen : List (List ℕ)) → AsksText question
    → question w ≡ None → ArePassed question seen → ArePassed question (seen ++ w.text ∷ [])
passed-more question w seen only none passed = λ v h.
    elim (or_cases (list_any (bytes_eq v.text) seen) (list_any (bytes_eq v.text) (w.text ∷ []))
    (sym (list_any-append (bytes_eq v.text) seen (w.text ∷ [])) ∙ h)) [
      | inl s ↦ passed v s
      | inr t ↦ elim (or_cases (bytes_eq v.text w.text) false t) [
        | inl e ↦ only w v (sym (same_bytes v.text w.text e)) none
        | inr f ↦ absurd (both_ways false refl f)
      ]
    ]

first-answer : (a b c : Option Slip) → (a ≡ None → b ≡ c) → option_or a b ≡ option_or a c
first-answer None b c h = h refl
first-answer (Some s) b c h = refl

module _ (question : Word → Option Slip) (only : AsksText question) where
  new-step : (c : Bool) (seen : List (List ℕ)) (w : Word) (ws : List Word)
      → list_any (bytes_eq w.text) seen ≡ c → ArePassed question seen
      → ((more : List (List ℕ)) → ArePassed question more → first_in question (new_words more ws) ≡ first_in question ws)
      → first_in question (if c then new_words seen ws else w ∷ new_words (seen ++ w.text ∷ []) ws)
      ≡ first_in question (w ∷ ws)
  new-step true seen w ws e passed rest =
      rest seen passed ∙ ap (λ o. option_or o (first_in question ws)) (sym (passed w e))
  new-step false seen w ws e passed rest =
      first-answer (question w) (first_in question (new_words (seen ++ w.text ∷ []) ws)) (first_in question ws)
      (λ none. rest (seen ++ w.text ∷ []) (passed-more question w seen only none passed))

  first-new : (seen : List (List ℕ)) (ws : List Word) → ArePassed question seen
      → first_in question (new_words seen ws) ≡ first_in question ws
  first-new seen [] passed = refl
  first-new seen (w ∷ ws) passed =
      new-step (list_any (bytes_eq w.text) seen) seen w ws refl passed (λ more p. first-new more ws p)

  -- The first answer on words of new texts is the first on all.
  pub new-first : (ws : List Word) → first_in question (new_words [] ws) ≡ first_in question ws
  new-first ws = first-new [] ws (λ w h. absurd (both_ways false refl h))

any-seen : (Q : List ℕ → Type 0) (text : List ℕ) (seen : List (List ℕ)) → list_any (bytes_eq text) seen ≡ true
    → Q text → AnyOf Q seen
any-seen Q text [] h q = absurd (both_ways false refl h)
any-seen Q text (t ∷ seen) h q =
    elim (or_cases (bytes_eq text t) (list_any (bytes_eq text) seen) h) [
      | inl e ↦ inl (subst Q (same_bytes text t e) q)
      | inr s ↦ inr (any-seen Q text seen s q)
    ]

module _ (Q : List ℕ → Type 0) where
  abbrev OfWords : List Word → Type 0
  OfWords ws = AnyOf (λ w. Q w.text) ws

  behind-seen : (seen : List (List ℕ)) (text : List ℕ) (A : Type 0) → AnyOf Q (seen ++ text ∷ []) ⊎ A
      → AnyOf Q seen ⊎ (Q text ⊎ A)
  behind-seen seen text A (inl s) = elim ((any-join Q seen (text ∷ [])).0 s) [
    | inl t ↦ inl t
    | inr t ↦ elim t [ inl q ↦ inr (inl q) | inr b ↦ absurd b ]
  ]
  behind-seen seen text A (inr a) = inr (inr a)

  into-seen : (seen : List (List ℕ)) (text : List ℕ) (A : Type 0) → AnyOf Q seen ⊎ (Q text ⊎ A)
      → AnyOf Q (seen ++ text ∷ []) ⊎ A
  into-seen seen text A (inl s) = inl ((any-join Q seen (text ∷ [])).1 (inl s))
  into-seen seen text A (inr (inl q)) = inl ((any-join Q seen (text ∷ [])).1 (inr (inl q)))
  into-seen seen text A (inr (inr a)) = inr a

  any-step : (c : Bool) (seen : List (List ℕ)) (w : Word) (ws : List Word)
      → list_any (bytes_eq w.text) seen ≡ c
      → ((more : List (List ℕ)) → (AnyOf Q more ⊎ OfWords (new_words more ws)) ↔ (AnyOf Q more ⊎ OfWords ws))
      → (AnyOf Q seen ⊎ OfWords (if c then new_words seen ws else w ∷ new_words (seen ++ w.text ∷ []) ws))
      ↔ (AnyOf Q seen ⊎ OfWords (w ∷ ws))
  any-step true seen w ws e rest = let r = rest seen in (
    λ a. elim (r.0 a) [ inl s ↦ inl s | inr t ↦ inr (inr t) ],
    λ b. elim b [
      | inl s ↦ inl s
      | inr t ↦ elim t [
        | inl q ↦ inl (any-seen Q w.text seen e q)
        | inr u ↦ r.1 (inr u)
      ]
    ],
  )
  any-step false seen w ws e rest = let r = rest (seen ++ w.text ∷ []) in (
    λ a. behind-seen seen w.text (OfWords ws) (r.0 (into-seen seen w.text (OfWords (new_words (seen ++ w.text ∷ []) ws)) a)),
    λ b. behind-seen seen w.text (OfWords (new_words (seen ++ w.text ∷ []) ws)) (r.1 (into-seen seen w.text (OfWords ws) b)),
  )

  any-new : (seen : List (List ℕ)) (ws : List Word)
      → (AnyOf Q seen ⊎ OfWords (new_words seen ws)) ↔ (AnyOf Q seen ⊎ OfWords ws)
  any-new seen [] = (λ a. a, λ a. a)
  any-new seen (w ∷ ws) =
      any-step (list_any (bytes_eq w.text) seen) seen w ws refl (λ more. any-new more ws)

  -- Some word has such a text where some word of new texts has.
  pub new-any : (ws : List Word) → OfWords (new_words [] ws) ↔ OfWords ws
  new-any ws = let r = any-new [] ws in (
    λ a. elim (r.0 (inr a)) [ inl b ↦ absurd b | inr t ↦ t ],
    λ a. elim (r.1 (inr a)) [ inl b ↦ absurd b | inr t ↦ t ],
  )

-- ---- the same numbers

any-has : (P : ℕ → Type 0) (n : ℕ) (ns : List ℕ) → has n ns ≡ true → P n → AnyOf P ns
any-has P n [] h p = absurd (both_ways false refl h)
any-has P n (m ∷ ms) h p = elim (or_cases (m == n) (has n ms) h) [
  | inl e ↦ inl (subst P (sym (eqb-true m n e)) p)
  | inr r ↦ inr (any-has P n ms r p)
]

has-any : (P : ℕ → Type 0) (ns : List ℕ) → AnyOf P ns → (n : ℕ) × (has n ns ≡ true) × P n
has-any P [] a = elim a [ ]
has-any P (m ∷ ms) (inl p) = (m, or_left (m == m) (has m ms) (eq-eqb m m refl), p)
has-any P (m ∷ ms) (inr a) = let r = has-any P ms a in (r.0, or_right (m == r.0) (has r.0 ms) r.1, r.2)

some-of : (P : ℕ → Type 0) (ms ns : List ℕ) → ((n : ℕ) → has n ms ≡ has n ns) → AnyOf P ms → AnyOf P ns
some-of P ms ns same a = let r = has-any P ms a in any-has P r.0 ns (sym (same r.0) ∙ r.1) r.2

pub same-any : (P : ℕ → Type 0) (ms ns : List ℕ) → AreSame ms ns → AnyOf P ms ↔ AnyOf P ns
same-any P ms ns same = (λ a. some-of P ms ns same a, λ a. some-of P ns ms (λ n. sym (same n)) a)

all-has : (test : ℕ → Bool) (ns : List ℕ) → list_all test ns ≡ true → (n : ℕ) → has n ns ≡ true → test n ≡ true
all-has test [] h n e = absurd (both_ways false refl e)
all-has test (m ∷ ms) h n e = let p = and_parts (test m) (list_all test ms) h in
    elim (or_cases (m == n) (has n ms) e) [
      | inl s ↦ sym (ap test (eqb-true m n s)) ∙ p.0
      | inr r ↦ all-has test ms p.1 n r
    ]

has-all : (test : ℕ → Bool) (ns : List ℕ) → ((n : ℕ) → has n ns ≡ true → test n ≡ true) → list_all test ns ≡ true
has-all test [] h = refl
has-all test (m ∷ ms) h = and_from (test m) (list_all test ms)
    (h m (or_left (m == m) (has m ms) (eq-eqb m m refl)))
    (has-all test ms (λ n e. h n (or_right (m == n) (has n ms) e)))

pub same-all : (test : ℕ → Bool) (ms ns : List ℕ) → AreSame ms ns → list_all test ms ≡ list_all test ns
same-all test ms ns same =
    same_from_decides {P = (n : ℕ) → has n ns ≡ true → test n ≡ true} (list_all test ms) (list_all test ns)
    (λ h n e. all-has test ms h n (same n ∙ e), λ k. has-all test ms (λ n e. k n (sym (same n) ∙ e)))
    (λ h. all-has test ns h, λ k. has-all test ns k)

pub same-some : (ms ns : List ℕ) → AreSame ms ns → ns ≢ [] → ms ≢ []
same-some ms [] same some = absurd (some refl)
same-some ms (n ∷ ns) same some = λ none.
    both_ways false refl (sym (ap (has n) none) ∙ same n ∙ or_left (n == n) (has n ns) (eq-eqb n n refl))

pub same-result : {E : Type 0} (ms ns : List ℕ) (top : ℕ) (r : Result Numbers E) → AreSame ms ns
    → IfOk r (λ s. IsSetOf (λ x. AnyOf (λ n. n ≡ x) ms) top s)
    → IfOk r (λ s. IsSetOf (λ x. AnyOf (λ n. n ≡ x) ns) top s)
same-result ms ns top (Ok s) same h =
    same-set (λ x. AnyOf (λ n. n ≡ x) ms) (λ x. AnyOf (λ n. n ≡ x) ns) top s (λ x. same-any (λ n. n ≡ x) ms ns same) h
same-result ms ns top (Err e) same h = tt

-- ---- the same numbers as protocols

same-question : {A : Type 0} (f g : A → Option Slip) (xs : List A) → ((x : A) → f x ≡ g x)
    → first_in f xs ≡ first_in g xs
same-question f g [] same = refl
same-question f g (x ∷ xs) same =
    ap (λ o. option_or o (first_in f xs)) (same x) ∙ ap (λ o. option_or (g x) o) (same-question f g xs same)

pub same-services : (services : List Definition) (ms ns : List ℕ) (words : List Word) → AreSame ms ns
    → first_in (service_slip services ms) words ≡ first_in (service_slip services ns) words
same-services services ms ns words same =
    same-question (service_slip services ms) (service_slip services ns) words
    (λ w. ap (λ b. option_or (unless (is_defined services w.text) codes.UnknownName w) (unless b codes.NoPortForProtocol w))
    (same-all (reaches_protocol services w.text) ms ns same))

same-admitted : {A : Type 0} (P Q : A → Type 0) (xs : List A) → ((x : A) → P x ↔ Q x) → AnyOf P xs → AnyOf Q xs
same-admitted P Q [] same a = elim a [ ]
same-admitted P Q (x ∷ xs) same (inl p) = inl ((same x).0 p)
same-admitted P Q (x ∷ xs) same (inr a) = inr (same-admitted P Q xs same a)

same-names : (n : Naming) (ms ns : List ℕ) (words : List Word) (x : ℕ) → AreSame ms ns
    → AnyOf (NamesPort n ms x) words → AnyOf (NamesPort n ns x) words
same-names n ms ns words x same =
    same-admitted (NamesPort n ms x) (NamesPort n ns x) words
    (λ w. same-any (λ q. ReachesPort n.services w.text q x) ms ns same)

pub same-ports : (n : Naming) (ms ns : List ℕ) (words : List Word) (s : Numbers) → AreSame ms ns → words ≢ []
    → IsSetOf (λ x. AnyOf (NamesPort n ms x) words) top_port s → IsSetOf (IsPort n ns words) top_port s
same-ports n ms ns [] s same some h = absurd (some refl)
same-ports n ms ns (w ∷ ws) s same some h =
    same-set (λ x. AnyOf (NamesPort n ms x) (w ∷ ws)) (IsPort n ns (w ∷ ws)) top_port s
    (λ x. (same-names n ms ns (w ∷ ws) x same, same-names n ns ms (w ∷ ws) x (λ m. sym (same m)))) h

-- ---- questions on names

pub new-some : (ws : List Word) → ws ≢ [] → new_words [] ws ≢ []
new-some [] some = absurd (some refl)
new-some (w ∷ ws) some = λ none. absurd (omega (arith, ap length none))

pub asks-network : (networks : List Definition) → AsksText (network_slip networks)
asks-network networks = λ v w is none.
    unless-passed (is_defined networks w.text) codes.UnknownName w
    (sym (ap (is_defined networks) is) ∙ passed (is_defined networks v.text) codes.UnknownName v none)

pub asks-service : (services : List Definition) (protos : List ℕ) → AsksText (service_slip services protos)
asks-service services protos = λ v w is none.
    let p = parts (unless (is_defined services v.text) codes.UnknownName v)
    (unless (list_all (reaches_protocol services v.text) protos) codes.NoPortForProtocol v) none in
    both-passed (is_defined services w.text) (list_all (reaches_protocol services w.text) protos)
    codes.UnknownName codes.NoPortForProtocol w
    (sym (ap (is_defined services) is) ∙ passed (is_defined services v.text) codes.UnknownName v p.0)
    (sym (ap (λ t. list_all (reaches_protocol services t) protos) is)
    ∙ passed (list_all (reaches_protocol services v.text) protos) codes.NoPortForProtocol v p.1)

-- The next word has passed.
pub slip-next : {A : Type 0} (question : A → Option Slip) (x : A) (old left : List A) (s : Option Slip)
    → old ≡ x ∷ left → question x ≡ None → first_in question old ≡ s → first_in question left ≡ s
slip-next question x old left s is none had =
    ap (λ o. option_or o (first_in question left)) (sym none) ∙ sym (ap (first_in question) is) ∙ had

-- ---- sets of names

-- Before the first of the words of new texts, all is left.
pub begun-names : (Q : ℕ → List ℕ → Type 0) (words left : List Word) (top : ℕ) (s : Numbers)
    → left ≡ new_words [] words → s.top ≡ top → IsNormal 0 s.top s.ranges
    → ((x : ℕ) → holds s.ranges x ≡ false)
    → IsSetSoFar (λ x. AnyOf (λ w. Q x w.text) words) (λ x. AnyOf (λ w. Q x w.text) left) top s
begun-names Q words left top s is t n none =
    begun-set (λ x. AnyOf (λ w. Q x w.text) words) (λ x. AnyOf (λ w. Q x w.text) left) top s t n none
    (λ x. subst (λ l. AnyOf (λ (w : Word). Q x w.text) l ↔ AnyOf (λ (w : Word). Q x w.text) words) (sym is)
    (new-any (Q x) words))

-- The union with the set of the next word.
pub next-names : (N : ℕ → Word → Type 0) (P : ℕ → Type 0) (old left : List Word) (w : Word) (top : ℕ)
    (s m u : Numbers) → old ≡ w ∷ left → IsSetSoFar P (λ x. AnyOf (N x) old) top s
    → IsSetOf (λ x. N x w) top m → u.top ≡ s.top → IsNormal 0 u.top u.ranges
    → ((x : ℕ) → holds u.ranges x ≡ (holds s.ranges x || holds m.ranges x))
    → IsSetSoFar P (λ x. AnyOf (N x) left) top u
next-names N P old left w top s m u is had more t n e =
    next-set P (λ x. N x w) (λ x. AnyOf (N x) left) top s m u
    (subst (λ l. IsSetSoFar P (λ x. AnyOf (N x) l) top s) is had) more t n e

pub given : {A : Type 0} (P : A → Type 0) (o : Option A) (a : A) → o ≡ Some a → IfSome o P → P a
given P o a is h = subst (λ p. IfSome p P) is h

pub if-ok : {A E : Type 0} (P Q : A → Type 0) (r : Result A E) → ((a : A) → P a → Q a) → IfOk r P → IfOk r Q
if-ok P Q (Ok a) more h = more a h
if-ok P Q (Err e) more h = tt
