-- The boundaries of a set, as they are gathered: runs of a list in normal form are its ranges.
use Rattle.std.proofs.Common.{◌≡◌, ℕ, ◌+◌, ◌<◌, ◌≤◌, ◌↔◌, zero, suc, Bool, true, false, not, ◌&&◌, ◌||◌, eqb, nat_le, if◌then◌else◌, List, [], ◌∷◌, ◌++◌, Bor, Contains, map, refl, sym, ap, ◌∙◌, subst, arith, inl, inr, Result, Ok, Err}
use Rattle.std.specs.Result.{OnOk}
use Rattle.std.proofs.lemmas.Bool.{and_parts, and_from, or_cases, or_left, or_right, cases_lt, cases_Bool, eqb-true, eq-eqb, ne_eqb, false≢true, lt-leb, lt-ltb, le-ltb, and_right, or_from}
use Rattle.std.proofs.lemmas.Bool.Decides.{nat_tests}
use Rattle.std.proofs.lemmas.List.Elements.{Contains-append_left, Contains-append_right, Contains-append_cases}
use Rattle.std.specs.List.{filter, list_any}
use Rattle.std.specs.List.Sorted.{IsStrictlyIncreasing}
use Rattle.acl_sets.specs.declared.sets.Range.{Range}
use Rattle.acl_sets.specs.Ranges.{Numbers, IsNormal, holds, inside}
use Rattle.acl_sets.specs.SweepSteps.{passed, begins_by}
use Rattle.acl_dead.specs.Boxes.{AreBoundaries}
use Rattle.acl_dead.specs.CutSteps.{EndsFrom, Gathers, held, held_cuts}
use Rattle.acl_dead.specs.Runs.{begins, cuts, has_before}
use Rattle.acl_dead.proofs.RoundingLaws.{contains_cases, contains_first, contains_later, contains_none}
use Rattle.acl_dead.proofs.SweepFacts.{passed-passed, begins-holds, below_floor}

-- ---- two tests side by side

abbrev starts : Bool → Bool → Bool
starts now earlier = now && not earlier

abbrev changes : Bool → Bool → Bool
changes now earlier = (now && not earlier) || (not now && earlier)

other_starts : (a b c d : Bool) → b ≡ false → d ≡ false → starts (a || b) (c || d) ≡ starts a c
other_starts true false true false e f = refl
other_starts true false false false e f = refl
other_starts false false true false e f = refl
other_starts false false false false e f = refl
other_starts a true c d e f = absurd (false≢true (sym e))
other_starts a false c true e f = absurd (false≢true (sym f))

other_changes : (a b c d : Bool) → b ≡ false → d ≡ false → changes (a || b) (c || d) ≡ changes a c
other_changes true false true false e f = refl
other_changes true false false false e f = refl
other_changes false false true false e f = refl
other_changes false false false false e f = refl
other_changes a true c d e f = absurd (false≢true (sym e))
other_changes a false c true e f = absurd (false≢true (sym f))

no_start : (a b : Bool) → a ≡ false → starts a b ≡ false
no_start false b e = refl
no_start true b e = absurd (false≢true (sym e))

no_change : (a b : Bool) → a ≡ false → b ≡ false → changes a b ≡ false
no_change false false e f = refl
no_change true b e f = absurd (false≢true (sym e))
no_change false true e f = absurd (false≢true (sym f))

or_none : (a b : Bool) → b ≡ false → (a || b) ≡ a
or_none true false e = refl
or_none false false e = refl
or_none a true e = absurd (false≢true (sym e))

before_or : (f g : ℕ → Bool) (x : ℕ) → has_before (λ y. f y || g y) x ≡ (has_before f x || has_before g x)
before_or f g zero = refl
before_or f g (suc n) = refl

-- ---- one range, and others behind it

one_begins : (low high x : ℕ) → low ≤ high → begins (λ y. nat_le low y && nat_le y high) x ≡ eqb x low
one_begins low high zero le = grind (arith, nat_tests)
one_begins low high (suc n) le = grind (arith, nat_tests)

one_cuts : (low high x : ℕ) → low ≤ high
    → cuts (λ y. nat_le low y && nat_le y high) x ≡ (eqb x low || eqb x (high + 1))
one_cuts low high zero le = grind (arith, nat_tests)
one_cuts low high (suc n) le = grind (arith, nat_tests)

-- before a floor nothing is held, nor just before it
before_floor : (floor top : ℕ) (rs : List Range) (x : ℕ) → IsNormal floor top rs → x ≤ floor
    → has_before (λ y. holds rs y) x ≡ false
before_floor floor top rs zero n le = refl
before_floor floor top rs (suc x) n le = below_floor floor top rs x n (omega arith)

past_range : (low high x : ℕ) → high < x → (nat_le low x && nat_le x high) ≡ false
past_range low high x over = and_right (nat_le low x) (nat_le x high) (lt-leb x high over)

before_past : (low high x : ℕ) → high + 1 < x → has_before (λ y. nat_le low y && nat_le y high) x ≡ false
before_past low high zero over = refl
before_past low high (suc x) over = past_range low high x (omega arith)

or_swap : (a b c d : Bool) → a ≡ false → c ≡ false → changes (a || b) (c || d) ≡ changes b d
or_swap false b false d e f = refl
or_swap true b c d e f = absurd (false≢true (sym e))
or_swap false b true d e f = absurd (false≢true (sym f))

or_swap_starts : (a b c d : Bool) → a ≡ false → c ≡ false → starts (a || b) (c || d) ≡ starts b d
or_swap_starts false b false d e f = refl
or_swap_starts true b c d e f = absurd (false≢true (sym e))
or_swap_starts false b true d e f = absurd (false≢true (sym f))

cuts_cons : (floor top : ℕ) (r : Range) (rs : List Range) (x : ℕ) → IsNormal floor top (r ∷ rs)
    → cuts (λ y. holds (r ∷ rs) y) x ≡ ((eqb x r.low || eqb x (r.high + 1)) || cuts (λ y. holds rs y) x)
cuts_cons floor top r rs x n =
    let some = n.1 in
    ap (λ b. changes (inside r x || holds rs x) b) (before_or (λ y. inside r y) (λ y. holds rs y) x)
    ∙ elim (cases_lt (r.high + 1) x) [
      | inl past ↦
          or_swap (inside r x) (holds rs x) (has_before (λ y. inside r y) x) (has_before (λ y. holds rs y) x)
          (past_range r.low r.high x (omega arith)) (before_past r.low r.high x past)
          ∙ sym (ap (λ b. b || cuts (λ y. holds rs y) x)
          (or_from (eqb x r.low) (eqb x (r.high + 1)) (ne_eqb x r.low (λ e. absurd (omega arith))) (ne_eqb x (r.high + 1) (λ e. absurd (omega arith)))))
      | inr near ↦
          let here = below_floor (r.high + 2) top rs x n.3 (omega arith) in
          let earlier = before_floor (r.high + 2) top rs x n.3 (omega arith) in
          other_changes (inside r x) (holds rs x) (has_before (λ y. inside r y) x) (has_before (λ y. holds rs y) x) here earlier
          ∙ one_cuts r.low r.high x some
          ∙ sym (or_none (eqb x r.low || eqb x (r.high + 1)) (cuts (λ y. holds rs y) x) (no_change (holds rs x) (has_before (λ y. holds rs y) x) here earlier))
    ]

begins_cons : (floor top : ℕ) (r : Range) (rs : List Range) (x : ℕ) → IsNormal floor top (r ∷ rs)
    → begins (λ y. holds (r ∷ rs) y) x ≡ (eqb x r.low || begins (λ y. holds rs y) x)
begins_cons floor top r rs x n =
    let some = n.1 in
    ap (λ b. starts (inside r x || holds rs x) b) (before_or (λ y. inside r y) (λ y. holds rs y) x)
    ∙ elim (cases_lt (r.high + 1) x) [
      | inl past ↦
          or_swap_starts (inside r x) (holds rs x) (has_before (λ y. inside r y) x) (has_before (λ y. holds rs y) x)
          (past_range r.low r.high x (omega arith)) (before_past r.low r.high x past)
          ∙ sym (ap (λ b. b || begins (λ y. holds rs y) x) (ne_eqb x r.low (λ e. absurd (omega arith))))
      | inr near ↦
          let here = below_floor (r.high + 2) top rs x n.3 (omega arith) in
          let earlier = before_floor (r.high + 2) top rs x n.3 (omega arith) in
          other_starts (inside r x) (holds rs x) (has_before (λ y. inside r y) x) (has_before (λ y. holds rs y) x) here earlier
          ∙ one_begins r.low r.high x some
          ∙ sym (or_none (eqb x r.low) (begins (λ y. holds rs y) x) (no_start (holds rs x) (has_before (λ y. holds rs y) x) here))
    ]

-- ---- the cuts of a list in normal form are the ends of its ranges

abbrev pub ends : List Range → List ℕ
ends [] = []
ends (r ∷ rs) = r.low ∷ (r.high + 1) ∷ ends rs

pub ends_cut : (floor top : ℕ) (rs : List Range) (x : ℕ) → IsNormal floor top rs → Contains (ends rs) x
    → cuts (λ y. holds rs y) x ≡ true
ends_cut floor top [] x n h = absurd (contains_none x h)
ends_cut floor top (r ∷ rs) x n h = cuts_cons floor top r rs x n ∙ elim (contains_cases r.low ((r.high + 1) ∷ ends rs) x h) [
  | inl low ↦ or_left _ _ (or_left _ _ (eq-eqb x r.low (sym low)))
  | inr later ↦ elim (contains_cases (r.high + 1) (ends rs) x later) [
    | inl high ↦ or_left _ _ (or_right _ _ (eq-eqb x (r.high + 1) (sym high)))
    | inr behind ↦ or_right _ _ (ends_cut (r.high + 2) top rs x n.3 behind)
  ]
]

pub cut_ends : (floor top : ℕ) (rs : List Range) (x : ℕ) → IsNormal floor top rs → cuts (λ y. holds rs y) x ≡ true
    → Contains (ends rs) x
cut_ends floor top [] zero n h = absurd (false≢true h)
cut_ends floor top [] (suc x) n h = absurd (false≢true h)
cut_ends floor top (r ∷ rs) x n h = elim (or_cases _ _ (sym (cuts_cons floor top r rs x n) ∙ h)) [
  | inl here ↦ elim (or_cases _ _ here) [
    | inl low ↦ contains_first r.low ((r.high + 1) ∷ ends rs) x (sym (eqb-true x r.low low))
    | inr high ↦ contains_later r.low ((r.high + 1) ∷ ends rs) x
        (contains_first (r.high + 1) (ends rs) x (sym (eqb-true x (r.high + 1) high)))
  ]
  | inr behind ↦ contains_later r.low ((r.high + 1) ∷ ends rs) x
      (contains_later (r.high + 1) (ends rs) x (cut_ends (r.high + 2) top rs x n.3 behind))
]

lows_begin : (floor top : ℕ) (rs : List Range) (x : ℕ) → IsNormal floor top rs
    → Contains (map (λ (r : Range). r.low) rs) x → begins (λ y. holds rs y) x ≡ true
lows_begin floor top [] x n h = absurd (contains_none x h)
lows_begin floor top (r ∷ rs) x n h =
    begins_cons floor top r rs x n ∙ elim (contains_cases r.low (map (λ (q : Range). q.low) rs) x h) [
      | inl low ↦ or_left _ _ (eq-eqb x r.low (sym low))
      | inr behind ↦ or_right _ _ (lows_begin (r.high + 2) top rs x n.3 behind)
    ]

begin_lows : (floor top : ℕ) (rs : List Range) (x : ℕ) → IsNormal floor top rs → begins (λ y. holds rs y) x ≡ true
    → Contains (map (λ (r : Range). r.low) rs) x
begin_lows floor top [] x n h = absurd (false≢true h)
begin_lows floor top (r ∷ rs) x n h = elim (or_cases _ _ (sym (begins_cons floor top r rs x n) ∙ h)) [
  | inl low ↦ contains_first r.low (map (λ (q : Range). q.low) rs) x (sym (eqb-true x r.low low))
  | inr behind ↦ contains_later r.low (map (λ (q : Range). q.low) rs) x (begin_lows (r.high + 2) top rs x n.3 behind)
]

-- ---- the walk along both lists puts the ends that lie in the first

held_is : (top : ℕ) (own : List Range) (h x : ℕ) → IsNormal 0 top own → h ≤ x
    → held x (passed h own) ≡ (if holds own x then x ∷ [] else [])
held_is top own h x n le =
    ap (λ (rs : List Range). if begins_by x rs then x ∷ [] else []) (passed-passed x h own le)
    ∙ ap (λ b. if b then x ∷ [] else []) (begins-holds 0 top own x n)

two_kept : (p : ℕ → Bool) (a b : ℕ) (cs : List ℕ)
    → ((if p a then a ∷ [] else []) ++ (if p b then b ∷ [] else [])) ++ filter p cs ≡ filter p (a ∷ b ∷ cs)
two_kept p a b cs = elim (cases_Bool (p a)) [
  | inl t ↦ elim (cases_Bool (p b)) [ inl u ↦ rw (t, u) refl | inr u ↦ rw (t, u) refl ]
  | inr t ↦ elim (cases_Bool (p b)) [ inl u ↦ rw (t, u) refl | inr u ↦ rw (t, u) refl ]
]

pub held_ends : (top floor up : ℕ) (own rs : List Range) (h : ℕ) → IsNormal 0 top own → IsNormal floor up rs → h ≤ floor
    → held_cuts (passed h own) rs ≡ filter (λ x. holds own x) (ends rs)
held_ends top floor up own [] h n m le = refl
held_ends top floor up own (r ∷ rs) h n m le =
    let from = m.0 in
    let some = m.1 in
    let low = passed-passed r.low h own (omega arith) in
    let next = passed-passed (r.high + 1) r.low own (omega arith) in
    let a = held_is top own h r.low n (omega arith) in
    let b = ap (λ (qs : List Range). held (r.high + 1) qs) low ∙ held_is top own r.low (r.high + 1) n (omega arith) in
    let c = ap (λ (qs : List Range). held_cuts (passed (r.high + 1) qs) rs) low
    ∙ ap (λ (qs : List Range). held_cuts qs rs) next
    ∙ held_ends top (r.high + 2) up own rs (r.high + 1) n m.3 (omega arith) in
    ap (λ (xs : List ℕ). (xs ++ held (r.high + 1) (passed r.low (passed h own))) ++ held_cuts (passed (r.high + 1) (passed r.low (passed h own))) rs) a
    ∙ ap (λ (xs : List ℕ). ((if holds own r.low then r.low ∷ [] else []) ++ xs) ++ held_cuts (passed (r.high + 1) (passed r.low (passed h own))) rs) b
    ∙ ap (λ (xs : List ℕ). ((if holds own r.low then r.low ∷ [] else []) ++ (if holds own (r.high + 1) then (r.high + 1) ∷ [] else [])) ++ xs) c
    ∙ two_kept (λ x. holds own x) r.low (r.high + 1) (ends rs)

pub passed_0 : (own : List Range) → passed 0 own ≡ own
passed_0 [] = refl
passed_0 (r ∷ rs) = rw (le-ltb r.high 0 (omega arith)) refl

-- ---- what is gathered

kept_contains : (p : ℕ → Bool) (cs : List ℕ) (x : ℕ) → Contains cs x → p x ≡ true → Contains (filter p cs) x
kept_contains p [] x h pass = absurd (contains_none x h)
kept_contains p (c ∷ cs) x h pass = elim (contains_cases c cs x h) [
  | inl e ↦ rw (ap p e ∙ pass) (0, omega arith, e)
  | inr later ↦ elim (cases_Bool (p c)) [
    | inl t ↦ rw t (contains_later c (filter p cs) x (kept_contains p cs x later pass))
    | inr f ↦ rw f (kept_contains p cs x later pass)
  ]
]

contains_kept : (p : ℕ → Bool) (cs : List ℕ) (x : ℕ) → Contains (filter p cs) x → Contains cs x × (p x ≡ true)
contains_kept p [] x h = absurd (contains_none x h)
contains_kept p (c ∷ cs) x h = elim (cases_Bool (p c)) [
  | inl t ↦ elim (contains_cases c (filter p cs) x (rw t at h)) [
    | inl e ↦ ((0, omega arith, e), subst (λ (y : ℕ). p y ≡ true) e t)
    | inr later ↦ let u = contains_kept p cs x later in (contains_later c cs x u.0, u.1)
  ]
  | inr f ↦ let u = contains_kept p cs x (rw f at h) in (contains_later c cs x u.0, u.1)
]

-- one set is gathered
pub gathers_one : (top up : ℕ) (own rs os qs : List Range) (old new : List ℕ) → os ≡ own → qs ≡ rs
    → IsNormal 0 top own → IsNormal 0 up rs → new ≡ old ++ held_cuts os qs
    → Gathers (λ x. holds own x && cuts (λ y. holds rs y) x) old new
gathers_one top up own rs os qs old new eo eq n m e x =
    let kept = filter (λ y. holds own y) (ends rs) in
    let is : new ≡ old ++ kept = e ∙ ap (λ (zs : List Range). old ++ held_cuts zs qs) eo
    ∙ ap (λ (zs : List Range). old ++ held_cuts own zs) eq
    ∙ ap (λ (zs : List Range). old ++ held_cuts zs rs) (sym (passed_0 own))
    ∙ ap (λ (zs : List ℕ). old ++ zs) (held_ends top 0 up own rs 0 n m (omega arith)) in (
      λ h. elim (Contains-append_cases old kept x (subst (λ (ys : List ℕ). Contains ys x) is h)) [
        | inl before ↦ inl before
        | inr put ↦ let k = contains_kept (λ y. holds own y) (ends rs) x put in
            inr (and_from _ _ k.1 (ends_cut 0 up rs x m k.0))
      ],
      λ h. subst (λ (ys : List ℕ). Contains ys x) (sym is) (elim h [
        | inl before ↦ Contains-append_left old kept x before
        | inr pass ↦ let p = and_parts _ _ pass in
            Contains-append_right old kept x (kept_contains (λ y. holds own y) (ends rs) x (cut_ends 0 up rs x m p.1) p.0)
      ]),
    )

pub gathers_none : (own : ℕ → Bool) (old : List ℕ) → Gathers (λ x. own x && false) old old
gathers_none own old x = (λ h. inl h, λ h. elim h [ inl before ↦ before | inr pass ↦ absurd (false≢true (and_parts (own x) false pass).1) ])

-- in another order, or once each
pub gathers_same : (test : ℕ → Bool) (old mid new : List ℕ) → Gathers test old mid
    → ((x : ℕ) → Contains new x ↔ Contains mid x) → Gathers test old new
gathers_same test old mid new g same x = (λ h. (g x).0 ((same x).0 h), λ h. (same x).1 ((g x).1 h))

-- one more test
pub gathers_more : (own test : ℕ → Bool) (both : ℕ → Bool) (more : ℕ → Bool) (a b c : List ℕ)
    → ((x : ℕ) → both x ≡ (test x || more x)) → Gathers (λ x. own x && test x) a b
    → Gathers (λ x. own x && more x) b c → Gathers (λ x. own x && both x) a c
gathers_more own test both more a b c is f g x = (
  λ h. elim ((g x).0 h) [
    | inl before ↦ elim ((f x).0 before) [
      | inl first ↦ inl first
      | inr pass ↦ let p = and_parts _ _ pass in inr (and_from _ _ p.0 (is x ∙ or_left _ _ p.1))
    ]
    | inr pass ↦ let p = and_parts _ _ pass in inr (and_from _ _ p.0 (is x ∙ or_right _ _ p.1))
  ],
  λ h. elim h [
    | inl first ↦ (g x).1 (inl ((f x).1 (inl first)))
    | inr pass ↦ let p = and_parts _ _ pass in
        elim (or_cases _ _ (sym (is x) ∙ p.1)) [
          | inl one ↦ (g x).1 (inl ((f x).1 (inr (and_from _ _ p.0 one))))
          | inr two ↦ (g x).1 (inr (and_from _ _ p.0 two))
        ]
  ],
)

any_number : (numbers : List ℕ) (x : ℕ) → Contains numbers x → list_any (λ n. eqb n x) numbers ≡ true
any_number [] x h = absurd (contains_none x h)
any_number (n ∷ ns) x h = elim (contains_cases n ns x h) [
  | inl e ↦ or_left _ _ (eq-eqb n x e)
  | inr later ↦ or_right _ _ (any_number ns x later)
]

number_any : (numbers : List ℕ) (x : ℕ) → list_any (λ n. eqb n x) numbers ≡ true → Contains numbers x
number_any [] x h = absurd (false≢true h)
number_any (n ∷ ns) x h = elim (or_cases _ _ h) [
  | inl here ↦ contains_first n ns x (eqb-true n x here)
  | inr later ↦ contains_later n ns x (number_any ns x later)
]

any_of_ranges : (sets : List (Bor Numbers)) (x : ℕ)
    → list_any (λ rs. cuts (λ y. holds rs y) x) (map (λ (s : Bor Numbers). s.now.ranges) sets)
    ≡ list_any (λ (s : Bor Numbers). cuts (λ y. holds s.now.ranges y) x) sets
any_of_ranges [] x = refl
any_of_ranges (s ∷ sets) x = ap (λ b. cuts (λ y. holds s.now.ranges y) x || b) (any_of_ranges sets x)

pub boundary_list : (top : ℕ) (own : List Range) (sets : List (Bor Numbers)) (numbers gs put xs : List ℕ) → IsNormal 0 top own
    → gs ≡ map (λ (r : Range). r.low) own ++ filter (λ x. holds own x) numbers
    → Gathers (λ x. holds own x && list_any (λ (s : Bor Numbers). cuts (λ y. holds s.now.ranges y) x) sets) gs put
    → IsStrictlyIncreasing xs → ((x : ℕ) → Contains xs x ↔ Contains put x)
    → AreBoundaries own (map (λ (s : Bor Numbers). s.now.ranges) sets) numbers xs
boundary_list top own sets numbers gs put xs n e more rising same = record {
  rising = rising;
  exact = λ x.
      let lows = map (λ (r : Range). r.low) own in
      let inner = filter (λ y. holds own y) numbers in (
        λ h. elim ((more x).0 ((same x).0 h)) [
          | inl first ↦ elim (Contains-append_cases lows inner x (subst (λ (ys : List ℕ). Contains ys x) e first)) [
            | inl low ↦ let b = lows_begin 0 top own x n low in
                and_from _ _ (and_parts _ _ b).0 (or_left _ _ b)
            | inr number ↦ let k = contains_kept (λ y. holds own y) numbers x number in
                and_from _ _ k.1 (or_right _ _ (or_right _ _ (any_number numbers x k.0)))
          ]
          | inr pass ↦ let p = and_parts _ _ pass in
              and_from _ _ p.0 (or_right _ _ (or_left _ _ (any_of_ranges sets x ∙ p.1)))
        ],
        λ h. let p = and_parts _ _ h in
            (same x).1 ((more x).1 (elim (or_cases _ _ p.1) [
              | inl low ↦ inl (subst (λ (ys : List ℕ). Contains ys x) (sym e)
                  (Contains-append_left lows inner x (begin_lows 0 top own x n low)))
              | inr cut ↦ elim (or_cases _ _ cut) [
                | inl set ↦ inr (and_from _ _ p.0 (sym (any_of_ranges sets x) ∙ set))
                | inr number ↦ inl (subst (λ (ys : List ℕ). Contains ys x) (sym e)
                    (Contains-append_right lows inner x (kept_contains (λ y. holds own y) numbers x (number_any numbers x number) p.0)))
              ]
            ])),
      );
}

-- ---- the number behind a range

pub passed_first : (h : ℕ) (rs : List Range) → EndsFrom h (passed h rs)
passed_first h [] = tt
passed_first h (r ∷ rs) = elim (cases_lt r.high h) [
  | inl below ↦ rw (lt-ltb r.high h below) (passed_first h rs)
  | inr above ↦ rw (le-ltb r.high h above) above
]

pub gathers_result : {E : Type 0} (top up : ℕ) (own rs os qs : List Range) (old new : List ℕ) → os ≡ own → qs ≡ rs
    → IsNormal 0 top own → IsNormal 0 up rs → (r : Result (Unit {0}) E) → OnOk r (new ≡ old ++ held_cuts os qs)
    → OnOk r (Gathers (λ x. holds own x && cuts (λ y. holds rs y) x) old new)
gathers_result top up own rs os qs old new eo eq n m (Ok u) e = gathers_one top up own rs os qs old new eo eq n m e
gathers_result top up own rs os qs old new eo eq n m (Err f) e = tt
