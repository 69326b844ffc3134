-- Marks: what one mark changes, and how many there are.
use Rattle.std.proofs.Common.{◌≡◌, ℕ, zero, suc, ◌+◌, ◌<◌, ◌≤◌, Bool, true, false, ◌==◌, ◌⊎◌, if◌then◌else◌, List, [], ◌∷◌, ◌++◌, length, slice_set, inl, inr, refl, ap, sym, subst, ◌∙◌, arith, length-append}
use Rattle.std.proofs.lemmas.Bool.{eq-eqb, eqb-true, or_left, or_right, or_cases}
use Rattle.std.specs.List.{All}
use Rattle.std.proofs.lemmas.List.Elements.{All-nil, All-cons, All-head, All-tail}
use Rattle.std.proofs.lemmas.List.Folds.{list_any-append}
use Rattle.acl_naming.specs.MarkSteps.{marked, mark_all, unmarked, among}

abbrev pub count : List Bool → ℕ
count [] = 0
count (true ∷ m) = suc (count m)
count (false ∷ m) = count m

pub length_mark : (m : List Bool) (j : ℕ) → length (slice_set m j true) ≡ length m
length_mark [] j = refl
length_mark (b ∷ m) zero = refl
length_mark (b ∷ m) (suc j) = ap suc (length_mark m j)

pub mark_kept : (m : List Bool) (i j : ℕ) → marked m i ≡ true → marked (slice_set m j true) i ≡ true
mark_kept [] i j h = h
mark_kept (b ∷ m) zero zero h = refl
mark_kept (b ∷ m) zero (suc j) h = h
mark_kept (b ∷ m) (suc i) zero h = h
mark_kept (b ∷ m) (suc i) (suc j) h = mark_kept m i j h

pub mark_is : (m : List Bool) (j : ℕ) → j < length m → marked (slice_set m j true) j ≡ true
mark_is [] j h = absurd (omega arith)
mark_is (b ∷ m) zero h = refl
mark_is (b ∷ m) (suc j) h = mark_is m j (omega arith)

pub mark_only : (m : List Bool) (i j : ℕ) → marked (slice_set m j true) i ≡ true → (marked m i ≡ true) ⊎ (i ≡ j)
mark_only [] i j h = inl h
mark_only (b ∷ m) zero zero h = inr refl
mark_only (b ∷ m) zero (suc j) h = inl h
mark_only (b ∷ m) (suc i) zero h = inl h
mark_only (b ∷ m) (suc i) (suc j) h = elim (mark_only m i j h) [ inl k ↦ inl k | inr e ↦ inr (ap suc e) ]

-- a mark that is there changes nothing
pub mark_again : (m : List Bool) (j : ℕ) → marked m j ≡ true → slice_set m j true ≡ m
mark_again [] j h = refl
mark_again (b ∷ m) zero h = ap (λ c. c ∷ m) (sym h)
mark_again (b ∷ m) (suc j) h = ap (λ t. b ∷ t) (mark_again m j h)

count_more : (b : Bool) (m n : List Bool) → count n ≡ suc (count m) → count (b ∷ n) ≡ suc (count (b ∷ m))
count_more true m n e = ap suc e
count_more false m n e = e

-- a mark changes nothing, or is one more
pub mark_counts : (m : List Bool) (j : ℕ) → (slice_set m j true ≡ m) ⊎ (count (slice_set m j true) ≡ suc (count m))
mark_counts [] j = inl refl
mark_counts (true ∷ m) zero = inl refl
mark_counts (false ∷ m) zero = inr refl
mark_counts (b ∷ m) (suc j) = elim (mark_counts m j) [
  | inl e ↦ inl (ap (λ t. b ∷ t) e)
  | inr e ↦ inr (count_more b m (slice_set m j true) e)
]

pub count_fits : (m : List Bool) → count m ≤ length m
count_fits [] = omega arith
count_fits (true ∷ m) = omega (arith, count_fits m)
count_fits (false ∷ m) = omega (arith, count_fits m)

count_one : (b : Bool) (m n : List Bool) (k : ℕ) → count n ≡ count m + k → count (b ∷ n) ≡ count (b ∷ m) + k
count_one true m n k e = omega arith
count_one false m n k e = e

-- a mark at a place that has none is one more
count_new : (m : List Bool) (j : ℕ) → j < length m → marked m j ≡ false → count (slice_set m j true) ≡ count m + 1
count_new [] j h e = absurd (omega arith)
count_new (true ∷ m) zero h e = absurd (cc)
count_new (false ∷ m) zero h e = omega arith
count_new (b ∷ m) (suc j) h e = count_one b m (slice_set m j true) 1 (count_new m j (omega arith) e)

pub marked_within : (m : List Bool) (i : ℕ) → marked m i ≡ true → i < length m
marked_within [] i h = absurd (cc)
marked_within (b ∷ m) zero h = omega arith
marked_within (b ∷ m) (suc i) h = omega (arith, marked_within m i h)

-- ---- marks at a list of places

pub marks_keep : (P : List Bool → Type 0) (js : List ℕ) → ((m : List Bool) (j : ℕ) → among j js ≡ true → P m → P (slice_set m j true))
    → (m : List Bool) → P m → P (mark_all js m)
marks_keep P [] step m p = p
marks_keep P (j ∷ js) step m p =
    marks_keep P js (λ n k h q. step n k (or_right (j == k) (among k js) h) q) (slice_set m j true)
    (step m j (or_left (j == j) (among j js) (eq-eqb j j refl)) p)

pub marks_kept : (js : List ℕ) (m : List Bool) (i : ℕ) → marked m i ≡ true → marked (mark_all js m) i ≡ true
marks_kept js m i h = marks_keep (λ n. marked n i ≡ true) js (λ n j a q. mark_kept n i j q) m h

pub marks_length : (js : List ℕ) (m : List Bool) → length (mark_all js m) ≡ length m
marks_length js m = marks_keep (λ n. length n ≡ length m) js (λ n j a q. length_mark n j ∙ q) m refl

pub marks_all : (js : List ℕ) (m : List Bool) (j : ℕ) → among j js ≡ true → j < length m → marked (mark_all js m) j ≡ true
marks_all [] m j h l = absurd (cc)
marks_all (k ∷ js) m j h l = elim (or_cases (k == j) (among j js) h) [
  | inl e ↦ marks_kept js (slice_set m k true) j (here m k j (eqb-true k j e) l)
  | inr a ↦ marks_all js (slice_set m k true) j a (omega (arith, length_mark m k))
]
  where
    here : (m : List Bool) (k j : ℕ) → k ≡ j → j < length m → marked (slice_set m k true) j ≡ true
    here m k j e l = ap (λ i. marked (slice_set m i true) j) e ∙ mark_is m j l

-- ---- those of the places that have no mark

pub among_left : (j : ℕ) (xs ys : List ℕ) → among j xs ≡ true → among j (xs ++ ys) ≡ true
among_left j xs ys h = list_any-append (λ k. k == j) xs ys ∙ or_left (among j xs) (among j ys) h

pub among_right : (j : ℕ) (xs ys : List ℕ) → among j ys ≡ true → among j (xs ++ ys) ≡ true
among_right j xs ys h = list_any-append (λ k. k == j) xs ys ∙ or_right (among j xs) (among j ys) h

pub among_cases : (j : ℕ) (xs ys : List ℕ) → among j (xs ++ ys) ≡ true → (among j xs ≡ true) ⊎ (among j ys ≡ true)
among_cases j xs ys h = or_cases (among j xs) (among j ys) (sym (list_any-append (λ k. k == j) xs ys) ∙ h)

pub among_one : (j : ℕ) → among j (j ∷ []) ≡ true
among_one j = or_left (j == j) false (eq-eqb j j refl)

pub is_one : (j k : ℕ) → among j (k ∷ []) ≡ true → k ≡ j
is_one j k h = elim (or_cases (k == j) false h) [
  | inl e ↦ eqb-true k j e
  | inr e ↦ absurd (cc)
]

abbrev one_unmarked : Bool → ℕ → List ℕ
one_unmarked b j = if b then [] else j ∷ []

one_among : (b : Bool) (i j : ℕ) → among j (one_unmarked b i) ≡ true → i ≡ j
one_among true i j h = absurd (cc)
one_among false i j h = is_one j i h

pub unmarked_among : (js : List ℕ) (m : List Bool) (j : ℕ) → among j (unmarked js m) ≡ true → among j js ≡ true
unmarked_among [] m j h = h
unmarked_among (k ∷ js) m j h = elim (among_cases j (one_unmarked (marked m k) k) (unmarked js (slice_set m k true)) h) [
  | inl a ↦ or_left (k == j) (among j js) (eq-eqb k j (one_among (marked m k) k j a))
  | inr b ↦ or_right (k == j) (among j js) (unmarked_among js (slice_set m k true) j b)
]

marked_or_one : (b : Bool) (m : List Bool) (i : ℕ) → marked m i ≡ b → (marked m i ≡ true) ⊎ (among i (one_unmarked b i) ≡ true)
marked_or_one true m i e = inl e
marked_or_one false m i e = inr (among_one i)

-- what is marked was marked before, or is one of those
pub marked_before : (js : List ℕ) (m : List Bool) (i : ℕ) → marked (mark_all js m) i ≡ true → (marked m i ≡ true) ⊎ (among i (unmarked js m) ≡ true)
marked_before [] m i h = inl h
marked_before (j ∷ js) m i h = elim (marked_before js (slice_set m j true) i h) [
  | inl a ↦ elim (mark_only m i j a) [
    | inl old ↦ inl old
    | inr e ↦ elim (marked_or_one (marked m j) m j refl) [
      | inl old ↦ inl (ap (marked m) e ∙ old)
      | inr new ↦ inr (among_left i (one_unmarked (marked m j) j) (unmarked js (slice_set m j true))
          (ap (λ k. among k (one_unmarked (marked m j) j)) e ∙ new))
    ]
  ]
  | inr b ↦ inr (among_right i (one_unmarked (marked m j) j) (unmarked js (slice_set m j true)) b)
]

one_counts : (b : Bool) (m : List Bool) (j : ℕ) → j < length m → marked m j ≡ b → count (slice_set m j true) ≡ count m + length (one_unmarked b j)
one_counts true m j h e = omega (arith, ap count (mark_again m j e))
one_counts false m j h e = count_new m j h e

-- each of them is one mark more
pub unmarked_counts : (js : List ℕ) (m : List Bool) → ((j : ℕ) → among j js ≡ true → j < length m)
    → count (mark_all js m) ≡ count m + length (unmarked js m)
unmarked_counts [] m within = omega arith
unmarked_counts (j ∷ js) m within =
    let n = slice_set m j true in
    let rest : count (mark_all js n) ≡ count n + length (unmarked js n) =
    unmarked_counts js n (λ k h. omega (arith, within k (or_right (j == k) (among k js) h), length_mark m j)) in
    let here : count n ≡ count m + length (one_unmarked (marked m j) j) =
    one_counts (marked m j) m j (within j (or_left (j == j) (among j js) (eq-eqb j j refl))) refl in
    omega (arith, rest, here, length-append (one_unmarked (marked m j) j) (unmarked js n))

-- ---- the places that have marks

-- The places are those that have marks, each once.
pub record AreListed (m : List Bool) (places : List ℕ) : Type 0 where
  pub listed : (j : ℕ) → marked m j ≡ true → among j places ≡ true
  pub marks : (j : ℕ) → among j places ≡ true → marked m j ≡ true
  pub counts : count m ≡ length places

pub listed_more : (m : List Bool) (places js : List ℕ) → ((j : ℕ) → among j js ≡ true → j < length m) → AreListed m places
    → AreListed (mark_all js m) (places ++ unmarked js m)
listed_more m places js within old = record {
  listed = λ j h. elim (marked_before js m j h) [
    | inl before ↦ among_left j places (unmarked js m) (old.listed j before)
    | inr new ↦ among_right j places (unmarked js m) new
  ];
  marks = λ j h. elim (among_cases j places (unmarked js m) h) [
    | inl a ↦ marks_kept js m j (old.marks j a)
    | inr b ↦ let a : among j js ≡ true = unmarked_among js m j b in marks_all js m j a (within j a)
  ];
  counts = omega (arith, unmarked_counts js m within, old.counts, length-append places (unmarked js m));
}

pub listed_fits : (m : List Bool) (places : List ℕ) → AreListed m places → length places ≤ length m
listed_fits m places l = omega (arith, l.counts, count_fits m)

-- what holds of each of the places
pub all_by : (P : ℕ → Type 0) (places : List ℕ) → ((j : ℕ) → among j places ≡ true → P j) → All P places
all_by P [] each = All-nil P
all_by P (k ∷ places) each =
    All-cons P k places (each k (or_left (k == k) (among k places) (eq-eqb k k refl)))
    (all_by P places (λ j h. each j (or_right (k == j) (among j places) h)))

pub by_all : (P : ℕ → Type 0) (places : List ℕ) (j : ℕ) → All P places → among j places ≡ true → P j
by_all P [] j all h = absurd (cc)
by_all P (k ∷ places) j all h = elim (or_cases (k == j) (among j places) h) [
  | inl e ↦ subst P (eqb-true k j e) (All-head P k places all)
  | inr a ↦ by_all P places j (All-tail P k places all) a
]

-- ---- what marks stand for

-- Each mark stands for something that is reached in at most as many steps as there are marks.
abbrev pub IsSound : (ℕ → ℕ → Type 0) → List Bool → Type 0
IsSound T m = (j : ℕ) → marked m j ≡ true → T (count m) j

pub sound_mark : (T : ℕ → ℕ → Type 0) → ((n j : ℕ) → T n j → T (suc n) j) → (m : List Bool) (j : ℕ) → T (suc (count m)) j
    → IsSound T m → IsSound T (slice_set m j true)
sound_mark T more m j t sound = λ x h. elim (mark_counts m j) [
  | inl same ↦ subst (λ (n : List Bool). T (count n) x) (sym same) (sound x (ap (λ n. marked n x) (sym same) ∙ h))
  | inr one ↦ subst (λ (c : ℕ). T c x) (sym one) (elim (mark_only m x j h) [
    | inl k ↦ more (count m) x (sound x k)
    | inr e ↦ subst (λ (y : ℕ). T (suc (count m)) y) (sym e) t
  ])
]
