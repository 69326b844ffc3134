-- Walks and places: the places that are gathered are those that walks reach.
use Rattle.std.proofs.Common.{◌≡◌, ℕ, zero, suc, ◌+◌, ◌-◌, ◌<◌, ◌≤◌, ◌↔◌, Bool, true, false, ◌==◌, replicate, drop, get_or, ◌⊎◌, List, [], ◌∷◌, ◌++◌, length, None, Some, inl, inr, refl, ap, sym, subst, ◌∙◌, arith}
use Rattle.std.specs.List.{list_any}
use Rattle.std.proofs.lemmas.Bool.{cases_lt, eq-eqb, eqb-true, or_left, or_right, or_cases}
use Rattle.std.proofs.lemmas.Option.{none-some, same_Some}
use Rattle.std.proofs.lemmas.List.{length-replicate, drop_more, drop_all, drop-append-le}
use Rattle.std.proofs.lemmas.List.Elements.{All-nil}
use Rattle.acl_naming.specs.declared.naming_items.Item.{Item}
use Rattle.acl_naming.specs.Checking.{HasNoCycle}
use Rattle.acl_naming.specs.Definitions.{Definition, index_of, items_at, items_in, items_of}
use Rattle.acl_naming.specs.MarkSteps.{marked, mark_all, unmarked, among, leads, AreClosed}
use Rattle.acl_naming.specs.RankSteps.{LeadBack}
use Rattle.acl_naming.specs.Reach.{is_reference, refers, Walks, Reaches, ReachesItself}
use Rattle.acl_naming.specs.Tables.{name_at}
use Rattle.acl_naming.specs.GraphSteps.{targets, graph_of, blank, Follows, AreBehind}
use Rattle.acl_naming.proofs.MarkLaws.{count, count_fits, mark_kept, marked_within, marks_keep, marks_kept, marks_all, marks_length, among_left, among_right, among_cases, unmarked_among, marked_before, AreListed, listed_more, listed_fits, all_by, IsSound, sound_mark}
use Rattle.acl_naming.proofs.GraphLaws.{option_cases, first_index, index_name, same_index, items_found, leads_at, leads_found, leads_all, target_found, targets_within}

pub blank_length : (base : List Definition) → length (blank base) ≡ length base
blank_length base = length-replicate (length base) false

pub cleared : (base : List Definition) (m : List Bool) (n : ℕ) → n ≡ length base → m ≡ replicate n false → m ≡ blank base
cleared base m n e h = h ∙ ap (λ k. replicate k false) e

pub blank_unmarked : (n i : ℕ) → marked (replicate n false) i ≡ true → ⊥
blank_unmarked zero i h = cc
blank_unmarked (suc n) zero h = cc
blank_unmarked (suc n) (suc i) h = blank_unmarked n i h

blank_count : (n : ℕ) → count (replicate n false) ≡ 0
blank_count zero = refl
blank_count (suc n) = blank_count n

-- one name more at the end of a walk
walk_on : (base : List Definition) (a b c : List ℕ) (names : List (List ℕ)) → Walks base a names b → refers base b c ≡ true
    → (more : List (List ℕ)) × (length more ≡ suc (length names)) × Walks base a more c
walk_on base a b c [] w r = (c ∷ [], refl, (ap (λ n. refers base n c) w ∙ r, refl))
walk_on base a b c (n ∷ names) w r =
    let p = walk_on base n b c names w.1 r in
    (n ∷ p.0, ap suc p.1, (w.0, p.2))

-- A walk of at most n steps ends at a name that is defined at j.
abbrev pub Found : List Definition → List ℕ → ℕ → ℕ → Type 0
Found base a n j = (names : List (List ℕ)) × (end : List ℕ) × (length names ≤ n) × Walks base a names end × (index_of base end ≡ Some j)

-- a name that is defined nowhere refers to nothing
undefined_stuck : (base : List Definition) (a b : List ℕ) → index_of base a ≡ None → refers base a b ≡ true → ⊥
undefined_stuck base a b e r = empty (sym (ap (λ o. list_any (is_reference b) (items_in base o)) e) ∙ r)
  where
    empty : false ≡ true → ⊥
    empty h = cc

-- and no walk leads from it to one that is defined
pub undefined_walk : (base : List Definition) (a b : List ℕ) (names : List (List ℕ)) (i : ℕ) → index_of base b ≡ None → index_of base a ≡ Some i
    → Walks base b names a → ⊥
undefined_walk base a b [] i n e w = none-some i (sym n ∙ ap (index_of base) w ∙ e)
undefined_walk base a b (c ∷ names) i n e w = undefined_stuck base b c n w.0

-- where a walk begins in a closed set, it ends there
pub closed_walk : (base : List Definition) (places : List ℕ) → AreClosed (graph_of base) places → (a z : List ℕ) (i j : ℕ) (names : List (List ℕ))
    → index_of base a ≡ Some i → among i places ≡ true → Walks base a names z → index_of base z ≡ Some j → among j places ≡ true
closed_walk base places closed a z i j [] e h w f =
    let same : i ≡ j = same_Some i j (sym e ∙ ap (index_of base) w ∙ f) in
    ap (λ k. among k places) (sym same) ∙ h
closed_walk base places closed a z i j (b ∷ []) e h w f =
    let there : index_of base b ≡ Some j = ap (index_of base) w.1 ∙ f in
    closed i j h (leads_all base a b i j e w.0 there)
closed_walk base places closed a z i j (b ∷ c ∷ names) e h w f = elim (option_cases (index_of base b)) [
  | inl none ↦ absurd (undefined_stuck base b c none w.1.0)
  | inr k ↦ closed_walk base places closed b z k.0 j (c ∷ names) k.1 (closed i k.0 h (leads_all base a b i k.0 e w.0 k.1)) w.1 f
]

-- where each name is at least as high as what names it, the end of a walk is at least as high as its beginning
never_falls : (base : List Definition) (height : ℕ → ℕ) → ((i j : ℕ) → leads (graph_of base) i j ≡ true → height i ≤ height j) → (a z : List ℕ) (i j : ℕ) (names : List (List ℕ))
    → index_of base a ≡ Some i → Walks base a names z → index_of base z ≡ Some j → height i ≤ height j
never_falls base height steady a z i j [] e w f =
    let same : i ≡ j = same_Some i j (sym e ∙ ap (index_of base) w ∙ f) in
    omega (arith, ap height same)
never_falls base height steady a z i j (b ∷ names) e w f = elim (option_cases (index_of base b)) [
  | inl none ↦ absurd (undefined_walk base z b names j none f w.1)
  | inr k ↦ omega (
    arith,
    steady i k.0 (leads_all base a b i k.0 e w.0 k.1),
    never_falls base height steady b z k.0 j names k.1 w.1 f,
  )
]

-- so a definition that is lower than all that it names reaches not itself
pub higher_apart : (base : List Definition) (height : ℕ → ℕ) → ((i j : ℕ) → leads (graph_of base) i j ≡ true → height i ≤ height j) → (a : List ℕ) (i : ℕ) → index_of base a ≡ Some i
    → ((j : ℕ) → leads (graph_of base) i j ≡ true → height i < height j) → ReachesItself base a → ⊥
higher_apart base height steady a i e higher r = elim (option_cases (index_of base r.0)) [
  | inl none ↦ undefined_walk base a r.0 r.1 i none e r.3.1
  | inr k ↦ omega (
    arith,
    higher k.0 (leads_all base a r.0 i k.0 e r.3.0 k.1),
    never_falls base height steady r.0 a k.0 i r.1 k.1 r.3.1 e,
  )
]

-- where each definition names only those before it, none reaches itself
pub back_apart : (base : List Definition) → LeadBack base → HasNoCycle base
back_apart base back k within r =
    let f = first_index base k within in
    let n = length base in
    let first : f.0 < n = omega (arith, f.2) in
    higher_apart base (λ i. n - i) (λ i j l. elim (cases_lt i n) [
      | inl lt ↦ omega (arith, back i lt j l)
      | inr ge ↦ omega (arith, ge)
    ]) (name_at base k) f.0 f.1 (λ j l. omega (arith, back f.0 first j l)) r

-- ---- the walk of src/marking.rt

follows_more : (base : List Definition) (i n j : ℕ) → Follows base i n j → Follows base i (suc n) j
follows_more base i n j f = (f.0, f.1, f.2, omega (arith, f.3), f.4, f.5, f.6)

follows_on : (base : List Definition) (i n k j : ℕ) → Follows base i n k → leads (graph_of base) k j ≡ true → Follows base i (suc n) j
follows_on base i n k j f l =
    let p = leads_found base f.2 k j f.6 l in
    let w = walk_on base f.0 f.2 p.0 f.1 f.5 p.1 in
    (f.0, w.0, p.0, omega (arith, f.3, w.1), f.4, w.2, p.2)

follows_first : (base : List Definition) (i n j : ℕ) → among j (targets base (items_at base i)) ≡ true → Follows base i (suc n) j
follows_first base i n j h =
    let p = target_found base (items_at base i) j h in
    (p.0, [], p.0, omega arith, p.1, refl, p.2)

-- What is kept while there are marked places whose items are still to be looked at, the waiting ones.
pub record IsWalk (base : List Definition) (i : ℕ) (m : List Bool) (waiting : List ℕ) : Type 0 where
  pub fits : length m ≡ length base
  pub begun : (j : ℕ) → leads (graph_of base) i j ≡ true → marked m j ≡ true
  pub known : (j : ℕ) → among j waiting ≡ true → marked m j ≡ true
  pub closed : (k j : ℕ) → marked m k ≡ true → leads (graph_of base) k j ≡ true → (marked m j ≡ true) ⊎ (among k waiting ≡ true)
  pub sound : IsSound (Follows base i) m

walk_begins : (base : List Definition) (i : ℕ)
    → IsWalk base i (mark_all (targets base (items_at base i)) (blank base)) (unmarked (targets base (items_at base i)) (blank base))
walk_begins base i =
    let js = targets base (items_at base i) in
    let within : (j : ℕ) → among j js ≡ true → j < length (blank base) =
    λ j h. omega (arith, targets_within base (items_at base i) j h, blank_length base) in
    record {
      fits = marks_length js (blank base) ∙ blank_length base;
      begun = λ j l. let h : among j js ≡ true = sym (leads_at base base i j) ∙ l in marks_all js (blank base) j h (within j h);
      known = λ j h. let a : among j js ≡ true = unmarked_among js (blank base) j h in marks_all js (blank base) j a (within j a);
      closed = λ k j h l. elim (marked_before js (blank base) k h) [
        | inl old ↦ absurd (blank_unmarked (length base) k old)
        | inr new ↦ inr new
      ];
      sound = marks_keep (IsSound (Follows base i)) js
          (λ m j h s. sound_mark (Follows base i) (follows_more base i) m j (follows_first base i (count m) j h) s) (blank base)
          (λ j h. absurd (blank_unmarked (length base) j h));
    }

module _ (base : List Definition) (i : ℕ) (m : List Bool) (next : ℕ) (rest : List ℕ) (walk : IsWalk base i m (next ∷ rest)) where
  next_marked : marked m next ≡ true
  next_marked = walk.known next (or_left (next == next) (among next rest) (eq-eqb next next refl))

  next_within : next < length base
  next_within = omega (arith, marked_within m next next_marked, walk.fits)

  named_within : (j : ℕ) → among j (targets base (items_at base next)) ≡ true → j < length m
  named_within j h = omega (arith, targets_within base (items_at base next) j h, walk.fits)

  still_closed : (k j : ℕ) → leads (graph_of base) k j ≡ true → among k (next ∷ rest) ≡ true
      → (marked (mark_all (targets base (items_at base next)) m) j ≡ true) ⊎ (among k (rest ++ unmarked (targets base (items_at base next)) m) ≡ true)
  still_closed k j l h =
      let js = targets base (items_at base next) in
      elim (or_cases (next == k) (among k rest) h) [
        | inl e ↦
            let a : among j js ≡ true = sym (leads_at base base next j) ∙ ap (λ x. leads (graph_of base) x j) (eqb-true next k e) ∙ l in
            inl (marks_all js m j a (named_within j a))
        | inr a ↦ inr (among_left k rest (unmarked js m) a)
      ]

  -- the first of the waiting places is looked at
  walk_goes : IsWalk base i (mark_all (targets base (items_at base next)) m) (rest ++ unmarked (targets base (items_at base next)) m)
  walk_goes =
      let js = targets base (items_at base next) in
      record {
        fits = marks_length js m ∙ walk.fits;
        begun = λ j l. marks_kept js m j (walk.begun j l);
        known = λ j h. elim (among_cases j rest (unmarked js m) h) [
          | inl a ↦ marks_kept js m j (walk.known j (or_right (next == j) (among j rest) a))
          | inr b ↦ let a : among j js ≡ true = unmarked_among js m j b in marks_all js m j a (named_within j a)
        ];
        closed = λ k j h l. elim (marked_before js m k h) [
          | inl old ↦ elim (walk.closed k j old l) [
            | inl there ↦ inl (marks_kept js m j there)
            | inr a ↦ still_closed k j l a
          ]
          | inr new ↦ inr (among_right k rest (unmarked js m) new)
        ];
        sound = (marks_keep (λ n. (marked n next ≡ true) × IsSound (Follows base i) n) js
            (λ n j h s. (
              mark_kept n next j s.0,
              sound_mark (Follows base i) (follows_more base i) n j
                  (follows_on base i (count n) next j (s.1 next s.0) (leads_at base base next j ∙ h)) s.1,
            )) m (next_marked, walk.sound)).1;
      }

-- ---- the walk over a list of places, of which so many are done

-- The places that have marks, and those of them that are not done.
pub record IsListedWalk (base : List Definition) (i : ℕ) (m : List Bool) (places : List ℕ) (done : ℕ) : Type 0 where
  pub walk : IsWalk base i m (drop done places)
  pub listed : AreListed m places

pub walk_started : (base : List Definition) (i : ℕ) → (js : List ℕ) (m n : List Bool) (new : List ℕ) → js ≡ targets base (items_at base i) → m ≡ blank base
    → n ≡ mark_all js m → new ≡ [] ++ unmarked js m → IsListedWalk base i n new 0
walk_started base i js m n new here none marks more =
    let ks = targets base (items_at base i) in
    let b = blank base in
    let e : n ≡ mark_all ks b = cc in
    let f : new ≡ [] ++ unmarked ks b = cc in
    let within : (j : ℕ) → among j ks ≡ true → j < length b =
    λ j h. omega (arith, targets_within base (items_at base i) j h, blank_length base) in
    let empty : AreListed b [] = record {
      listed = λ j h. absurd (blank_unmarked (length base) j h);
      marks = λ j h. absurd (cc);
      counts = blank_count (length base);
    } in
    subst (λ (x : List Bool). IsListedWalk base i x new 0) (sym e)
    (subst (λ (x : List ℕ). IsListedWalk base i (mark_all ks b) x 0) (sym f)
    (record { walk = walk_begins base i; listed = listed_more b [] ks within empty }))

module _ (base : List Definition) (i : ℕ) (m : List Bool) (places : List ℕ) (done : ℕ) (more : done < length places)
    (walk : IsListedWalk base i m places done) where
  here : IsWalk base i m (get_or places done 0 ∷ drop (done + 1) places)
  here = subst (λ (x : List ℕ). IsWalk base i m x) (drop_more places done 0 more) walk.walk

  pub done_within : get_or places done 0 < length base
  done_within = next_within base i m (get_or places done 0) (drop (done + 1) places) here

  pub walk_stepped : (js : List ℕ) (n : List Bool) (new : List ℕ) → js ≡ targets base (items_at base (get_or places done 0)) → n ≡ mark_all js m
      → new ≡ places ++ unmarked js m → IsListedWalk base i n new (done + 1)
  walk_stepped js n new there marks added =
      let next = get_or places done 0 in
      let rest = drop (done + 1) places in
      let ks = targets base (items_at base next) in
      let e : n ≡ mark_all ks m = cc in
      let f : new ≡ places ++ unmarked ks m = cc in
      let g : drop (done + 1) (places ++ unmarked ks m) ≡ rest ++ unmarked ks m =
      drop-append-le (done + 1) places (unmarked ks m) (omega arith) in
      subst (λ (x : List Bool). IsListedWalk base i x new (done + 1)) (sym e)
      (subst (λ (x : List ℕ). IsListedWalk base i (mark_all ks m) x (done + 1)) (sym f) (record {
        walk = subst (λ (x : List ℕ). IsWalk base i (mark_all ks m) x) (sym g) (walk_goes base i m next rest here);
        listed = listed_more m places ks (named_within base i m next rest here) walk.listed;
      }))

  pub done_fits : done < length base
  done_fits = omega (arith, listed_fits m places walk.listed, walk.walk.fits)

pub walk_ends : (base : List Definition) (i : ℕ) (m : List Bool) (places : List ℕ) (done : ℕ) → length places ≤ done → IsListedWalk base i m places done
    → AreBehind base i places
walk_ends base i m places done all w =
    let over : IsWalk base i m [] = subst (λ (x : List ℕ). IsWalk base i m x) (drop_all done places all) w.walk in
    let list = w.listed in
    record {
      within = all_by (λ j. j < length base) places (λ j h. omega (arith, marked_within m j (list.marks j h), over.fits));
      begun = λ j l. list.listed j (over.begun j l);
      closed = λ k j h l. elim (over.closed k j (list.marks k h) l) [
        | inl there ↦ list.listed j there
        | inr a ↦ absurd (empty a)
      ];
      sound = λ j h. let f = over.sound j (list.marks j h) in (f.0, f.1, f.2, omega (arith, f.3, count_fits m, over.fits), f.4, f.5, f.6);
    }
  where
    empty : false ≡ true → ⊥
    empty h = cc

pub empty_list : (xs : List ℕ) → length xs ≡ 0 → xs ≡ []
empty_list [] e = refl
empty_list (x ∷ xs) e = absurd (omega arith)

-- a definition that names none has nothing behind it
pub none_behind : (base : List Definition) (i : ℕ) → targets base (items_at base i) ≡ [] → AreBehind base i []
none_behind base i none = record {
  within = All-nil (λ j. j < length base);
  begun = λ j l. sym (ap (among j) none) ∙ sym (leads_at base base i j) ∙ l;
  closed = λ k j h l. h;
  sound = λ j h. absurd (cc);
}

-- The places are those of the definitions that the i-th one reaches, itself included.
pub record AreReached (base : List Definition) (i : ℕ) (places : List ℕ) : Type 0 where
  pub begun : among i places ≡ true
  pub closed : AreClosed (graph_of base) places
  pub sound : (j : ℕ) → among j places ≡ true → (j ≡ i) ⊎ Follows base i (length base) j

pub reached_too : (base : List Definition) (i : ℕ) (places : List ℕ) → AreBehind base i places → AreReached base i (i ∷ places)
reached_too base i places behind = record {
  begun = or_left (i == i) (among i places) (eq-eqb i i refl);
  closed = λ k j a l. or_right (i == j) (among j places) (elim (or_cases (i == k) (among k places) a) [
    | inl e ↦ behind.begun j (ap (λ x. leads (graph_of base) x j) (eqb-true i k e) ∙ l)
    | inr b ↦ behind.closed k j b l
  ]);
  sound = λ j a. elim (or_cases (i == j) (among j places) a) [
    | inl e ↦ inl (sym (eqb-true i j e))
    | inr b ↦ inr (behind.sound j b)
  ];
}

-- ---- what the places say of names

module _ (base : List Definition) (a : List ℕ) (i : ℕ) (places : List ℕ) (e : index_of base a ≡ Some i) where
  refers_first : (next : List ℕ) → list_any (is_reference next) (items_at base i) ≡ true → refers base a next ≡ true
  refers_first next h = ap (list_any (is_reference next)) (items_found base a i e) ∙ h

  reached_found : (j : ℕ) → AreReached base i places → among j places ≡ true → Found base a (length base) j
  reached_found j reached h = elim (reached.sound j h) [
    | inl same ↦ ([], a, omega arith, refl, e ∙ ap Some (sym same))
    | inr f ↦ (f.0 ∷ f.1, f.2, omega (arith, f.3), (refers_first f.0 f.4, f.5), f.6)
  ]

  nothing : (test : Item → Bool) (z : List ℕ) → index_of base z ≡ None → list_any test (items_of base z) ≡ true → ⊥
  nothing test z n h = empty (sym (ap (λ o. list_any test (items_in base o)) n) ∙ h)
    where
      empty : false ≡ true → ⊥
      empty h = cc

  -- some definition at the places has an item that passes the test, exactly where the name reaches one
  pub places_reach : (test : Item → Bool) → AreReached base i places
      → ((j : ℕ) × (among j places ≡ true) × (list_any test (items_at base j) ≡ true)) ↔ Reaches base a test
  places_reach test reached = (
    λ p. let f = reached_found p.0 reached p.1 in (f.0, f.1, f.2, f.3, ap (list_any test) (items_found base f.1 p.0 f.4) ∙ p.2),
    λ r. elim (option_cases (index_of base r.1)) [
      | inl none ↦ absurd (nothing test r.1 none r.4)
      | inr k ↦ (
        k.0,
        closed_walk base places reached.closed a r.1 i k.0 r.0 e reached.begun r.3 k.1,
        ap (list_any test) (sym (items_found base r.1 k.0 k.1)) ∙ r.4,
      )
    ],
  )

  -- a name reaches itself exactly where its own definition is among what its names reach
  pub itself_found : AreBehind base i places → among i places ≡ true → ReachesItself base a
  itself_found behind h =
      let f = behind.sound i h in
      let same : f.2 ≡ a = same_index base f.2 a i f.6 e in
      (f.0, f.1, f.3, (refers_first f.0 f.4, subst (λ (z : List ℕ). Walks base f.0 f.1 z) same f.5))

  pub itself_all : AreBehind base i places → ReachesItself base a → among i places ≡ true
  itself_all behind r = elim (option_cases (index_of base r.0)) [
    | inl none ↦ absurd (undefined_walk base a r.0 r.1 i none e r.3.1)
    | inr k ↦ closed_walk base places behind.closed r.0 a k.0 i r.1 k.1 (behind.begun k.0 (leads_all base a r.0 i k.0 e r.3.0 k.1)) r.3.1 e
  ]

-- a definition that is behind itself reaches itself by its name
pub comes_back : (base : List Definition) (i : ℕ) (places : List ℕ) → AreBehind base i places → among i places ≡ true → ReachesItself base (name_at base i)
comes_back base i places behind h =
    let f = behind.sound i h in
    let named : f.2 ≡ name_at base i = (index_name base f.2 i f.6).1 in
    itself_found base (name_at base i) i places (ap (index_of base) (sym named) ∙ f.6) behind h
