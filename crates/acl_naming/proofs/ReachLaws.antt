-- Ranges of what the definitions at places hold.
use Rattle.std.proofs.Common.{◌≡◌, ℕ, ◌↔◌, ◌⊎◌, ◌<◌, ◌+◌, Bool, true, false, ◌||◌, ◌==◌, nat_lt, take, get_or, replicate, slice_set, List, [], ◌∷◌, length, Some, inl, inr, ap, sym, subst, ◌∙◌, refl}
use Rattle.std.specs.List.{list_any}
use Rattle.std.proofs.Math.Bool.{or_assoc, or-false}
use Rattle.std.proofs.lemmas.Bool.{both_ways, eq-eqb, eqb-true, or_cases, or_left, or_right}
use Rattle.std.proofs.lemmas.List.{length-replicate}
use Rattle.std.proofs.lemmas.List.Elements.{All-nil}
use Rattle.std.proofs.lemmas.List.Folds.{list_any_more}
use Rattle.acl_sets.specs.declared.sets.Range.{Range}
use Rattle.acl_sets.specs.Ranges.{IsRange, holds}
use Rattle.acl_naming.specs.declared.naming_items.Item.{Item}
use Rattle.acl_naming.specs.declared.reaching.Wanted.{Wanted}
use Rattle.acl_naming.specs.Definitions.{Definition, index_of, items_at}
use Rattle.acl_naming.specs.GraphSteps.{AreBehind}
use Rattle.acl_naming.specs.MarkSteps.{among, marked}
use Rattle.acl_naming.specs.Reach.{Reaches}
use Rattle.acl_naming.specs.LookupSteps.{top_of, has_number, is_wanted, AddsAt, AddsReach, AreAdded, Collects, IsReach, NoneAreAdded, any_at, any_item}
use Rattle.acl_naming.specs.declared.reaching.Wanted.TheVariants.{Addresses}
use Rattle.acl_packet.specs.declared.addresses.Family.TheVariants.{V4, V6}
use Rattle.acl_naming.proofs.MarkLaws.{length_mark, mark_only}
use Rattle.acl_naming.proofs.WalkLaws.{AreReached, blank_unmarked, places_reach, reached_too}

-- first one collection, then another
pub collects_on : (w : Wanted) (t u v : (Item → Bool) → Bool) (a b c : List Range) → ((p : Item → Bool) → v p ≡ t p || u p)
    → Collects w t a b → Collects w u b c → Collects w v a c
collects_on w t u v a b c e h k = record {
  fits = λ f. k.fits (h.fits f);
  exact = λ x. k.exact x ∙ joined (holds b x) (holds a x) (t (has_number w x)) (u (has_number w x)) (v (has_number w x)) (h.exact x) (e (has_number w x));
  some = k.some ∙ joined (nat_lt 0 (length b)) (nat_lt 0 (length a)) (t (is_wanted w)) (u (is_wanted w)) (v (is_wanted w)) h.some (e (is_wanted w));
}
  where
    joined : (b a t u v : Bool) → b ≡ (a || t) → v ≡ (t || u) → (b || u) ≡ (a || v)
    joined b a t u v e f = ap (λ x. x || u) e ∙ or_assoc a t u ∙ ap (λ x. a || x) (sym f)

-- nothing is collected where nothing passes
pub collects_none : (w : Wanted) (t : (Item → Bool) → Bool) (a : List Range) → ((p : Item → Bool) → t p ≡ false) → Collects w t a a
collects_none w t a e = record {
  fits = λ f. f;
  exact = λ x. same (holds a x) (t (has_number w x)) (e (has_number w x));
  some = same (nat_lt 0 (length a)) (t (is_wanted w)) (e (is_wanted w));
}
  where
    same : (a t : Bool) → t ≡ false → a ≡ (a || t)
    same a t e = sym (or-false a) ∙ ap (λ x. a || x) (sym e)

pub collects_same : (w : Wanted) (t u : (Item → Bool) → Bool) (a b : List Range) → ((p : Item → Bool) → u p ≡ t p) → Collects w t a b → Collects w u a b
collects_same w t u a b e h = record {
  fits = h.fits;
  exact = λ x. h.exact x ∙ ap (λ c. holds a x || c) (sym (e (has_number w x)));
  some = h.some ∙ ap (λ c. nat_lt 0 (length a) || c) (sym (e (is_wanted w)));
}

-- ---- the definitions at the places

any_there : (base : List Definition) (places : List ℕ) (test : Item → Bool) → any_at base places test ≡ true
    → (j : ℕ) × (among j places ≡ true) × (list_any test (items_at base j) ≡ true)
any_there base [] test h = absurd (cc)
any_there base (k ∷ places) test h = elim (or_cases (list_any test (items_at base k)) (any_at base places test) h) [
  | inl a ↦ (k, or_left (k == k) (among k places) (eq-eqb k k refl), a)
  | inr b ↦ let r = any_there base places test b in (r.0, or_right (k == r.0) (among r.0 places) r.1, r.2)
]

any_back : (base : List Definition) (places : List ℕ) (j : ℕ) (test : Item → Bool) → among j places ≡ true → list_any test (items_at base j) ≡ true
    → any_at base places test ≡ true
any_back base [] j test h t = absurd (cc)
any_back base (k ∷ places) j test h t = elim (or_cases (k == j) (among j places) h) [
  | inl e ↦ or_left (list_any test (items_at base k)) (any_at base places test) (ap (λ x. list_any test (items_at base x)) (eqb-true k j e) ∙ t)
  | inr a ↦ or_right (list_any test (items_at base k)) (any_at base places test) (any_back base places j test a t)
]

-- what the definitions at the places have is what the name reaches
reaches_any : (base : List Definition) (name : List ℕ) (i : ℕ) (places : List ℕ) (test : Item → Bool) → index_of base name ≡ Some i
    → AreReached base i places → (any_at base places test ≡ true) ↔ Reaches base name test
reaches_any base name i places test e reached =
    let law = places_reach base name i places e test reached in
    (λ h. law.0 (any_there base places test h), λ r. let p = law.1 r in any_back base places p.0 test p.1 p.2)

collects_adds : (base : List Definition) (name : List ℕ) (i : ℕ) (places : List ℕ) (w : Wanted) (old new : List Range)
    → index_of base name ≡ Some i → AreBehind base i places → Collects w (any_at base (i ∷ places)) old new
    → AddsReach base name w old new
collects_adds base name i places w old new e behind h =
    let law : (test : Item → Bool) → (any_at base (i ∷ places) test ≡ true) ↔ Reaches base name test =
    λ test. reaches_any base name i (i ∷ places) test e (reached_too base i places behind) in
    record {
      fits = h.fits;
      exact = λ x. either (holds old x) (any_at base (i ∷ places) (has_number w x)) (holds new x) (Reaches base name (has_number w x))
          (h.exact x) (law (has_number w x));
      some = either (nat_lt 0 (length old)) (any_at base (i ∷ places) (is_wanted w)) (nat_lt 0 (length new)) (Reaches base name (is_wanted w))
          h.some (law (is_wanted w));
    }
  where
    either : (a t n : Bool) (P : Type 0) → n ≡ (a || t) → (t ≡ true) ↔ P → (n ≡ true) ↔ ((a ≡ true) ⊎ P)
    either a t n P is l = (
      λ k. elim (or_cases a t (sym is ∙ k)) [ inl s ↦ inl s | inr s ↦ inr (l.0 s) ],
      λ k. elim k [ inl s ↦ is ∙ or_left a t s | inr p ↦ is ∙ or_right a t (l.1 p) ],
    )

-- as it is told of the table, and of the places as they are read
pub adds_all : (base table : List Definition) (name : List ℕ) (i : ℕ) (places read : List ℕ) (w : Wanted) (old new : List Range)
    → table ≡ base → Some i ≡ index_of table name → AreBehind base i places → read ≡ places
    → Collects w (any_at table (i ∷ read)) old new → AddsReach base name w old new
adds_all base table name i places read w old new same there behind all h =
    collects_adds base name i places w old new (ap (λ (ds : List Definition). index_of ds name) (sym same) ∙ sym there) behind
    (subst (λ (ds : List Definition). Collects w (any_at ds (i ∷ places)) old new) same
    (subst (λ (js : List ℕ). Collects w (any_at table (i ∷ js)) old new) all h))

pub adds_reach : (base : List Definition) (name : List ℕ) (w : Wanted) (ranges : List Range) → AddsReach base name w [] ranges
    → IsReach base name w ranges
adds_reach base name w ranges h = record {
  fits = h.fits (All-nil (λ r. IsRange (top_of w) r));
  exact = λ x. let law = h.exact x in
      (λ t. elim (law.0 t) [ inl none ↦ absurd (both_ways false refl none) | inr r ↦ r ], λ r. law.1 (inr r));
  some = (λ t. elim (h.some.0 t) [ inl none ↦ absurd (both_ways false refl none) | inr r ↦ r ], λ r. h.some.1 (inr r));
}

-- ---- one place after the other

pub gather_first : (base : List Definition) (i : ℕ) (w : Wanted) (old new : List Range) → Collects w (any_item (items_at base i)) old new
    → Collects w (any_at base (i ∷ [])) old new
gather_first base i w old new h =
    collects_same w (any_item (items_at base i)) (any_at base (i ∷ [])) old new (λ test. or-false (list_any test (items_at base i))) h

pub gather_more : (base : List Definition) (i k : ℕ) (places : List ℕ) (w : Wanted) (old mid new : List Range) → k < length places
    → Collects w (any_at base (i ∷ take k places)) old mid → Collects w (any_item (items_at base (get_or places k 0))) mid new
    → Collects w (any_at base (i ∷ take (k + 1) places)) old new
gather_more base i k places w old mid new within h g =
    let there = get_or places k 0 in
    collects_on w (any_at base (i ∷ take k places)) (any_item (items_at base there)) (any_at base (i ∷ take (k + 1) places)) old mid new
    (λ test.
    let first = list_any test (items_at base i) in
    ap (λ b. first || b) (list_any_more (λ j. list_any test (items_at base j)) places k 0 within)
    ∙ sym (or_assoc first (any_at base (take k places) test) (list_any test (items_at base there))))
    h g

-- ---- names whose ranges lie among others

-- What a name has put among the ranges stays there, so it adds nothing later.
adds_later : (base : List Definition) (a b : List ℕ) (w : Wanted) (old new : List Range) → AddsReach base a w old old
    → AddsReach base b w old new → AddsReach base a w new new
adds_later base a b w old new had more = record {
  fits = λ f. f;
  exact = λ x. (
    λ h. inl h,
    λ e. elim e [
      | inl h ↦ h
      | inr r ↦ (more.exact x).1 (inl ((had.exact x).1 (inr r)))
    ],
  );
  some = (
    λ h. inl h,
    λ e. elim e [
      | inl h ↦ h
      | inr r ↦ more.some.1 (inl (had.some.1 (inr r)))
    ],
  );
}

adds_again : (base : List Definition) (a : List ℕ) (w : Wanted) (old new : List Range) → AddsReach base a w old new
    → AddsReach base a w new new
adds_again base a w old new more = record {
  fits = λ f. f;
  exact = λ x. (λ h. inl h, λ e. elim e [ inl h ↦ h | inr r ↦ (more.exact x).1 (inr r) ]);
  some = (λ h. inl h, λ e. elim e [ inl h ↦ h | inr r ↦ more.some.1 (inr r) ]);
}

-- One more definition has a mark.
added_more : (base : List Definition) (name : List ℕ) (i : ℕ) (marks : List Bool) (w : Wanted) (old new : List Range)
    → index_of base name ≡ Some i → ((j : ℕ) → marked marks j ≡ true → AddsAt base j w old old) → AddsAt base i w old new
    → (j : ℕ) → marked (slice_set marks i true) j ≡ true → AddsAt base j w new new
added_more base name i marks w old new e had more j h = λ other f. elim (mark_only marks j i h) [
  | inl m ↦ adds_later base other name w old new (had j m other f) (more name e)
  | inr same ↦ adds_again base other w old new (more other (f ∙ ap Some same))
]

pub next_added : (base : List Definition) (name : List ℕ) (i : ℕ) (marks after : List Bool) (v4 v6 new4 new6 : List Range)
    → index_of base name ≡ Some i → after ≡ slice_set marks i true → AreAdded base marks v4 v6
    → AddsAt base i (Addresses V4) v4 new4 → AddsAt base i (Addresses V6) v6 new6 → AreAdded base after new4 new6
next_added base name i marks after v4 v6 new4 new6 e is had four six =
    subst (λ (m : List Bool). AreAdded base m new4 new6) (sym is) (record {
      fits = length_mark marks i ∙ had.fits;
      ipv4 = added_more base name i marks (Addresses V4) v4 new4 e had.ipv4 four;
      ipv6 = added_more base name i marks (Addresses V6) v6 new6 e had.ipv6 six;
    })

-- Where none has a mark, nothing is said.
pub none_added : (base : List Definition) (marks : List Bool) (n : ℕ) → n ≡ length base → marks ≡ replicate n false
    → NoneAreAdded base marks
none_added base marks n e is = λ v4 v6.
    subst (λ (m : List Bool). AreAdded base m v4 v6) (sym is) (record {
      fits = length-replicate n false ∙ e;
      ipv4 = λ i h. absurd (blank_unmarked n i h);
      ipv6 = λ i h. absurd (blank_unmarked n i h);
    })
