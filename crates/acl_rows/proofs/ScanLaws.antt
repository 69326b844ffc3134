-- Sections that are taken from a text one by one.
use Rattle.std.proofs.Common.{◌≡◌, ℕ, zero, suc, ◌+◌, ◌<◌, ◌≤◌, List, [], ◌∷◌, ◌++◌, ◌⊎◌, inl, inr, ◌≢◌, length, flat_map, slice_get, Option, None, Some, option_and_then, refl, ap, sym, ◌∙◌, append_assoc, append-nil, arith}
use Rattle.std.specs.List.{AllByRecursion}
use Rattle.std.proofs.lemmas.List.{length-append}
use Rattle.std.proofs.Math.Arith.{lt_of_le-ne}
use Rattle.std.proofs.lemmas.Bool.{cases_lt}
use Rattle.std.proofs.lemmas.Grind.{flat_map-append}
use Rattle.acl_packet.specs.declared.filtering.Outcome.{Outcome}
use Rattle.acl_packet.specs.declared.packets.Packet.{Packet}
use Rattle.acl_text.proofs.ListLaws.{all_append}
use Rattle.acl_rows.specs.Documents.{outcome_at}
use Rattle.acl_rows.specs.Rows.{Row, text_of_rows}
use Rattle.acl_rows.specs.Scans.{TakesSection}
use Rattle.acl_rows.specs.ScanSteps.{IsScanned, IsTextOf}
use Rattle.acl_rows.specs.declared.scanning.TakenSection.{TakenSection}
use Rattle.acl_rows.proofs.JoinLaws.{first_outcome, second_outcome}
use Rattle.acl_rows.proofs.ListLaws.{joined_text}

-- what has been taken of a text, and that each document of the text goes on with what is left
pub record Going {S : Type 0} (IsSection : S → Type 0) (names_of : S → List (List ℕ)) (rows : S → List Row)
    (outcome_of : S → Packet → Option Outcome) (text rest : List ℕ) (which count : ℕ) (packet : Packet) (names : List (List ℕ))
    (outcome : Option Outcome) : Type 0 where
  pub taken : List S
  pub valid : AllByRecursion IsSection taken
  pub written : text ≡ text_of_rows (flat_map rows taken) ++ rest
  pub named : names ≡ flat_map names_of taken
  pub decided : outcome ≡ outcome_at outcome_of taken which packet
  pub counted : count ≡ length taken
  pub fits : count + length rest ≤ length text
  pub only : (doc : List S) → IsTextOf IsSection rows text doc → (others : List S) × IsTextOf IsSection rows rest others

none_beyond : {A : Type 0} (xs : List A) (i : ℕ) → length xs ≤ i → slice_get xs i ≡ None
none_beyond [] zero h = refl
none_beyond [] (suc i) h = refl
none_beyond (x ∷ xs) zero h = absurd (omega arith)
none_beyond (x ∷ xs) (suc i) h = none_beyond xs i (omega arith)

module _ {S : Type 0} (P : S → Type 0) (names_of : S → List (List ℕ)) (rows : S → List Row) (outcome_of : S → Packet → Option Outcome) where
  pub starts : (text : List ℕ) (which : ℕ) (packet : Packet) (names : List (List ℕ)) → names ≡ [] → Going P names_of rows outcome_of text text which 0 packet names None
  starts text which packet names e = record {
    taken = [];
    valid = tt;
    written = refl;
    named = e;
    decided = sym (ap (option_and_then (λ s. outcome_of s packet)) (none_beyond {A = S} [] which (omega arith)));
    counted = refl;
    fits = omega arith;
    only = λ doc h. (doc, h);
  }

  -- what the asked section does, once one more was taken
  asked_now : (taken : List S) (s : S) (which : ℕ) (packet : Packet) → length taken ≡ which
      → outcome_of s packet ≡ outcome_at outcome_of (taken ++ s ∷ []) which packet
  asked_now taken s which packet e =
      let at : which ≡ length taken + 0 = omega (arith, e) in
      sym (ap (λ n. outcome_at outcome_of (taken ++ s ∷ []) n packet) at ∙ second_outcome outcome_of taken (s ∷ []) 0 packet)

  asked_still : (taken : List S) (s : S) (which : ℕ) (packet : Packet) → length taken ≢ which
      → outcome_at outcome_of taken which packet ≡ outcome_at outcome_of (taken ++ s ∷ []) which packet
  asked_still taken s which packet other = by_order (cases_lt which (length taken)) where
    by_order : (which < length taken) ⊎ (length taken ≤ which) → outcome_at outcome_of taken which packet ≡ outcome_at outcome_of (taken ++ s ∷ []) which packet
    by_order (inl l) = sym (first_outcome outcome_of taken (s ∷ []) which packet l)
    by_order (inr l) =
        let long = length-append taken (s ∷ []) in
        let beyond : length (taken ++ s ∷ []) ≤ which = omega (arith, long, lt_of_le-ne l other) in
        ap (option_and_then (λ x. outcome_of x packet)) (none_beyond taken which l ∙ sym (none_beyond (taken ++ s ∷ []) which beyond))

  pub takes_next : {text rest : List ℕ} {which count : ℕ} {packet : Packet} {names after : List (List ℕ)} {before outcome : Option Outcome}
      (t : TakenSection) → Going P names_of rows outcome_of text rest which count packet names before → (rest ≡ [] → ⊥)
      → TakesSection P names_of rows outcome_of rest packet names after (Some t)
      → ((count ≡ which) × (outcome ≡ t.outcome)) ⊎ ((count ≢ which) × (outcome ≡ before))
      → Going P names_of rows outcome_of text t.rest.now which (count + 1) packet after outcome
  takes_next {rest = rest} {which = which} {count = count} {packet = packet} {before = before} {outcome = outcome} t g more k asked =
      let s = k.some.0 in
      let one = s ∷ [] in
      let taken = k.some.1 in
      record {
        taken = g.taken ++ one;
        valid = all_append P g.taken one g.valid (taken.valid, tt);
        written = g.written ∙ ap (λ r. text_of_rows (flat_map rows g.taken) ++ r) (taken.written ∙ ap (λ rs. text_of_rows rs ++ t.rest.now) (sym (append-nil (rows s))))
            ∙ sym (append_assoc (text_of_rows (flat_map rows g.taken)) (text_of_rows (flat_map rows one)) t.rest.now)
            ∙ ap (λ r. r ++ t.rest.now) (joined_text rows g.taken one);
        named = taken.named ∙ ap (λ ns. ns ++ names_of s) g.named ∙ ap (λ ns. flat_map names_of g.taken ++ ns) (sym (append-nil (names_of s)))
            ∙ sym (flat_map-append names_of g.taken one);
        decided = asked_or asked;
        counted = let long = length-append g.taken one in omega (arith, g.counted, long);
        fits = omega (arith, g.fits, taken.shorter);
        only = λ doc h. let o = g.only doc h in behind_it o.0 o.1;
      } where
        asked_or : ((count ≡ which) × (outcome ≡ t.outcome)) ⊎ ((count ≢ which) × (outcome ≡ before))
            → outcome ≡ outcome_at outcome_of (g.taken ++ k.some.0 ∷ []) which packet
        asked_or (inl a) = a.1 ∙ k.some.1.decided ∙ asked_now g.taken k.some.0 which packet (sym g.counted ∙ a.0)
        asked_or (inr a) = a.1 ∙ g.decided ∙ asked_still g.taken k.some.0 which packet (λ w. a.0 (g.counted ∙ w))

        behind_it : (others : List S) → IsTextOf P rows rest others → (ss : List S) × IsTextOf P rows t.rest.now ss
        behind_it [] h = absurd (more h.written)
        behind_it (s ∷ ss) h = (ss, record { valid = h.valid.1; written = k.each s ss h.valid.0 h.valid.1 h.written })

  pub takes_none : {text rest : List ℕ} {which count : ℕ} {packet : Packet} {names after : List (List ℕ)} {outcome : Option Outcome}
      → Going P names_of rows outcome_of text rest which count packet names outcome → (rest ≡ [] → ⊥)
      → TakesSection P names_of rows outcome_of rest packet names after None → (doc : List S) → IsTextOf P rows text doc → ⊥
  takes_none {rest = rest} g more k doc h = let o = g.only doc h in none_left o.0 o.1 where
    none_left : (others : List S) → IsTextOf P rows rest others → ⊥
    none_left [] h = more h.written
    none_left (s ∷ ss) h = k.each s ss h.valid.0 h.valid.1 h.written

  pub all_taken : {text : List ℕ} {which count : ℕ} {packet : Packet} {names : List (List ℕ)} {outcome : Option Outcome}
      → Going P names_of rows outcome_of text [] which count packet names outcome
      → (doc : List S) × IsScanned P names_of rows outcome_of text which packet names outcome doc
  all_taken g = (
    g.taken,
    record {
      text_of = record { valid = g.valid; written = g.written ∙ append-nil (text_of_rows (flat_map rows g.taken)) };
      named = g.named;
      decided = g.decided;
    },
  )
