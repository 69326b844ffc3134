-- The document of the sections of several filters.
use Rattle.std.proofs.Common.{◌≡◌, ℕ, zero, suc, false, List, [], ◌∷◌, ◌++◌, ◌+◌, ◌<◌, IfSome, Option, drop, get_or, length, map, take, flat_map, slice_get, refl, ap, sym, subst, ◌∙◌, append_assoc, append-nil}
use Rattle.std.specs.List.{AllByRecursion, IsDistinct}
use Rattle.std.specs.Set.{is_member}
use Rattle.std.specs.Str.{bytes_eq}
use Rattle.std.proofs.lemmas.Bool.{or_from}
use Rattle.std.proofs.lemmas.List.{drop_more, map-append, take-append-drop, take_more}
use Rattle.acl_packet.specs.declared.packets.Packet.{Packet}
use Rattle.acl_packet.specs.declared.filtering.Outcome.{Outcome}
use Rattle.acl_rows.specs.Documents.{SpellsRows, outcome_at}
use Rattle.acl_text.specs.Names.{in_common}
use Rattle.acl_rows.specs.Rows.{Row, text_of_rows}
use Rattle.acl_rows.proofs.JoinLaws.{joined_documents, nothing_is_spelled}
use Rattle.acl_rows.proofs.ListLaws.{joined_text}
use Rattle.acl_platform.specs.declared.filters.Filter.{Filter}
use Rattle.acl_platform.specs.Platforms.{DecidesAs}

-- names of which no two are the same: a front of them has none in common with the rest
apart-right : (name : List ℕ) (xs ys : List (List ℕ)) → AllByRecursion (λ other. bytes_eq name other ≡ false) (xs ++ ys)
    → is_member bytes_eq ys name ≡ false
apart-right name [] [] h = refl
apart-right name [] (y ∷ ys) h = or_from (bytes_eq name y) (is_member bytes_eq ys name) h.0 (apart-right name [] ys h.1)
apart-right name (x ∷ xs) ys h = apart-right name xs ys h.1

pub none-in-common : (xs ys : List (List ℕ)) → IsDistinct bytes_eq (xs ++ ys) → in_common xs ys ≡ false
unfolding IsDistinct
none-in-common [] ys h = refl
none-in-common (x ∷ xs) ys h =
    or_from (is_member bytes_eq ys x) (in_common xs ys) (apart-right x xs ys h.0) (none-in-common xs ys h.1)

pub distinct-right : (xs ys : List (List ℕ)) → IsDistinct bytes_eq (xs ++ ys) → IsDistinct bytes_eq ys
unfolding IsDistinct
distinct-right [] ys h = h
distinct-right (x ∷ xs) ys h = distinct-right xs ys h.1

-- the texts of sections: of those before a filter, of its own and of those behind it
module _ {S : Type 0} (rows : S → List Row) (section : Filter → S) where
  abbrev written : List Filter → List ℕ
  written fs = text_of_rows (flat_map rows (map section fs))

  joined : (fs gs : List Filter) → written fs ++ written gs ≡ written (fs ++ gs)
  joined fs gs =
      joined_text rows (map section fs) (map section gs)
      ∙ ap (λ sections. text_of_rows (flat_map rows sections)) (sym (map-append section fs gs))

  pub written-split : (fs : List Filter) (i : ℕ) (f : Filter) → f ≡ get_or fs i f → i < length fs
      → (written (take i fs) ++ written (f ∷ [])) ++ written (drop (i + 1) fs) ≡ written fs
  written-split fs i f is h =
      let here = get_or fs i f ∷ [] in
      ap (λ x. (written (take i fs) ++ written (x ∷ [])) ++ written (drop (i + 1) fs)) is
      ∙ ap (λ text. text ++ written (drop (i + 1) fs)) (joined (take i fs) here)
      ∙ joined (take i fs ++ here) (drop (i + 1) fs)
      ∙ ap written (append_assoc (take i fs) here (drop (i + 1) fs)
      ∙ ap (λ rest. take i fs ++ rest) (sym (drop_more fs i f h)) ∙ take-append-drop i fs)

  pub written-more : (fs : List Filter) (i : ℕ) (f : Filter) → f ≡ get_or fs i f → i < length fs
      → written (take i fs) ++ written (f ∷ []) ≡ written (take (i + 1) fs)
  written-more fs i f is h =
      ap (λ x. written (take i fs) ++ written (x ∷ [])) is ∙ joined (take i fs) (get_or fs i f ∷ [])
      ∙ ap written (sym (take_more fs i f h))

-- the joined texts of the sections spell the document of the sections
pub all-spelled : {S : Type 0} (accepted : Filter → Type 0) (valid : S → Type 0) (names : S → List (List ℕ)) (rows : S → List Row) (section : Filter → S)
    → ((f : Filter) → accepted f → SpellsRows valid names rows (text_of_rows (flat_map rows (section f ∷ []))) (section f ∷ []))
    → (fs : List Filter) → AllByRecursion accepted fs → IsDistinct bytes_eq (flat_map names (map section fs))
    → SpellsRows valid names rows (text_of_rows (flat_map rows (map section fs))) (map section fs)
all-spelled accepted valid names rows section one [] h d = nothing_is_spelled valid names rows
all-spelled {S = S} accepted valid names rows section one (f ∷ fs) h d =
    let here = names (section f) in
    let sections = map section fs in
    let later = flat_map names sections in
    let rest = all-spelled accepted valid names rows section one fs h.1 (distinct-right here later d) in
    let apart = ap (λ xs. in_common xs later) (append-nil here) ∙ none-in-common here later d in
    let texts = joined_text rows (section f ∷ []) sections in
    subst (λ bytes. SpellsRows valid names rows bytes (section f ∷ sections)) texts
    (joined_documents valid names rows (text_of_rows (flat_map rows (section f ∷ []))) (text_of_rows (flat_map rows sections))
    (section f ∷ []) sections (one f h.0) rest apart)

-- the section at a place decides as the filter there
pub all-decide : {S : Type 0} (accepted : Filter → Type 0) (outcome : S → Packet → Option Outcome) (section : Filter → S)
    → ((f : Filter) → accepted f → DecidesAs f (outcome (section f)))
    → (fs : List Filter) → AllByRecursion accepted fs
    → (k : ℕ) → IfSome (slice_get fs k) (λ f. DecidesAs f (outcome_at outcome (map section fs) k))
all-decide accepted outcome section one [] h k = tt
all-decide accepted outcome section one (f ∷ fs) h zero = one f h.0
all-decide accepted outcome section one (f ∷ fs) h (suc k) = all-decide accepted outcome section one fs h.1 k
