-- Documents that are joined, and the one without sections.
use Rattle.std.proofs.Common.{◌≡◌, ℕ, ◌+◌, ◌<◌, false, List, [], ◌++◌, length, flat_map, Option, option_and_then, refl, ap, sym, subst, ◌∙◌}
use Rattle.std.specs.List.{AllByRecursion, IsDistinct}
use Rattle.std.specs.Str.{bytes_eq}
use Rattle.acl_packet.specs.declared.filtering.Outcome.{Outcome}
use Rattle.acl_packet.specs.declared.packets.Packet.{Packet}
use Rattle.std.proofs.lemmas.Grind.{flat_map-append}
use Rattle.acl_text.proofs.ListLaws.{all_append}
use Rattle.acl_rows.specs.Documents.{SpellsRows, outcome_at}
use Rattle.acl_text.specs.Names.{in_common}
use Rattle.acl_rows.specs.Rows.{Row, text_of_rows}
use Rattle.acl_rows.proofs.NamingLaws.{distinct-append}
use Rattle.acl_rows.proofs.ListLaws.{get_left, get_right, joined_text}

module _ {S : Type 0} (P : S → Type 0) (names : S → List (List ℕ)) (rows : S → List Row) where
  -- what is read again from its text has no other text, and the text no other document
  pub one_document : (read : List ℕ → List S) → ((doc : List S) → AllByRecursion P doc → read (text_of_rows (flat_map rows doc)) ≡ doc)
      → (bytes : List ℕ) (a b : List S) → SpellsRows P names rows bytes a → SpellsRows P names rows bytes b → a ≡ b
  one_document read again bytes a b h k =
      sym (again a h.valid.sections) ∙ ap read (sym h.written ∙ k.written) ∙ again b k.valid.sections

  pub nothing_is_spelled : SpellsRows P names rows [] []
  unfolding IsDistinct
  nothing_is_spelled = record { valid = record { sections = tt; names_differ = tt }; written = refl }

  pub joined_documents : (bytes more : List ℕ) (a b : List S) → SpellsRows P names rows bytes a → SpellsRows P names rows more b
      → in_common (flat_map names a) (flat_map names b) ≡ false → SpellsRows P names rows (bytes ++ more) (a ++ b)
  joined_documents bytes more a b h k n = record {
    valid = record {
      sections = all_append P a b h.valid.sections k.valid.sections;
      names_differ = subst (IsDistinct bytes_eq) (sym (flat_map-append names a b))
          (distinct-append (flat_map names a) (flat_map names b) h.valid.names_differ k.valid.names_differ n);
    };
    written = ap (λ t. t ++ more) h.written ∙ ap (λ t. text_of_rows (flat_map rows a) ++ t) k.written ∙ joined_text rows a b;
  }

pub first_outcome : {S : Type 0} (outcome : S → Packet → Option Outcome) (a b : List S) (which : ℕ) (p : Packet) → which < length a
    → outcome_at outcome (a ++ b) which p ≡ outcome_at outcome a which p
first_outcome outcome a b which p h = ap (option_and_then (λ s. outcome s p)) (get_left a b which h)

pub second_outcome : {S : Type 0} (outcome : S → Packet → Option Outcome) (a b : List S) (which : ℕ) (p : Packet)
    → outcome_at outcome (a ++ b) (length a + which) p ≡ outcome_at outcome b which p
second_outcome outcome a b which p = ap (option_and_then (λ s. outcome s p)) (get_right a b which)
