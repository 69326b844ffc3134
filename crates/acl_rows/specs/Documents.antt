-- Documents of sections, the bytes that spell one, and what its sections do to a packet.
use Rattle.std.specs.Prelude.{◌≡◌, ℕ, Bool, false, List, Option, flat_map, slice_get, option_and_then, option_map, unwrap_or}
use Rattle.std.specs.List.{AllByRecursion, IsDistinct}
use Rattle.std.specs.Str.{bytes_eq}
use Rattle.acl_packet.specs.declared.addresses.Family.{Family}
use Rattle.acl_packet.specs.declared.filtering.Outcome.{Outcome}
use Rattle.acl_packet.specs.declared.packets.Packet.{Packet}
use Rattle.acl_rows.specs.Rows.{Row, text_of_rows}

-- A document is its sections, each of which is valid, and no two of whose names are the same.
pub record IsDocumentOf {S : Type 0} (IsSection : S → Type 0) (names_of : S → List (List ℕ))
    (doc : List S) : Type 0 where
  pub sections : AllByRecursion IsSection doc
  pub names_differ : IsDistinct bytes_eq (flat_map names_of doc)

-- The bytes spell the document: it is valid, and they are its text.
pub record IsSpelling {S : Type 0} (IsDocument : List S → Type 0) (text_of : List S → List ℕ)
    (bytes : List ℕ) (doc : List S) : Type 0 where
  pub valid : IsDocument doc
  pub written : bytes ≡ text_of doc

-- The bytes spell the document of sections that are written as rows: it is valid, and they are the
-- text of its rows.
abbrev pub SpellsRows : {S : Type 0} → (S → Type 0) → (S → List (List ℕ)) → (S → List Row)
    → List ℕ → List S → Type 0
SpellsRows IsSection names_of rows bytes doc =
    IsSpelling (IsDocumentOf IsSection names_of) (λ d. text_of_rows (flat_map rows d)) bytes doc

-- What the section at that place does; nothing where there is none.
abbrev pub outcome_at : {S : Type 0} → (S → Packet → Option Outcome) → List S → ℕ → Packet
    → Option Outcome
outcome_at section_outcome doc which p =
    option_and_then (λ s. section_outcome s p) (slice_get doc which)

-- The document has a section at that place, and that is one of the family.
abbrev pub has_family_at : {S : Type 0} → (S → Family → Bool) → List S → ℕ → Family → Bool
has_family_at has_family doc which family =
    unwrap_or (option_map (λ s. has_family s family) (slice_get doc which)) false
