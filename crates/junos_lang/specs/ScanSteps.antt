-- Taking a filter from the front of a text, its terms one by one.
use Rattle.std.specs.Prelude.{◌≡◌, ℕ, ◌<◌, Bool, true, false, ◌&&◌, nat_le, if◌then◌else◌, List, [], ◌∷◌, ◌++◌, length, flat_map, codes, Option, Some, None, IfSome, IfNone}
use Rattle.std.specs.List.{AllByRecursion, IsDistinct}
use Rattle.std.specs.Option.{IsSomeAnd}
use Rattle.std.specs.Str.{bytes_eq}
use Rattle.acl_packet.specs.declared.addresses.Family.{Family}
use Rattle.acl_packet.specs.declared.addresses.Family.TheVariants.{V4, V6}
use Rattle.acl_packet.specs.declared.filtering.Outcome.{Outcome}
use Rattle.acl_packet.specs.declared.filtering.Verdict.TheVariants.{Deny}
use Rattle.acl_packet.specs.declared.packets.Packet.{Packet}
use Rattle.acl_packet.specs.Outcomes.{unlogged}
use Rattle.acl_text.specs.Cuts.{behind, cut_at}
use Rattle.acl_text.specs.OptionSteps.{◌>>=◌}
use Rattle.acl_rows.specs.Rows.{Row, text_of_rows}
use Rattle.acl_rows.specs.RowSteps.{rows_in}
use Rattle.acl_rows.specs.RuleParts.{is_empty}
use Rattle.junos_lang.specs.declared.documents.JTerm.{JTerm}
use Rattle.junos_lang.specs.declared.documents.Section.{Section}
use Rattle.junos_lang.specs.declared.filters_drafts.FiltersDraft.{FiltersDraft}
use Rattle.junos_lang.specs.declared.filter_taking.FilterHead.{FilterHead}
use Rattle.junos_lang.specs.declared.filter_taking.TakenFilter.{TakenFilter}
use Rattle.junos_lang.specs.declared.term_taking.TakenTerm.{TakenTerm}
use Rattle.junos_lang.specs.declared.terms_taking.TakenTerms.{TakenTerms}
use Rattle.junos_lang.specs.Documents.{IsSection, IsTerm, name_of, term_names}
use Rattle.junos_lang.specs.ReadingSteps.{no_draft, no_section, note_in, take_row}
use Rattle.junos_lang.specs.Texts.{end_rows, section_rows, term_rows}
use Rattle.junos_lang.specs.Walks.{decided_by, section_outcome, term_holds, walk}

-- ---- one term

-- One word, or none.
abbrev pub is_short : List (List ℕ) → Bool
is_short [] = true
is_short (w ∷ []) = true
is_short (w ∷ v ∷ words) = false

-- Whether the row ends a term, or what a term stands in: it is not within the term, and has one word.
unfoldable pub ends_term : Row → Bool
ends_term r = nat_le r.indent 12 && is_short r.words

-- A draft takes rows up to one that ends a term.
abbrev pub read_term : FiltersDraft → List Row → FiltersDraft
read_term d [] = d
read_term d (r ∷ rows) = if ends_term r then d else read_term (take_row d r) rows

abbrev pub draft_of : Family → FiltersDraft
draft_of family = record no_draft { section = record no_section { family = family } }

-- The term that a text of a filter of the family begins with, read leniently.
unfoldable pub term_in : Family → List ℕ → JTerm
term_in family text = (read_term (draft_of family) (rows_in text)).term

-- The text begins with the term.
abbrev pub HasTerm : Family → List ℕ → JTerm → List ℕ → Type 0
HasTerm family text t rest = text ≡ text_of_rows (term_rows family t) ++ rest

-- The text begins with the valid term, which is followed by what is left.
pub record IsTermTaken (family : Family) (text : List ℕ) (taken : TakenTerm) : Type 0 where
  pub valid : IsTerm family taken.term
  pub written : HasTerm family text taken.term taken.rest.now
  pub named : taken.name.now ≡ taken.term.name
  pub shorter : length taken.rest.now < length text

-- A term is taken from the front of a text, exactly where the text begins with one.
pub record TakesTerm (family : Family) (text : List ℕ) (taken : Option TakenTerm) : Type 0 where
  pub some : IfSome taken (IsTermTaken family text)
  pub each : (t : JTerm) (rest : List ℕ) → IsTerm family t → HasTerm family text t rest
      → IsSomeAnd taken (λ u. (u.term ≡ t) × (u.rest.now ≡ rest))

-- ---- the terms of a filter

abbrev pub terms_text : Family → List JTerm → List ℕ
terms_text family terms = text_of_rows (flat_map (term_rows family) terms)

abbrev pub end_text : List ℕ
end_text = text_of_rows end_rows

-- The first term that holds the packet decides.
abbrev pub decided_with : Option Outcome → JTerm → Packet → Option Outcome
decided_with None t p = if term_holds t p then Some (decided_by t) else None
decided_with (Some outcome) t p = Some outcome

-- What terms do, behind others of which one may have decided.
abbrev pub decided_or : Option Outcome → Outcome → Outcome
decided_or None other = other
decided_or (Some outcome) other = outcome

-- At the end the packet is discarded.
abbrev pub at_end : Option Outcome → Outcome
at_end decided = decided_or decided (unlogged Deny)

-- What a walk that goes on behind these terms decides.
abbrev pub HasWalked : List JTerm → Packet → Option Outcome → Type 0
HasWalked terms p decided =
    (others : List JTerm) → walk (terms ++ others) p ≡ decided_or decided (walk others p)

-- The terms that were taken from the front of a text, and what is left. Where the text is that of valid
-- terms and of what ends a filter, they are the first of these, and the text of the others is left.
pub record AreTaken (family : Family) (text : List ℕ) (p : Packet) (names : List (List ℕ))
    (decided : Option Outcome) (rest : List ℕ) (terms : List JTerm) : Type 0 where
  pub valid : AllByRecursion (IsTerm family) terms
  pub written : text ≡ terms_text family terms ++ rest
  pub named : names ≡ term_names terms
  pub walked : HasWalked terms p decided
  pub first : (all : List JTerm) (more : List ℕ) → AllByRecursion (IsTerm family) all
      → text ≡ terms_text family all ++ (end_text ++ more)
      → (others : List JTerm) × AllByRecursion (IsTerm family) others × (all ≡ terms ++ others)
      × (rest ≡ terms_text family others ++ (end_text ++ more))

abbrev pub HasTaken : Family → List ℕ → Packet → List (List ℕ) → Option Outcome → List ℕ → Type 0
HasTaken family text p names decided rest =
    (terms : List JTerm) × AreTaken family text p names decided rest terms

-- The terms that a filter may have.
pub record AreTerms (family : Family) (terms : List JTerm) : Type 0 where
  pub some : is_empty terms ≡ false
  pub valid : AllByRecursion (IsTerm family) terms
  pub differ : IsDistinct bytes_eq (term_names terms)

-- The text begins with the terms and what ends a filter, which are followed by what is left.
pub record IsBodyTaken (family : Family) (text : List ℕ) (p : Packet) (taken : TakenTerms)
    (terms : List JTerm) : Type 0 where
  pub valid : AreTerms family terms
  pub written : text ≡ terms_text family terms ++ (end_text ++ taken.rest.now)
  pub decided : taken.outcome ≡ walk terms p

pub record TakesBody (family : Family) (text : List ℕ) (p : Packet) (taken : Option TakenTerms)
    : Type 0 where
  pub some : IfSome taken (λ t. (terms : List JTerm) × IsBodyTaken family text p t terms)
  pub each : (terms : List JTerm) (rest : List ℕ) → AreTerms family terms
      → text ≡ terms_text family terms ++ (end_text ++ rest)
      → IsSomeAnd taken (λ t. t.rest.now ≡ rest)

-- What is left behind the end of a filter whose terms have these names, if it has a term and no two have
-- the same.
pub record EndsBody (names : List (List ℕ)) (decided : Option Outcome) (text : List ℕ)
    (taken : Option TakenTerms) : Type 0 where
  pub some : IfSome taken (λ t. (is_empty names ≡ false) × IsDistinct bytes_eq names
      × (text ≡ end_text ++ t.rest.now) × (t.outcome ≡ at_end decided))
  pub none : IfNone taken (is_empty names ≡ false → IsDistinct bytes_eq names
      → (rest : List ℕ) → text ≡ end_text ++ rest → ⊥)

-- ---- a filter

-- The name of a section, in the first row of its text.
unfoldable pub section_name_in : List ℕ → Option (List ℕ)
section_name_in text =
    behind (codes "/* juniper ") text >>= (λ t. cut_at 10 t >>= (λ p. Some (note_in p.0)))

unfoldable pub known_family_in : List ℕ → Option Family
known_family_in w =
    if bytes_eq w (codes "inet") then Some V4
    else if bytes_eq w (codes "inet6") then Some V6
    else None

-- What the first row of a filter says: the family, the filter's name and the section's.
abbrev pub head_parts : FilterHead → Family × List ℕ × List ℕ
head_parts h = (h.family, h.filter.now, h.name.now)

unfoldable pub head_in : List ℕ → Option (Family × List ℕ × List ℕ)
head_in text = section_name_in text >>= (λ name. cut_at 32 name >>= (λ p.
    known_family_in p.1 >>= (λ family. Some (family, p.0, name))))

-- The text begins with the valid filter, which is followed by what is left.
pub record IsFilterTaken (text : List ℕ) (p : Packet) (taken : TakenFilter) (s : Section)
    : Type 0 where
  pub valid : IsSection s
  pub written : text ≡ text_of_rows (section_rows s) ++ taken.rest.now
  pub named : taken.name.now ≡ name_of s
  pub decided : taken.outcome ≡ section_outcome s p

pub record TakesFilter (text : List ℕ) (p : Packet) (taken : Option TakenFilter) : Type 0 where
  pub some : IfSome taken (λ t. (s : Section) × IsFilterTaken text p t s)
  pub each : (s : Section) (rest : List ℕ) → IsSection s
      → text ≡ text_of_rows (section_rows s) ++ rest
      → IsSomeAnd taken (λ t. t.rest.now ≡ rest)
