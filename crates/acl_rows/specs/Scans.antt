-- What a section of a text does to a packet, where the sections are taken from the text one by one, and none is held.
use Rattle.std.specs.Prelude.{◌≡◌, ℕ, ◌<◌, List, ◌∷◌, ◌++◌, flat_map, length, Option, None, Some, IfNone, IfSome}
use Rattle.std.specs.List.{AllByRecursion}
use Rattle.std.specs.Option.{IsSomeAnd}
use Rattle.acl_packet.specs.declared.filtering.Outcome.{Outcome}
use Rattle.acl_packet.specs.declared.packets.Packet.{Packet}
use Rattle.acl_rows.specs.Rows.{Row, text_of_rows}
use Rattle.acl_rows.specs.declared.scanning.SectionVerdict.{SectionVerdict}
use Rattle.acl_rows.specs.declared.scanning.SectionVerdict.TheVariants as found
use Rattle.acl_rows.specs.declared.scanning.TakenSection.{TakenSection}

-- What is found of a section of a text: no document, no such section for the packet, or what it does.
abbrev pub Finds : {S : Type 0} → (List S → Type 0) → (List S → Option Outcome) → SectionVerdict → Type 0
Finds {S = S} Spells outcome found.NoDocument = (doc : List S) → Spells doc → ⊥
Finds {S = S} Spells outcome found.NoSection = (doc : List S) × Spells doc × (outcome doc ≡ None)
Finds {S = S} Spells outcome (found.Decides o) = (doc : List S) × Spells doc × (outcome doc ≡ Some o)

-- The text begins with the valid section, which is followed by what is left, takes these names, and does this to the packet.
pub record IsTaken {S : Type 0} (IsSection : S → Type 0) (names : S → List (List ℕ)) (rows : S → List Row)
    (outcome : S → Packet → Option Outcome) (text : List ℕ) (packet : Packet) (before after : List (List ℕ))
    (taken : TakenSection) (section : S) : Type 0 where
  pub valid : IsSection section
  pub written : text ≡ text_of_rows (rows section) ++ taken.rest.now
  pub named : after ≡ before ++ names section
  pub decided : taken.outcome ≡ outcome section packet
  pub shorter : length taken.rest.now < length text

-- A section is taken from the front of a text, if the text begins with one. Where the text is that of valid sections, it is the
-- first of them. Where none is taken, the names are as they were.
pub record TakesSection {S : Type 0} (IsSection : S → Type 0) (names : S → List (List ℕ)) (rows : S → List Row)
    (outcome : S → Packet → Option Outcome) (text : List ℕ) (packet : Packet) (before after : List (List ℕ))
    (taken : Option TakenSection) : Type 0 where
  pub some : IfSome taken (λ t. (section : S) × IsTaken IsSection names rows outcome text packet before after t section)
  pub none : IfNone taken (after ≡ before)
  pub each : (section : S) (others : List S) → IsSection section → AllByRecursion IsSection others
      → text ≡ text_of_rows (flat_map rows (section ∷ others))
      → IsSomeAnd taken (λ t. t.rest.now ≡ text_of_rows (flat_map rows others))
