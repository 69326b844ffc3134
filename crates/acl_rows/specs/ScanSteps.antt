-- Texts of valid sections, and what is known of one when all of its sections were taken.
use Rattle.std.specs.Prelude.{◌≡◌, ℕ, List, flat_map, Option}
use Rattle.std.specs.List.{AllByRecursion}
use Rattle.acl_packet.specs.declared.filtering.Outcome.{Outcome}
use Rattle.acl_packet.specs.declared.packets.Packet.{Packet}
use Rattle.acl_rows.specs.Documents.{outcome_at}
use Rattle.acl_rows.specs.Rows.{Row, text_of_rows}

-- The text is that of these sections, each of which is valid. Two of them may have a name in common.
pub record IsTextOf {S : Type 0} (IsSection : S → Type 0) (rows : S → List Row) (text : List ℕ) (doc : List S) : Type 0 where
  pub valid : AllByRecursion IsSection doc
  pub written : text ≡ text_of_rows (flat_map rows doc)

pub record IsScanned {S : Type 0} (IsSection : S → Type 0) (names_of : S → List (List ℕ)) (rows : S → List Row)
    (outcome_of : S → Packet → Option Outcome) (text : List ℕ) (which : ℕ) (packet : Packet) (names : List (List ℕ))
    (outcome : Option Outcome) (doc : List S) : Type 0 where
  pub text_of : IsTextOf IsSection rows text doc
  pub named : names ≡ flat_map names_of doc
  pub decided : outcome ≡ outcome_at outcome_of doc which packet
