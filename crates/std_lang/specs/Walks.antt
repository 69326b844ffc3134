-- What a standard list does to a packet.
-- Source: Cisco IOS Security Command Reference, "access-list (IP standard)" (the entries are tried in
-- order, and an implicit deny ends them; an interface whose list has no entry lets all pass).
use Rattle.std.specs.Prelude.{ℕ, Bool, true, false, if◌then◌else◌, List, [], ◌∷◌, Option, None, Some, unwrap_or}
use Rattle.std.specs.List.{list_any}
use Rattle.acl_packet.specs.declared.addresses.Family.{Family}
use Rattle.acl_packet.specs.declared.addresses.Family.TheVariants.{V4}
use Rattle.acl_packet.specs.declared.packets.Packet.{Packet}
use Rattle.acl_packet.specs.declared.filtering.Outcome.{Outcome}
use Rattle.acl_packet.specs.declared.filtering.Verdict.TheVariants.{Accept, Deny}
use Rattle.acl_packet.specs.Addresses.{has_address, same_family}
use Rattle.acl_packet.specs.Outcomes.{unlogged}
use Rattle.acl_rows.specs.Documents.{outcome_at}
use Rattle.cisco_lang.specs.Walks.{verdict_of}
use Rattle.std_lang.specs.declared.documents.Section.{Section}
use Rattle.std_lang.specs.declared.documents.Item.{Item}
use Rattle.std_lang.specs.declared.documents.Item.TheVariants.{Remark, Entry as AnEntry}
use Rattle.std_lang.specs.declared.documents.Entry.{Entry}

abbrev pub is_entry : Item → Bool
is_entry (Remark text) = false
is_entry (AnEntry e) = true

-- What an entry decides, with its log.
abbrev pub decided_by : Entry → Outcome
decided_by e = record { verdict = verdict_of e.permit; logged = e.log }

-- What the first entry decides whose source has the packet's.
unfoldable pub first_holding : List Item → Packet → Option Outcome
first_holding [] p = None
first_holding (Remark text ∷ items) p = first_holding items p
first_holding (AnEntry e ∷ items) p =
    if has_address e.src p.src then Some (decided_by e) else first_holding items p

abbrev pub has_entries : List Item → Bool
has_entries items = list_any is_entry items

-- What the items of a list do: where no entry decides, the end denies; a list without entries accepts
-- all.
unfoldable pub walk : List Item → Packet → Outcome
walk items p =
    if has_entries items then unwrap_or (first_holding items p) (unlogged Deny) else unlogged Accept

-- A section is of IPv4.
abbrev pub has_family : Section → Family → Bool
has_family s family = same_family family V4

unfoldable pub section_outcome : Section → Packet → Option Outcome
section_outcome s p = if has_family s p.family then Some (walk s.items p) else None

-- What the section at that place does; nothing where there is none.
abbrev pub outcome_of : List Section → ℕ → Packet → Option Outcome
outcome_of doc which p = outcome_at section_outcome doc which p
