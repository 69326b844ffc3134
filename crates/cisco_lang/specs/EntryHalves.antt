-- The parts of an entry's line: up to the protocol, the source and its ports, and from the destination on.
use Rattle.std.specs.Prelude.{ℕ, Bool, List, [], ◌∷◌, ◌++◌, Option}
use Rattle.acl_packet.specs.declared.addresses.Family.{Family}
use Rattle.acl_packet.specs.declared.addresses.Prefix.{Prefix}
use Rattle.acl_rows.specs.RowHalves.{row_back, row_front}
use Rattle.acl_rows.specs.Rows.{spaced}
use Rattle.acl_rows.specs.RuleParts.{log_words}
use Rattle.cisco_lang.specs.declared.documents.Flags.{Flags}
use Rattle.cisco_lang.specs.Texts.{action_word, end_words, flags_words, icmp_words, proto_word}

-- The words behind the action.
unfoldable pub front_words : Family → Option ℕ → Prefix → Option (ℕ × ℕ) → List (List ℕ)
front_words family proto src sport = proto_word family proto ∷ end_words family src sport

unfoldable pub back_words : Family → Prefix → Option (ℕ × ℕ) → Option ℕ → Option ℕ → Option Flags → Bool → List (List ℕ)
back_words family dst dport itype icode flags log =
    end_words family dst dport ++ (icmp_words itype icode ++ (flags_words flags ++ log_words log))

abbrev pub entry_start : Family → Bool → Option ℕ → List ℕ
entry_start family permit proto = row_front 1 (action_word permit) (proto_word family proto ∷ [])

abbrev pub entry_source : Family → Prefix → Option (ℕ × ℕ) → List ℕ
entry_source family src sport = spaced (end_words family src sport)

abbrev pub entry_back : Family → Prefix → Option (ℕ × ℕ) → Option ℕ → Option ℕ → Option Flags → Bool → List ℕ
entry_back family dst dport itype icode flags log = row_back (back_words family dst dport itype icode flags log)
