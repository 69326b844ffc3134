-- The parts of a rule's line: one up to the protocol, the words of the source, and one from the destination on.
use Rattle.std.specs.Prelude.{ℕ, Bool, List, ◌∷◌, ◌++◌, codes, Option}
use Rattle.acl_packet.specs.declared.addresses.Family.{Family}
use Rattle.acl_packet.specs.declared.addresses.Prefix.{Prefix}
use Rattle.acl_packet.specs.declared.filtering.Hook.{Hook}
use Rattle.acl_rows.specs.RowHalves.{row_back, row_front}
use Rattle.acl_rows.specs.Rows.{spaced}
use Rattle.ipt_lang.specs.declared.documents.Act.{Act}
use Rattle.ipt_lang.specs.declared.documents.Flags.{Flags}
use Rattle.ipt_lang.specs.Texts.{address_words, back_words, chain_name, proto_words}

abbrev pub source_words : Option Prefix → List (List ℕ)
source_words src = address_words (codes "-s") src

-- The words of the ports stand behind the destination.
unfoldable pub destination_words : Family → Option Prefix → List (List ℕ) → Option ℕ → Option ℕ → Option Flags → Bool → Act → List (List ℕ)
destination_words family dst ports itype icode flags state act =
    address_words (codes "-d") dst ++ (ports ++ back_words family itype icode flags state act)

abbrev pub rule_front : Hook → List ℕ → Family → Option ℕ → List ℕ
rule_front hook name family proto = row_front 0 (codes "-A") (chain_name hook name ∷ proto_words family proto)

abbrev pub rule_source : Option Prefix → List ℕ
rule_source src = spaced (source_words src)

abbrev pub rule_back : Family → Option Prefix → List (List ℕ) → Option ℕ → Option ℕ → Option Flags → Bool → Act → List ℕ
rule_back family dst ports itype icode flags state act =
    row_back (destination_words family dst ports itype icode flags state act)
