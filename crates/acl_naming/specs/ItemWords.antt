-- The words of a definition's items.
use Rattle.std.specs.Prelude.{ℕ, ◌||◌, if◌then◌else◌, List, Option, None, Some, option_map}
use Rattle.acl_packet.specs.NumberWords.{protocol_in}
use Rattle.acl_text.specs.declared.faults.Place.{Place}
use Rattle.acl_text.specs.AddressTexts.{prefix_in}
use Rattle.acl_text.specs.OptionSteps.{◌>>=◌}
use Rattle.acl_text.specs.Cuts.{cut_at, has_byte}
use Rattle.acl_text.specs.Names.{is_name}
use Rattle.acl_text.specs.PortRanges.{ports_in}
use Rattle.acl_naming.specs.declared.item_words.NamingKind.{NamingKind}
use Rattle.acl_naming.specs.declared.item_words.NamingKind.TheVariants.{Networks, Services}
use Rattle.acl_naming.specs.declared.naming_items.Item.{Item}
use Rattle.acl_naming.specs.declared.naming_items.Item.TheVariants.{Name, Network, Service}
use Rattle.acl_naming.specs.Ports.{Ports}

-- A word that is a name.
abbrev pub name_in : Place → List ℕ → Option Item
name_in place word =
    if is_name word then Some (Name (record { place = place; name = word })) else None

-- A word with `.` (46) or `:` (58) is a prefix of addresses, and any other a name.
unfoldable pub network_in : Place → List ℕ → Option Item
network_in place word =
    if has_byte 46 word || has_byte 58 word then option_map Network (prefix_in word)
    else name_in place word

-- One port or two with `-` (45) between, `/` (47) and a protocol.
unfoldable pub service_ports_in : List ℕ → Option Ports
service_ports_in word = do
  p ← cut_at 47 word
  ends ← ports_in 45 p.0
  proto ← protocol_in p.1
  Some (record { proto = proto; low = ends.0; high = ends.1 })

-- A word with `/` is ports of a protocol, and any other a name.
unfoldable pub service_in : Place → List ℕ → Option Item
service_in place word =
    if has_byte 47 word then option_map Service (service_ports_in word) else name_in place word

unfoldable pub item_in : NamingKind → Place → List ℕ → Option Item
item_in Networks place word = network_in place word
item_in Services place word = service_in place word
