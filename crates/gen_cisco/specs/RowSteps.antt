-- The rows of a list's items, and those behind its head.
use Rattle.std.specs.Prelude.{List, ◌++◌, flat_map}
use Rattle.acl_packet.specs.declared.addresses.Family.{Family}
use Rattle.acl_platform.specs.declared.rules.Rule.{Rule}
use Rattle.acl_rows.specs.Rows.{Row}
use Rattle.cisco_lang.specs.declared.documents.Item.{Item}
use Rattle.cisco_lang.specs.Texts.{end_rows, item_rows}
use Rattle.gen_cisco.specs.Sections.{list_items}

abbrev pub items_rows : Family → List Item → List Row
items_rows family items = flat_map (item_rows family) items

abbrev pub list_body : Family → List Rule → List Row
list_body family rules = items_rows family (list_items family rules) ++ end_rows
