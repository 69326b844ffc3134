-- A section does something to the packets of IPv4, and to no others.
use Rattle.std.proofs.Common.{◌≡◌, is_some}
use Rattle.acl_packet.specs.declared.packets.Packet.{Packet}
use Rattle.acl_rows.proofs.OutcomeLaws.{some-where}
use Rattle.std_lang.specs.declared.documents.Section.{Section}
use Rattle.std_lang.specs.Walks.{has_family, section_outcome, walk}

pub decides_its_family : (s : Section) (p : Packet) → is_some (section_outcome s p) ≡ has_family s p.family
unfolding section_outcome
decides_its_family s p = some-where (has_family s p.family) (walk s.items p)
