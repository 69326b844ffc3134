-- A section does something to the packets of its families, and to no others.
use Rattle.std.proofs.Common.{◌≡◌, is_some}
use Rattle.acl_packet.specs.declared.packets.Packet.{Packet}
use Rattle.acl_packet.specs.Addresses.{same_family}
use Rattle.acl_rows.proofs.OutcomeLaws.{some-where}
use Rattle.junos_lang.specs.declared.documents.Section.{Section}
use Rattle.junos_lang.specs.Walks.{section_outcome, walk}

pub decides_its_families : (s : Section) (p : Packet) → is_some (section_outcome s p) ≡ same_family s.family p.family
decides_its_families s p = some-where (same_family s.family p.family) (walk s.terms p)
