-- Whether a prefix is one, test by test.
use Rattle.std.specs.Prelude.{◌%◌, Bool, ◌&&◌, ◌==◌, nat_le}
use Rattle.acl_packet.specs.declared.addresses.Family.{Family}
use Rattle.acl_packet.specs.declared.addresses.Prefix.{Prefix}
use Rattle.acl_packet.specs.Addresses.{same_family, size_of, top_address, width_of}

abbrev pub is_aligned : Prefix → Bool
is_aligned p = p.first % size_of p == 0

abbrev pub is_prefix_of : Family → Prefix → Bool
is_prefix_of family p = (same_family p.family family && nat_le p.len (width_of p.family))
    && (nat_le p.first (top_address p.family) && is_aligned p)

abbrev pub is_addresses : Family → Prefix → Bool
is_addresses family p = is_prefix_of family p && nat_le 1 p.len
