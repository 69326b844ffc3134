-- The terms of a workload as sets of numbers.
use Rattle.std.specs.Prelude.{ℕ, ◌+◌, ◌*◌, List, [], ◌∷◌}
use Rattle.acl_packet.specs.declared.addresses.Family.TheVariants.{V4, V6}
use Rattle.acl_packet.specs.Addresses.{top_address}
use Rattle.acl_sets.specs.declared.sets.Range.{Range}
use Rattle.acl_sets.specs.Ranges.{Numbers}
use Rattle.acl_naming.specs.Ports.{top_port}
use Rattle.acl_terms.specs.Sets.{Sets, by_field}

abbrev pub range : ℕ → ℕ → Range
range low high = record { low = low; high = high }

abbrev pub all_to : ℕ → Numbers
all_to top = record { top = top; ranges = range 0 top ∷ [] }

-- The addresses of a network: 10.a.b.0/24, where i is a * 256 + b, and 2001:db8:i::/48 (see `network_items`).
abbrev pub source4 : ℕ → List Range
source4 i = range (167772160 + i * 256) (167772160 + i * 256 + 255) ∷ []

abbrev pub source6 : ℕ → List Range
source6 i = range (42540766411282592856903984951653826560 + i * 1208925819614629174706176)
    (42540766411282592856903984951653826560 + i * 1208925819614629174706176 + 1208925819614629174706175) ∷ []

abbrev pub ports : ℕ → List Range
ports i = range (1000 + i) (1000 + i) ∷ []

-- TCP is 6 and UDP 17.
abbrev pub protocols : Numbers
protocols = record { top = 255; ranges = range 6 6 ∷ range 17 17 ∷ [] }

abbrev pub term_sets : ℕ → Sets
term_sets i = record {
  src4 = record { top = top_address V4; ranges = source4 i };
  src6 = record { top = top_address V6; ranges = source6 i };
  dst4 = all_to (top_address V4);
  dst6 = all_to (top_address V6);
  addr4 = all_to (top_address V4);
  addr6 = all_to (top_address V6);
  numbers = by_field protocols (all_to top_port) (record { top = top_port; ranges = ports i }) (all_to 255)
      (all_to 255);
  ports = all_to top_port;
}
