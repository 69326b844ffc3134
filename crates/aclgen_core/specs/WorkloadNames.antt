-- What the naming files of a workload define.
use Rattle.std.specs.Prelude.{ℕ, ◌+◌, ◌*◌, List, [], ◌∷◌, ◌++◌, map, codes, decimal}
use Rattle.std.specs.List.{range_with_len}
use Rattle.acl_packet.specs.declared.addresses.Family.TheVariants.{V4, V6}
use Rattle.acl_naming.specs.declared.naming_items.Item.{Item}
use Rattle.acl_naming.specs.declared.naming_items.Item.TheVariants.{Network, Service}
use Rattle.acl_naming.specs.Definitions.{Definition, Naming}

-- What the numbers from 0 on become, so many of them.
abbrev pub each : {A : Type 0} → (ℕ → A) → ℕ → List A
each f n = map f (range_with_len 0 n)

abbrev pub network_name : ℕ → List ℕ
network_name i = codes "N" ++ decimal i

abbrev pub service_name : ℕ → List ℕ
service_name i = codes "S" ++ decimal i

-- 10.0.0.0 is 167772160, and 2001:db8:: is 42540766411282592856903984951653826560; the third group of an IPv6 address
-- counts 2 ^ 80, which is 1208925819614629174706176.
abbrev pub network_items : ℕ → List Item
network_items i =
    Network (record { family = V4; first = 167772160 + i * 256; len = 25 })
    ∷ Network (record { family = V4; first = 167772160 + i * 256 + 128; len = 25 })
    ∷ Network (record {
      family = V6;
      first = 42540766411282592856903984951653826560 + i * 1208925819614629174706176;
      len = 48;
    }) ∷ []

-- TCP is 6 and UDP 17.
abbrev pub service_items : ℕ → List Item
service_items i =
    Service (record { proto = 6; low = 1000 + i; high = 1000 + i })
    ∷ Service (record { proto = 17; low = 1000 + i; high = 1000 + i }) ∷ []

-- The networks are those of file 0, the services those of file 1, each in a line of its own.
abbrev pub network : ℕ → Definition
network i =
    record { name = network_name i; place = record { file = 0; line = i + 1 }; items = network_items i }

abbrev pub service : ℕ → Definition
service i =
    record { name = service_name i; place = record { file = 1; line = i + 1 }; items = service_items i }

abbrev pub workload_naming : ℕ → Naming
workload_naming n = record { networks = each network n; services = each service n }
