-- Nine numbers and the packet that has them.
use Rattle.std.proofs.Common.{◌≡◌, ℕ, ◌<◌, ◌≤◌, ◌^◌, true, ◌==◌, nat_le, [], ◌∷◌, refl, ap, ◌∙◌, arith}
use Rattle.std.proofs.lemmas.Bool.{agree_below_at, eqb-true, leb-true}
use Rattle.acl_packet.specs.declared.addresses.Family.{Family}
use Rattle.acl_packet.specs.declared.addresses.Family.TheVariants.{V4, V6}
use Rattle.acl_packet.specs.declared.packet_fields.Field.TheVariants.{Protocol, SourcePort, DestinationPort, IcmpType, IcmpCode}
use Rattle.acl_packet.specs.declared.packets.Conn.{Conn}
use Rattle.acl_packet.specs.declared.packets.Conn.TheVariants.{New, Established, Related, Invalid}
use Rattle.acl_packet.specs.Addresses.{top_address, width_of}
use Rattle.acl_packet.specs.Packets.{number_of, top_of}
use Rattle.acl_packet.proofs.FieldLaws.{by-field}
use Rattle.term_boxes.specs.Coordinates.{NumbersComeBack, NumbersFit, PacketsComeBack, connection_at, flags_at, packet_at, place_of_connection, place_of_flags}

-- ---- flags and connections

place-back : (n : ℕ) → n < 64 → place_of_flags (flags_at n) ≡ n
place-back n lt = eqb-true (place_of_flags (flags_at n)) n
    (agree_below_at (λ k. place_of_flags (flags_at k) == k) (λ k. true) 64 n refl lt)

flags-back : (n : ℕ) → n < 64 → flags_at (place_of_flags n) ≡ n
flags-back n lt = eqb-true (flags_at (place_of_flags n)) n
    (agree_below_at (λ k. flags_at (place_of_flags k) == k) (λ k. true) 64 n refl lt)

pub place-fits : (n : ℕ) → n < 64 → place_of_flags n ≤ 63
place-fits n lt = leb-true (place_of_flags n) 63
    (agree_below_at (λ k. nat_le (place_of_flags k) 63) (λ k. true) 64 n refl lt)

flags-fit : (n : ℕ) → n < 64 → flags_at n ≤ 63
flags-fit n lt = leb-true (flags_at n) 63
    (agree_below_at (λ k. nat_le (flags_at k) 63) (λ k. true) 64 n refl lt)

connection-place-back : (n : ℕ) → n < 4 → place_of_connection (connection_at n) ≡ n
connection-place-back n lt = eqb-true (place_of_connection (connection_at n)) n
    (agree_below_at (λ k. place_of_connection (connection_at k) == k) (λ k. true) 4 n refl lt)

connection-back : (c : Conn) → connection_at (place_of_connection c) ≡ c
connection-back New = refl
connection-back Established = refl
connection-back Related = refl
connection-back Invalid = refl

pub connection-fits : (c : Conn) → place_of_connection c ≤ 3
connection-fits New = omega arith
connection-fits Established = omega arith
connection-fits Related = omega arith
connection-fits Invalid = omega arith

-- ---- numbers

pub come-back : NumbersComeBack
come-back f [] h = absurd h
come-back f (s ∷ []) h = absurd h.1
come-back f (s ∷ d ∷ []) h = absurd h.1.1
come-back f (s ∷ d ∷ pr ∷ []) h = absurd h.1.1.1
come-back f (s ∷ d ∷ pr ∷ sp ∷ []) h = absurd h.1.1.1.1
come-back f (s ∷ d ∷ pr ∷ sp ∷ dp ∷ []) h = absurd h.1.1.1.1.1
come-back f (s ∷ d ∷ pr ∷ sp ∷ dp ∷ ty ∷ []) h = absurd h.1.1.1.1.1.1
come-back f (s ∷ d ∷ pr ∷ sp ∷ dp ∷ ty ∷ co ∷ []) h = absurd h.1.1.1.1.1.1.1
come-back f (s ∷ d ∷ pr ∷ sp ∷ dp ∷ ty ∷ co ∷ fl ∷ []) h = absurd h.1.1.1.1.1.1.1.1
come-back f (s ∷ d ∷ pr ∷ sp ∷ dp ∷ ty ∷ co ∷ fl ∷ cn ∷ []) h =
    let flags = h.1.1.1.1.1.1.1.0 in
    let connection = h.1.1.1.1.1.1.1.1.0 in
    ap (λ k. s ∷ d ∷ pr ∷ sp ∷ dp ∷ ty ∷ co ∷ k ∷ place_of_connection (connection_at cn) ∷ []) (place-back fl (omega (arith, flags)))
    ∙ ap (λ k. s ∷ d ∷ pr ∷ sp ∷ dp ∷ ty ∷ co ∷ fl ∷ k ∷ []) (connection-place-back cn (omega (arith, connection)))
come-back f (s ∷ d ∷ pr ∷ sp ∷ dp ∷ ty ∷ co ∷ fl ∷ cn ∷ x ∷ xs) h = absurd h.1.1.1.1.1.1.1.1.1

below : (f : Family) (x : ℕ) → x ≤ top_address f → x < 2 ^ width_of f
below V4 x h = omega (arith, h)
below V6 x h = omega (arith, h)

within : (f : Family) (x : ℕ) → x < 2 ^ width_of f → x ≤ top_address f
within V4 x h = omega (arith, h)
within V6 x h = omega (arith, h)

pub fit : NumbersFit
fit f [] h = absurd h
fit f (s ∷ []) h = absurd h.1
fit f (s ∷ d ∷ []) h = absurd h.1.1
fit f (s ∷ d ∷ pr ∷ []) h = absurd h.1.1.1
fit f (s ∷ d ∷ pr ∷ sp ∷ []) h = absurd h.1.1.1.1
fit f (s ∷ d ∷ pr ∷ sp ∷ dp ∷ []) h = absurd h.1.1.1.1.1
fit f (s ∷ d ∷ pr ∷ sp ∷ dp ∷ ty ∷ []) h = absurd h.1.1.1.1.1.1
fit f (s ∷ d ∷ pr ∷ sp ∷ dp ∷ ty ∷ co ∷ []) h = absurd h.1.1.1.1.1.1.1
fit f (s ∷ d ∷ pr ∷ sp ∷ dp ∷ ty ∷ co ∷ fl ∷ rest) h =
    let flags = h.1.1.1.1.1.1.1.0 in
    let bits = flags-fit fl (omega (arith, flags)) in
    let ns = s ∷ d ∷ pr ∷ sp ∷ dp ∷ ty ∷ co ∷ fl ∷ rest in
    record {
      source = below f s h.0;
      destination = below f d h.1.0;
      numbers = by-field (λ field. number_of field (packet_at f ns) ≤ top_of field) h.1.1.0 h.1.1.1.0 h.1.1.1.1.0 h.1.1.1.1.1.0 h.1.1.1.1.1.1.0;
      flags_fit = omega (arith, bits);
    }

pub packet-back : PacketsComeBack
packet-back p fits =
    let flags = place-fits p.flags fits.flags_fit in (
      (
        within p.family p.src fits.source,
        (
          within p.family p.dst fits.destination,
          (
            fits.numbers Protocol,
            (
              fits.numbers SourcePort,
              (
                fits.numbers DestinationPort,
                (
                  fits.numbers IcmpType,
                  (
                    fits.numbers IcmpCode,
                    (flags, (connection-fits p.conn, tt)),
                  ),
                ),
              ),
            ),
          ),
        ),
      ),
      ap (λ k. record p { flags = k; conn = connection_at (place_of_connection p.conn) }) (flags-back p.flags fits.flags_fit)
          ∙ ap (λ k. record p { conn = k }) (connection-back p.conn),
    )
