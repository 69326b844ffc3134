-- A term matches the packets in its boxes: those of its own sets that are in none of its failing boxes.
use Rattle.std.proofs.Common.{◌≡◌, ◌<◌, Bool, true, false, cond, not, ◌&&◌, ◌||◌, ◌==◌, nat_le, List, [], ◌∷◌, ◌++◌, flat_map, refl, ap, sym, ◌∙◌, arith}
use Rattle.std.specs.List.{list_any}
use Rattle.std.proofs.lemmas.List.Folds.{list_any-append}
use Rattle.acl_packet.specs.declared.addresses.Family.{Family}
use Rattle.acl_packet.specs.declared.packet_fields.Field.TheVariants.{Protocol, DestinationPort}
use Rattle.acl_packet.specs.declared.packets.Packet.{Packet}
use Rattle.acl_packet.specs.Packets.{IsPacket, has_ack_or_rst, has_flag, is_initial, is_tracked}
use Rattle.acl_sets.specs.Ranges.{Numbers, holds}
use Rattle.acl_terms.specs.declared.options.Mode.{Mode}
use Rattle.acl_terms.specs.declared.options.Mode.TheVariants.{Stateful, Stateless}
use Rattle.acl_terms.specs.declared.options.Opt.{Opt}
use Rattle.acl_terms.specs.declared.options.Opt.TheVariants.{Plain, Established, TcpEstablished, TcpInitial, Rst}
use Rattle.acl_terms.specs.declared.sides.Side.TheVariants.{Whole}
use Rattle.acl_terms.specs.declared.sides.SidePair.{SidePair}
use Rattle.acl_terms.specs.declared.terms.Term.{Term}
use Rattle.acl_terms.specs.Options.{passes}
use Rattle.acl_terms.specs.Resolved.{addresses_match, destination_in, destinations_on, dports_on, either_in, holds_either, in_both, matches, pairs_of, source_in, sources_on, sports_on}
use Rattle.acl_terms.proofs.FieldLaws.{by-parts, icmp_match, ports_match}
use Rattle.acl_terms.proofs.PairLaws.{match-by-pairs, pair_has}
use Rattle.term_boxes.specs.declared.boxes.PacketBox.{PacketBox}
use Rattle.term_boxes.specs.Boxes.{everything, has}
use Rattle.term_boxes.specs.Coordinates.{FieldsFit, place_of_connection, place_of_flags}
use Rattle.term_boxes.specs.NumberSets.{ack_or_rst, but_tcp, initial, neither_ack_nor_rst, no_rst, not_initial, outside, rst, server_ports, tcp, tracked, untracked, up_to}
use Rattle.term_boxes.specs.TermBoxes.{TermsAreBoxes, TermsFailInBoxes, boxes_of, established_ports, failing, failing_addresses, failing_boxes, failing_ports, own_box, pair_box, passing, protocols_in, seeming_established, seeming_new}
use Rattle.term_boxes.proofs.CoordinateLaws.{packet-back}
use Rattle.term_boxes.proofs.HeldNumbers.{ack-or-rst-holds, are-all, but-tcp-holds, initial-holds, neither-holds, no-rst-holds, not-initial-holds, rst-holds, server-holds, tcp-holds, tracked-holds, untracked-holds}
use Rattle.term_boxes.proofs.TermSets.{and-true, dports-set, either-all, either-set, or-false, outside-holds, ports-all, ports-left, ports-set, protocol-holds, protocols-set, shared-holds}

-- ---- one box

pub fields-fit : (p : Packet) → IsPacket p → FieldsFit p
fields-fit p is = record {
  source = is.source;
  destination = is.destination;
  numbers = is.numbers;
  flags_fit = is.flags_fit;
}

-- What the first seven sides hold, and what the option asks.
abbrev together : (s d h sp dp ty co o : Bool) → Bool
together s d h sp dp ty co o = s && (d && (h && (sp && (dp && (ty && (co && o))))))

narrowed : (s d h a sp dp u ty co c e : Bool)
    → (s && (d && ((h && a) && (sp && ((dp && u) && (ty && (co && (c && (e && true)))))))))
    ≡ together s d h sp dp ty co (a && (u && (c && e)))
narrowed false d h a sp dp u ty co c e = refl
narrowed true false h a sp dp u ty co c e = refl
narrowed true true false a sp dp u ty co c e = refl
narrowed true true true false false dp u ty co c e = refl
narrowed true true true false true false u ty co c e = refl
narrowed true true true false true true u false co c e = refl
narrowed true true true false true true u true false c e = refl
narrowed true true true false true true u true true c e = refl
narrowed true true true true false dp u ty co c e = refl
narrowed true true true true true false u ty co c e = refl
narrowed true true true true true true false false co c e = refl
narrowed true true true true true true false true false c e = refl
narrowed true true true true true true false true true c e = refl
narrowed true true true true true true true false co c e = refl
narrowed true true true true true true true true false c e = refl
narrowed true true true true true true true true true false e = refl
narrowed true true true true true true true true true true false = refl
narrowed true true true true true true true true true true true = refl

-- The packet is in the sets of a pair of sides, and passes an option.
abbrev on-pair : Family → Term → SidePair → Packet → Bool → Bool
on-pair f t pair p o =
    together (holds (sources_on pair.addresses f t).ranges p.src) (holds (destinations_on pair.addresses f t).ranges p.dst)
    (holds (protocols_in f t).ranges p.proto) (holds (sports_on pair.ports t).ranges p.sport)
    (holds (dports_on pair.ports t).ranges p.dport) (holds t.itypes.ranges p.itype) (holds t.icodes.ranges p.icode) o

-- The box with other protocols, destination ports, flags and connections.
abbrev changed : Family → Term → SidePair → Numbers → Numbers → Numbers → Numbers → PacketBox
changed f t pair protos dports flags connections = record (pair_box f t pair) {
  protocols = protos;
  destination_ports = dports;
  flags = flags;
  connections = connections;
}

one-box : (f : Family) (t : Term) (pair : SidePair) (p : Packet) (protos dports flags connections : Numbers) (a u c e : Bool)
    → holds protos.ranges p.proto ≡ (holds (protocols_in f t).ranges p.proto && a)
    → holds dports.ranges p.dport ≡ (holds (dports_on pair.ports t).ranges p.dport && u)
    → holds flags.ranges (place_of_flags p.flags) ≡ c → holds connections.ranges (place_of_connection p.conn) ≡ e
    → has p (changed f t pair protos dports flags connections) ≡ on-pair f t pair p (a && (u && (c && e)))
one-box f t pair p protos dports flags connections a u c e ea eu ec ee =
    let s = holds (sources_on pair.addresses f t).ranges p.src in
    let d = holds (destinations_on pair.addresses f t).ranges p.dst in
    let h = holds (protocols_in f t).ranges p.proto in
    let sp = holds (sports_on pair.ports t).ranges p.sport in
    let dp = holds (dports_on pair.ports t).ranges p.dport in
    let ty = holds t.itypes.ranges p.itype in
    let co = holds t.icodes.ranges p.icode in
    let g = holds flags.ranges (place_of_flags p.flags) in
    let k = holds connections.ranges (place_of_connection p.conn) in
    ap (λ x. s && (d && (x && (sp && (holds dports.ranges p.dport && (ty && (co && (g && (k && true))))))))) ea
    ∙ ap (λ x. s && (d && ((h && a) && (sp && (x && (ty && (co && (g && (k && true))))))))) eu
    ∙ ap (λ x. s && (d && ((h && a) && (sp && ((dp && u) && (ty && (co && (x && (k && true))))))))) ec
    ∙ ap (λ x. s && (d && ((h && a) && (sp && ((dp && u) && (ty && (co && (c && (x && true))))))))) ee
    ∙ narrowed s d h a sp dp u ty co c e

-- The same where the protocols and the ports are the term's.
flagged : (f : Family) (t : Term) (pair : SidePair) (p : Packet) (flags connections : Numbers) (c e : Bool)
    → holds flags.ranges (place_of_flags p.flags) ≡ c → holds connections.ranges (place_of_connection p.conn) ≡ e
    → has p (changed f t pair (protocols_in f t) (dports_on pair.ports t) flags connections) ≡ on-pair f t pair p (c && e)
flagged f t pair p flags connections c e ec ee =
    one-box f t pair p (protocols_in f t) (dports_on pair.ports t) flags connections true true c e
    (sym (and-true (holds (protocols_in f t).ranges p.proto))) (sym (and-true (holds (dports_on pair.ports t).ranges p.dport))) ec ee

-- ---- options

by-protocol : (s d h sp dp ty co n ack u : Bool)
    → (together s d h sp dp ty co (n && (true && (ack && true))) || (together s d h sp dp ty co (not n && (u && (true && true))) || false))
    ≡ together s d h sp dp ty co (cond n ack u)
by-protocol false d h sp dp ty co n ack u = refl
by-protocol true false h sp dp ty co n ack u = refl
by-protocol true true false sp dp ty co n ack u = refl
by-protocol true true true false dp ty co n ack u = refl
by-protocol true true true true false ty co n ack u = refl
by-protocol true true true true true false co n ack u = refl
by-protocol true true true true true true false n ack u = refl
by-protocol true true true true true true true true true u = refl
by-protocol true true true true true true true true false u = refl
by-protocol true true true true true true true false ack true = refl
by-protocol true true true true true true true false ack false = refl

by-established : (f : Family) (t : Term) (pair : SidePair) (p : Packet) → FieldsFit p
    → list_any (has p) (seeming_established t.dport_named (pair_box f t pair))
    ≡ on-pair f t pair p (passes Established Stateless t.dport_named p)
by-established f t pair p fits =
    let all = are-all p fits in
    let proto = fits.numbers Protocol in
    let below : p.proto < 256 = omega (arith, proto) in
    let n : Bool = p.proto == 6 in
    let ack : Bool = has_ack_or_rst p in
    let u : Bool = t.dport_named || nat_le 1024 p.dport in
    let h = holds (protocols_in f t).ranges p.proto in
    let second = record (pair_box f t pair) {
      protocols = in_both (protocols_in f t) but_tcp;
      destination_ports = established_ports t.dport_named (dports_on pair.ports t);
    } in
    ap (λ x. x || (has p second || false))
    (one-box f t pair p (in_both (protocols_in f t) tcp) (dports_on pair.ports t) ack_or_rst (up_to 3) n true ack true
    (shared-holds 255 (protocols_in f t) tcp p.proto (protocols-set f t) ∙ ap (λ x. h && x) (tcp-holds p.proto below))
    (sym (and-true (holds (dports_on pair.ports t).ranges p.dport))) (ack-or-rst-holds p.flags fits.flags_fit) all.connection)
    ∙ ap (λ x. on-pair f t pair p (n && (true && (ack && true))) || (x || false))
    (one-box f t pair p (in_both (protocols_in f t) but_tcp) (established_ports t.dport_named (dports_on pair.ports t)) (up_to 63) (up_to 3)
    (not n) u true true
    (shared-holds 255 (protocols_in f t) but_tcp p.proto (protocols-set f t) ∙ ap (λ x. h && x) (but-tcp-holds p.proto below))
    (ports-left t.dport_named (dports_on pair.ports t) p.dport (dports-set pair.ports t) (fits.numbers DestinationPort))
    all.flag all.connection)
    ∙ by-protocol (holds (sources_on pair.addresses f t).ranges p.src) (holds (destinations_on pair.addresses f t).ranges p.dst) h
    (holds (sports_on pair.ports t).ranges p.sport) (holds (dports_on pair.ports t).ranges p.dport) (holds t.itypes.ranges p.itype)
    (holds t.icodes.ranges p.icode) n ack u

-- Where an option asks for flags alone.
by-flags : (f : Family) (t : Term) (pair : SidePair) (p : Packet) (flags : Numbers) (c : Bool) → FieldsFit p
    → holds flags.ranges (place_of_flags p.flags) ≡ c
    → list_any (has p) (record (pair_box f t pair) { flags = flags } ∷ []) ≡ on-pair f t pair p c
by-flags f t pair p flags c fits e =
    or-false (has p (record (pair_box f t pair) { flags = flags }))
    ∙ flagged f t pair p flags (up_to 3) c true e (are-all p fits).connection
    ∙ ap (on-pair f t pair p) (and-true c)

-- Where it asks for a connection.
by-connection : (f : Family) (t : Term) (pair : SidePair) (p : Packet) → FieldsFit p
    → list_any (has p) (record (pair_box f t pair) { connections = tracked } ∷ []) ≡ on-pair f t pair p (is_tracked p.conn)
by-connection f t pair p fits =
    or-false (has p (record (pair_box f t pair) { connections = tracked }))
    ∙ flagged f t pair p (up_to 63) tracked true (is_tracked p.conn) (are-all p fits).flag (tracked-holds p.conn)

by-option : (o : Opt) (mode : Mode) (f : Family) (t : Term) (pair : SidePair) (p : Packet) → FieldsFit p
    → list_any (has p) (passing o mode t.dport_named (pair_box f t pair)) ≡ on-pair f t pair p (passes o mode t.dport_named p)
by-option Plain mode f t pair p fits = by-flags f t pair p (up_to 63) true fits (are-all p fits).flag
by-option Established Stateful f t pair p fits = by-connection f t pair p fits
by-option Established Stateless f t pair p fits = by-established f t pair p fits
by-option TcpEstablished Stateful f t pair p fits = by-connection f t pair p fits
by-option TcpEstablished Stateless f t pair p fits =
    by-flags f t pair p ack_or_rst (has_ack_or_rst p) fits (ack-or-rst-holds p.flags fits.flags_fit)
by-option TcpInitial mode f t pair p fits =
    by-flags f t pair p initial (is_initial p) fits (initial-holds p.flags fits.flags_fit)
by-option Rst mode f t pair p fits =
    by-flags f t pair p rst (has_flag p.flags 4) fits (rst-holds p.flags fits.flags_fit)

-- ---- all boxes

any-flat : {A B : Type 0} (test : B → Bool) (rows : A → List B) (xs : List A)
    → list_any test (flat_map rows xs) ≡ list_any (λ x. list_any test (rows x)) xs
any-flat test rows [] = refl
any-flat test rows (x ∷ xs) =
    list_any-append test (rows x) (flat_map rows xs) ∙ ap (λ b. list_any test (rows x) || b) (any-flat test rows xs)

any-as : {A : Type 0} (p q : A → Bool) → ((x : A) → p x ≡ q x) → (xs : List A) → list_any p xs ≡ list_any q xs
any-as p q h [] = refl
any-as p q h (x ∷ xs) = ap (λ b. b || list_any p xs) (h x) ∙ ap (λ b. q x || b) (any-as p q h xs)

right-out : (p q b : Bool) → ((p && b) || (q && b)) ≡ ((p || q) && b)
right-out true true true = refl
right-out true true false = refl
right-out true false true = refl
right-out true false false = refl
right-out false q b = refl

any-right : {A : Type 0} (test : A → Bool) (b : Bool) (xs : List A) → list_any (λ x. test x && b) xs ≡ (list_any test xs && b)
any-right test b [] = refl
any-right test b (x ∷ xs) = ap (λ c. (test x && b) || c) (any-right test b xs) ∙ right-out (test x) (list_any test xs) b

-- The addresses and the ports apart from the rest.
parted : (s d h sp dp ty co o : Bool) → together s d h sp dp ty co o ≡ (((s && d) && (sp && dp)) && (h && (ty && (co && o))))
parted false d h sp dp ty co o = refl
parted true false h sp dp ty co o = refl
parted true true false false dp ty co o = refl
parted true true false true false ty co o = refl
parted true true false true true ty co o = refl
parted true true true false dp ty co o = refl
parted true true true true false ty co o = refl
parted true true true true true ty co o = refl

regrouped : (a q h ty co o : Bool) → ((a && q) && (h && (ty && (co && o)))) ≡ ((h && a) && (q && ((ty && (co && true)) && o)))
regrouped false q true ty co o = refl
regrouped false q false ty co o = refl
regrouped true false true ty co o = refl
regrouped true false false ty co o = refl
regrouped true true false ty co o = refl
regrouped true true true false co o = refl
regrouped true true true true false o = refl
regrouped true true true true true o = refl

pub are-boxes : TermsAreBoxes
unfolding matches boxes_of
are-boxes mode t p is =
    let f = p.family in
    let fits = fields-fit p is in
    let o : Bool = passes t.option mode t.dport_named p in
    let h : Bool = holds (protocols_in f t).ranges p.proto in
    let ty : Bool = holds t.itypes.ranges p.itype in
    let co : Bool = holds t.icodes.ranges p.icode in
    let rest : Bool = h && (ty && (co && o)) in
    sym (any-flat (has p) (λ pair. passing t.option mode t.dport_named (pair_box f t pair)) (pairs_of t)
    ∙ any-as (λ pair. list_any (has p) (passing t.option mode t.dport_named (pair_box f t pair))) (λ pair. pair_has f t p pair && rest)
    (λ pair. by-option t.option mode f t pair p fits
    ∙ parted (holds (sources_on pair.addresses f t).ranges p.src) (holds (destinations_on pair.addresses f t).ranges p.dst) h
    (holds (sports_on pair.ports t).ranges p.sport) (holds (dports_on pair.ports t).ranges p.dport) ty co o) (pairs_of t)
    ∙ any-right (pair_has f t p) rest (pairs_of t)
    ∙ ap (λ b. b && rest) (sym (match-by-pairs f t p))
    ∙ regrouped (addresses_match f t p) (ports_match t p) h ty co o
    ∙ ap (λ b. (b && addresses_match f t p) && (ports_match t p && (icmp_match f t p && o))) (protocol-holds f t p.proto)
    ∙ sym (by-parts f mode t p))

-- ---- what fails

neither : (x y : Bool) → ((not x && (not y && true)) || false) ≡ not (x || y)
neither true y = refl
neither false true = refl
neither false false = refl

fail-addresses : (t : Term) (p : Packet) → FieldsFit p
    → list_any (has p) (failing_addresses p.family t) ≡ not (holds_either (either_in p.family t) p.src p.dst)
fail-addresses t p fits = by t.addr_named refl
  where
    by : (b : Bool) → t.addr_named ≡ b
        → list_any (has p) (cond b (record (everything p.family) { sources = outside (either_in p.family t); destinations = outside (either_in p.family t) } ∷ []) [])
        ≡ not (holds_either (either_in p.family t) p.src p.dst)
    by true e =
        let all = are-all p fits in
        let within = (packet-back p fits).0 in
        rw (
          outside-holds _ (either_in p.family t) p.src (either-set p.family t) within.0,
          outside-holds _ (either_in p.family t) p.dst (either-set p.family t) within.1.0,
          all.protocol,
          all.source_port,
          all.destination_port,
          all.kind,
          all.code,
          all.flag,
          all.connection,
        ) (neither (holds (either_in p.family t).ranges p.src) (holds (either_in p.family t).ranges p.dst))
    by false e =
        let within = (packet-back p fits).0 in
        sym (ap (λ x. not (x || holds (either_in p.family t).ranges p.dst)) (either-all p.family t p.src e within.0))

fail-ports : (t : Term) (p : Packet) → FieldsFit p
    → list_any (has p) (failing_ports p.family t) ≡ not (holds_either t.ports p.sport p.dport)
fail-ports t p fits = by t.port_named refl
  where
    by : (b : Bool) → t.port_named ≡ b
        → list_any (has p) (cond b (record (everything p.family) { source_ports = outside t.ports; destination_ports = outside t.ports } ∷ []) [])
        ≡ not (holds_either t.ports p.sport p.dport)
    by true e =
        let all = are-all p fits in
        let within = (packet-back p fits).0 in
        rw (
          all.source,
          all.destination,
          all.protocol,
          outside-holds 65535 t.ports p.sport (ports-set t) within.1.1.1.0,
          outside-holds 65535 t.ports p.dport (ports-set t) within.1.1.1.1.0,
          all.kind,
          all.code,
          all.flag,
          all.connection,
        ) (neither (holds t.ports.ranges p.sport) (holds t.ports.ranges p.dport))
    by false e =
        let within = (packet-back p fits).0 in
        sym (ap (λ x. not (x || holds t.ports.ranges p.dport)) (ports-all t p.sport e within.1.1.1.0))

last : (x : Bool) → ((x && true) || false) ≡ x
last true = refl
last false = refl

fail-flags : (p : Packet) (flags : Numbers) (c : Bool) → FieldsFit p → holds flags.ranges (place_of_flags p.flags) ≡ c
    → list_any (has p) (record (everything p.family) { flags = flags } ∷ []) ≡ c
fail-flags p flags c fits e =
    let all = are-all p fits in
    rw (
      all.source,
      all.destination,
      all.protocol,
      all.source_port,
      all.destination_port,
      all.kind,
      all.code,
      e,
      all.connection,
    ) (last c)

fail-connection : (p : Packet) → FieldsFit p
    → list_any (has p) (record (everything p.family) { connections = untracked } ∷ []) ≡ not (is_tracked p.conn)
fail-connection p fits =
    let all = are-all p fits in
    rw (
      all.source,
      all.destination,
      all.protocol,
      all.source_port,
      all.destination_port,
      all.kind,
      all.code,
      all.flag,
      untracked-holds p.conn,
    ) (last (not (is_tracked p.conn)))

new-tcp : (p : Packet) → FieldsFit p
    → has p (record (everything p.family) { protocols = tcp; flags = neither_ack_nor_rst }) ≡ ((p.proto == 6) && (not (has_ack_or_rst p) && true))
new-tcp p fits =
    let all = are-all p fits in
    let proto = fits.numbers Protocol in
    rw (
      all.source,
      all.destination,
      tcp-holds p.proto (omega (arith, proto)),
      all.source_port,
      all.destination_port,
      all.kind,
      all.code,
      neither-holds p.flags fits.flags_fit,
      all.connection,
    ) refl

new-others : (p : Packet) → FieldsFit p
    → has p (record (everything p.family) { protocols = but_tcp; destination_ports = server_ports }) ≡ (not (p.proto == 6) && (not (nat_le 1024 p.dport) && true))
new-others p fits =
    let all = are-all p fits in
    let proto = fits.numbers Protocol in
    rw (
      all.source,
      all.destination,
      but-tcp-holds p.proto (omega (arith, proto)),
      all.source_port,
      server-holds p.dport (fits.numbers DestinationPort),
      all.kind,
      all.code,
      all.flag,
      all.connection,
    ) refl

new-named : (n ack : Bool) → ((n && (not ack && true)) || false) ≡ not (cond n ack true)
new-named true true = refl
new-named true false = refl
new-named false ack = refl

new-client : (n ack client : Bool) → ((n && (not ack && true)) || ((not n && (not client && true)) || false)) ≡ not (cond n ack client)
new-client true true client = refl
new-client true false client = refl
new-client false ack true = refl
new-client false ack false = refl

fail-established : (p : Packet) (named : Bool) → FieldsFit p
    → list_any (has p) (seeming_new p.family named) ≡ not (passes Established Stateless named p)
fail-established p true fits = ap (λ x. x || false) (new-tcp p fits) ∙ new-named (p.proto == 6) (has_ack_or_rst p)
fail-established p false fits =
    rw (new-tcp p fits, new-others p fits) (new-client (p.proto == 6) (has_ack_or_rst p) (nat_le 1024 p.dport))

fail-option : (o : Opt) (mode : Mode) (named : Bool) (p : Packet) → FieldsFit p
    → list_any (has p) (failing o mode named p.family) ≡ not (passes o mode named p)
fail-option Plain mode named p fits = refl
fail-option Established Stateful named p fits = fail-connection p fits
fail-option Established Stateless named p fits = fail-established p named fits
fail-option TcpEstablished Stateful named p fits = fail-connection p fits
fail-option TcpEstablished Stateless named p fits =
    fail-flags p neither_ack_nor_rst (not (has_ack_or_rst p)) fits (neither-holds p.flags fits.flags_fit)
fail-option TcpInitial mode named p fits =
    fail-flags p not_initial (not (is_initial p)) fits (not-initial-holds p.flags fits.flags_fit)
fail-option Rst mode named p fits =
    fail-flags p no_rst (not (has_flag p.flags 4)) fits (no-rst-holds p.flags fits.flags_fit)

failed : (s d h sp dp ty co a b o : Bool)
    → (together s d h sp dp ty co true && not (not a || (not b || not o)))
    ≡ ((h && (s && (d && a))) && ((sp && (dp && b)) && ((ty && (co && true)) && o)))
failed false d true sp dp ty co a b o = refl
failed false d false sp dp ty co a b o = refl
failed true false true sp dp ty co a b o = refl
failed true false false sp dp ty co a b o = refl
failed true true false sp dp ty co a b o = refl
failed true true true false dp ty co false b o = refl
failed true true true true false ty co false b o = refl
failed true true true true true false co false b o = refl
failed true true true true true true false false b o = refl
failed true true true true true true true false b o = refl
failed true true true false dp ty co true b o = refl
failed true true true true false ty co true b o = refl
failed true true true true true false co true false o = refl
failed true true true true true true false true false o = refl
failed true true true true true true true true false o = refl
failed true true true true true false co true true o = refl
failed true true true true true true false true true o = refl
failed true true true true true true true true true true = refl
failed true true true true true true true true true false = refl

pub fail-in-boxes : TermsFailInBoxes
unfolding matches failing_boxes
fail-in-boxes mode t p is =
    let f = p.family in
    let fits = fields-fit p is in
    let all = are-all p fits in
    let whole : SidePair = record { addresses = Whole; ports = Whole } in
    let o : Bool = passes t.option mode t.dport_named p in
    let h : Bool = holds (protocols_in f t).ranges p.proto in
    let a : Bool = holds_either (either_in f t) p.src p.dst in
    let b : Bool = holds_either t.ports p.sport p.dport in
    let own : Bool = has p (own_box f t) in
    let options = failing t.option mode t.dport_named f in
    sym (ap (λ x. own && not x) (list_any-append (has p) (failing_addresses f t) (failing_ports f t ++ options))
    ∙ ap (λ x. own && not (list_any (has p) (failing_addresses f t) || x)) (list_any-append (has p) (failing_ports f t) options)
    ∙ ap (λ x. own && not (x || (list_any (has p) (failing_ports f t) || list_any (has p) options))) (fail-addresses t p fits)
    ∙ ap (λ x. own && not (not a || (x || list_any (has p) options))) (fail-ports t p fits)
    ∙ ap (λ x. own && not (not a || (not b || x))) (fail-option t.option mode t.dport_named p fits)
    ∙ ap (λ x. x && not (not a || (not b || not o))) (flagged f t whole p (up_to 63) (up_to 3) true true all.flag all.connection)
    ∙ failed (holds (source_in f t).ranges p.src) (holds (destination_in f t).ranges p.dst) h (holds t.sports.ranges p.sport)
    (holds t.dports.ranges p.dport) (holds t.itypes.ranges p.itype) (holds t.icodes.ranges p.icode) a b o
    ∙ ap (λ x. (x && addresses_match f t p) && (ports_match t p && (icmp_match f t p && o))) (protocol-holds f t p.proto)
    ∙ sym (by-parts f mode t p))
