-- Texts of packets: what is read is the packet of its text, and a packet's text is read.
use Rattle.std.proofs.Common.{◌≡◌, ◌↔◌, ◌≢◌, ℕ, ◌^◌, ◌<◌, ◌≤◌, Bool, true, false, not, ◌||◌, ◌==◌, nat_le, List, [], ◌∷◌, ◌++◌, codes, decimal, Option, None, Some, IfSome, IfNone, IsTrue, inl, inr, refl, ap, sym, subst, ◌∙◌, append-nil, arith, lit<}
use Rattle.std.specs.Str.{bytes_eq}
use Rattle.std.specs.Bool.{Decides}
use Rattle.std.proofs.lemmas.Bool.{cond-true, cond-false, leb-true, le-leb, both_ways, eq-eqb, eqb-true, or_parts}
use Rattle.std.proofs.lemmas.Bool.Decides.{Decides-and, Decides-eqb, Decides-ltb, same_from_decides}
use Rattle.std.proofs.lemmas.Option.{none-some, same_Some}
use Rattle.acl_packet.specs.Addresses.{same_family, width_of}
use Rattle.acl_packet.specs.Decimals.{number_in}
use Rattle.acl_packet.specs.Packets.{IsPacket, is_extension_header, number_of, top_of}
use Rattle.acl_packet.specs.declared.addresses.Family.{Family}
use Rattle.acl_packet.specs.declared.addresses.Family.TheVariants.{V4, V6}
use Rattle.acl_packet.specs.declared.addresses.Prefix.{Prefix}
use Rattle.acl_packet.specs.declared.packet_fields.Field.TheVariants.{Protocol, SourcePort, DestinationPort, IcmpType, IcmpCode}
use Rattle.acl_packet.specs.declared.packets.Conn.{Conn}
use Rattle.acl_packet.specs.declared.packets.Conn.TheVariants.{New, Established, Related, Invalid}
use Rattle.acl_packet.specs.declared.packets.Packet.{Packet}
use Rattle.acl_packet.proofs.ChoiceLaws.{chosen, guarded, refused}
use Rattle.acl_packet.proofs.DecimalLaws.{number-again, number-found}
use Rattle.acl_packet.proofs.FieldLaws.{absent_law, all-are}
use Rattle.acl_text.specs.AddressTexts.{IsAddressText, address_text, block_of, prefix_in}
use Rattle.acl_text.specs.Cuts.{cut_at, has_byte}
use Rattle.acl_text.proofs.AddressLaws.{prefix-in, prefix-is}
use Rattle.acl_text.proofs.CutLaws.{cut-again, cut-found}
use Rattle.acl_text.proofs.DigitLaws.{decimal-lacks}
use Rattle.acl_text.proofs.Dotted.{ipv4-lacks, ipv4-printed}
use Rattle.acl_text.proofs.OptionStepLaws.{bound, bound_on, same_bytes}
use Rattle.acl_text.proofs.Printed.{IsForeign, ipv6-lacks, ipv6-printed}
use Rattle.acl_rows.specs.Rows.{spaced}
use Rattle.acl_options.specs.PacketTexts.{IsPacketText, conn_text, packet_text, words_behind}
use Rattle.acl_options.specs.PacketTextSteps.{address_ahead, alone_in, conn_in, fits, number_ahead, packet_behind, packet_in}

-- ---- the fields

implies : (b c : Bool) → Decides (not b || not c) (b ≡ true → c ≡ false)
implies true true = (λ e _. absurd (both_ways false refl e), λ h. absurd (both_ways true (h refl) refl))
implies true false = (λ _ _. refl, λ _. refl)
implies false c = (λ _ e. absurd (both_ways false refl e), λ _. refl)

is-v6 : (f : Family) → (same_family V6 f ≡ true) ↔ (f ≡ V6)
is-v6 V4 = (λ e. absurd (both_ways false refl e), λ e. absurd cc)
is-v6 V6 = (λ _. refl, λ _. refl)

tcp-or : (n m : ℕ) → Decides (n == 6 || m == 0) (n ≢ 6 → m ≡ 0)
tcp-or n m = by (n == 6) (Decides-eqb n 6)
  where
    by : (b : Bool) → Decides b (n ≡ 6) → Decides (b || m == 0) (n ≢ 6 → m ≡ 0)
    by true d = (λ _ other. absurd (other (d.0 refl)), λ _. refl)
    by false d = (λ h _. eqb-true m 0 h, λ k. (Decides-eqb m 0).1 (k (λ e. both_ways false refl (d.1 e))))

no-header : (f : Family) (n : ℕ) → Decides (not (same_family V6 f) || not (is_extension_header n)) (f ≡ V6 → is_extension_header n ≡ false)
no-header f n =
    let i = implies (same_family V6 f) (is_extension_header n) in
    (λ h e. i.0 h ((is-v6 f).1 e), λ k. i.1 (λ e. k ((is-v6 f).0 e)))

at-most : (m n : ℕ) → (nat_le m n ≡ true) ↔ (m ≤ n)
at-most m n = (leb-true m n, le-leb m n)

fits-is : (p : Packet) → Decides (fits p) (IsPacket p)
unfolding fits
fits-is p =
    let width = 2 ^ width_of p.family in
    let numbers = all-are (λ field. nat_le (number_of field p) (top_of field)) (λ field. number_of field p ≤ top_of field)
    (λ field. at-most (number_of field p) (top_of field)) in
    let flags = Decides-and _ _ (Decides-ltb p.flags 64) (tcp-or p.proto p.flags) in
    let fields = Decides-and _ _ numbers (Decides-and _ _ (absent_law p) flags) in
    let d = Decides-and _ _ (Decides-ltb p.src width) (Decides-and _ _ (Decides-ltb p.dst width) (Decides-and _ _ (no-header p.family p.proto) fields)) in (
      λ h. let k = d.0 h in
          record {
            source = k.0;
            destination = k.1.0;
            no_header = k.1.1.0;
            numbers = k.1.1.1.0;
            absent = k.1.1.1.1.0;
            flags_fit = k.1.1.1.1.1.0;
            flags_of_tcp = k.1.1.1.1.1.1;
          },
      λ is. d.1 (is.source, (is.destination, (is.no_header, (is.numbers, (is.absent, (is.flags_fit, is.flags_of_tcp)))))),
    )

pub fits-as : (p : Packet) (b : Bool) → (IsTrue b ↔ IsPacket p) → b ≡ fits p
fits-as p b is = same_from_decides b (fits p) is (fits-is p)

-- ---- words

pub number-ahead : (most n : ℕ) (rest : List ℕ) → most < 2 ^ 64 → n ≤ most → number_ahead most (decimal n ++ 32 ∷ rest) ≡ Some (n, rest)
unfolding number_ahead
number-ahead most n rest small h =
    let wide : n < 2 ^ 128 = omega (arith, small, h) in
    bound_on (cut_at 32 (decimal n ++ 32 ∷ rest)) (decimal n, rest) _ (n, rest) (cut-again 32 (decimal n) rest (decimal-lacks 32 n wide refl))
    (bound_on (number_in most (decimal n)) n _ (n, rest) (number-again most n wide h) refl)

abbrev Ahead : Type 0
Ahead = ℕ × List ℕ

ahead-number : (most : ℕ) (text : List ℕ) (a : Ahead) → most < 2 ^ 64 → number_ahead most text ≡ Some a → (text ≡ decimal a.0 ++ 32 ∷ a.1) × (a.0 ≤ most)
unfolding number_ahead
ahead-number most text a small e =
    let w = bound (cut_at 32 text) _ a e in
    let n = bound (number_in most w.0.0) _ a w.2 in
    let cut = cut-found 32 text w.0.0 w.0.1 w.1 in
    let is = number-found most n.0 w.0.0 small n.1 in
    let same : (n.0, w.0.1) ≡ a = same_Some (n.0, w.0.1) a n.2 in
    let P : Ahead → Type 0 = λ b. (text ≡ decimal b.0 ++ 32 ∷ b.1) × (b.0 ≤ most) in
    subst P same (cut.0 ∙ ap (λ t. t ++ 32 ∷ w.0.1) is.0, is.1)

conn-is : (word : List ℕ) (c : Conn) → conn_in word ≡ Some c → word ≡ conn_text c
unfolding conn_in
conn-is word c e = elim (chosen (bytes_eq word (codes "new")) (Some New) _ (Some c) e) [
  | inl h ↦ same_bytes word (codes "new") h.0 ∙ ap conn_text (same_Some New c h.1)
  | inr h ↦ elim (chosen (bytes_eq word (codes "established")) (Some Established) _ (Some c) h.1) [
    | inl k ↦ same_bytes word (codes "established") k.0 ∙ ap conn_text (same_Some Established c k.1)
    | inr k ↦ elim (chosen (bytes_eq word (codes "related")) (Some Related) _ (Some c) k.1) [
      | inl l ↦ same_bytes word (codes "related") l.0 ∙ ap conn_text (same_Some Related c l.1)
      | inr l ↦
          let g = guarded (bytes_eq word (codes "invalid")) (Some Invalid) c l.1 in
          same_bytes word (codes "invalid") g.0 ∙ ap conn_text (same_Some Invalid c g.1)
    ]
  ]
]

is-conn : (c : Conn) → conn_in (conn_text c) ≡ Some c
unfolding conn_in
is-conn New = refl
is-conn Established = refl
is-conn Related = refl
is-conn Invalid = refl

-- ---- addresses

lacks : (f : Family) (c n : ℕ) (word : List ℕ) → IsAddressText f word n → IsForeign c → has_byte c word ≡ false
lacks V4 c n word h w = ipv4-lacks c word n h w.digit w.dot
lacks V6 c n word h w = ipv6-lacks c word n h w

whole : (f : Family) (n : ℕ) → (block_of f n (width_of f)).first ≡ n
whole V4 n = omega arith
whole V6 n = omega arith

lacks-not : (c : ℕ) (xs ys : List ℕ) → has_byte c (xs ++ c ∷ ys) ≡ false → ⊥
lacks-not c [] ys h = both_ways (c == c) (or_parts (c == c) (has_byte c ys) h).0 (eq-eqb c c refl)
lacks-not c (x ∷ xs) ys h = lacks-not c xs ys (or_parts (x == c) (has_byte c (xs ++ c ∷ ys)) h).1

slash : IsForeign 47
slash = record { hex = refl; digit = refl; dot = refl; colon = refl }

space : IsForeign 32
space = record { hex = refl; digit = refl; dot = refl; colon = refl }

alone-is : (word : List ℕ) (p : Prefix) → alone_in word ≡ Some p → IsAddressText p.family word p.first
unfolding alone_in
alone-is word p e =
    let g = refused (has_byte 47 word) (prefix_in word) p e in
    let text = (prefix-is word p g.1).0 in
    elim text.length_is [
      | inl l ↦
          let first : p.first ≡ text.value = ap (λ (q : Prefix). q.first) text.cleared ∙ ap (λ k. (block_of p.family text.value k).first) l.1
          ∙ whole p.family text.value in
          let P : List ℕ → ℕ → Type 0 = λ t n. IsAddressText p.family t n in
          subst (λ t. P t p.first) (sym l.0) (subst (P text.address) (sym first) text.address_is)
      | inr l ↦ absurd (lacks-not 47 text.address l.0 (sym (ap (has_byte 47) l.1) ∙ g.0))
    ]

is-alone : (f : Family) (n : ℕ) (word : List ℕ) → IsAddressText f word n → alone_in word ≡ Some (block_of f n (width_of f))
unfolding alone_in
is-alone f n word h =
    cond-false (has_byte 47 word) None (prefix_in word) (lacks f 47 n word h slash)
    ∙ prefix-in word (block_of f n (width_of f)) (record { address = word; value = n; address_is = h; length_is = inl (refl, refl); cleared = refl })

abbrev Addressed : Type 0
Addressed = Prefix × List ℕ

pub ahead-address : (text : List ℕ) (a : Addressed) → address_ahead text ≡ Some a
    → (word : List ℕ) × (text ≡ word ++ 32 ∷ a.1) × IsAddressText a.0.family word a.0.first
unfolding address_ahead
ahead-address text a e =
    let w = bound (cut_at 32 text) _ a e in
    let p = bound (alone_in w.0.0) _ a w.2 in
    let same : (p.0, w.0.1) ≡ a = same_Some (p.0, w.0.1) a p.2 in
    let P : Addressed → Type 0 = λ b. (word : List ℕ) × (text ≡ word ++ 32 ∷ b.1) × IsAddressText b.0.family word b.0.first in
    subst P same (w.0.0, (cut-found 32 text w.0.0 w.0.1 w.1).0, alone-is w.0.0 p.0 p.1)

address-ahead : (f : Family) (n : ℕ) (word rest : List ℕ) → IsAddressText f word n
    → address_ahead (word ++ 32 ∷ rest) ≡ Some (block_of f n (width_of f), rest)
unfolding address_ahead
address-ahead f n word rest h =
    bound_on (cut_at 32 (word ++ 32 ∷ rest)) (word, rest) _ _ (cut-again 32 word rest (lacks f 32 n word h space))
    (bound_on (alone_in word) (block_of f n (width_of f)) _ _ (is-alone f n word h) refl)

-- ---- the words behind the addresses

small-8 : 255 < 2 ^ 64
small-8 = lit< tt

small-16 : 65535 < 2 ^ 64
small-16 = lit< tt

abbrev IsBehind : Family → ℕ → ℕ → List ℕ → Packet → Type 0
IsBehind f src dst text p = (32 ∷ text ≡ spaced (words_behind p)) × IsPacket p × (p.family ≡ f) × (p.src ≡ src) × (p.dst ≡ dst)

behind-is : (f : Family) (src dst : ℕ) (text : List ℕ) (p : Packet) → packet_behind f src dst text ≡ Some p → IsBehind f src dst text p
unfolding packet_behind
behind-is f src dst text p e =
    let q = bound (number_ahead 255 text) _ p e in
    let s = bound (number_ahead 65535 q.0.1) _ p q.2 in
    let d = bound (number_ahead 65535 s.0.1) _ p s.2 in
    let g = bound (number_ahead 255 d.0.1) _ p d.2 in
    let t = bound (number_ahead 255 g.0.1) _ p g.2 in
    let c = bound (number_ahead 255 t.0.1) _ p t.2 in
    let n = bound (conn_in c.0.1) _ p c.2 in
    let made : Packet = record {
      src = src;
      dst = dst;
      sport = s.0.0;
      dport = d.0.0;
      family = f;
      proto = q.0.0;
      flags = g.0.0;
      itype = t.0.0;
      icode = c.0.0;
      conn = n.0;
    } in
    let is = guarded (fits made) (Some made) p n.2 in
    let last = conn-is c.0.1 n.0 n.1 ∙ sym (append-nil (conn_text n.0)) in
    let code = (ahead-number 255 t.0.1 c.0 small-8 c.1).0 ∙ ap (λ x. decimal c.0.0 ++ 32 ∷ x) last in
    let type = (ahead-number 255 g.0.1 t.0 small-8 t.1).0 ∙ ap (λ x. decimal t.0.0 ++ 32 ∷ x) code in
    let flags = (ahead-number 255 d.0.1 g.0 small-8 g.1).0 ∙ ap (λ x. decimal g.0.0 ++ 32 ∷ x) type in
    let dport = (ahead-number 65535 s.0.1 d.0 small-16 d.1).0 ∙ ap (λ x. decimal d.0.0 ++ 32 ∷ x) flags in
    let sport = (ahead-number 65535 q.0.1 s.0 small-16 s.1).0 ∙ ap (λ x. decimal s.0.0 ++ 32 ∷ x) dport in
    let proto = (ahead-number 255 text q.0 small-8 q.1).0 ∙ ap (λ x. decimal q.0.0 ++ 32 ∷ x) sport in
    subst (IsBehind f src dst text) (same_Some made p is.1) (ap (λ x. 32 ∷ x) proto, (fits-is made).0 is.0, refl, refl, refl)

-- The same words, without the first space.
abbrev behind_text : Packet → List ℕ
behind_text p = decimal p.proto ++ 32 ∷ (decimal p.sport ++ 32 ∷ (decimal p.dport ++ 32 ∷ (decimal p.flags ++ 32 ∷ (decimal p.itype ++ 32
    ∷ (decimal p.icode ++ 32 ∷ (conn_text p.conn ++ []))))))

is-behind : (p : Packet) → IsPacket p → packet_behind p.family p.src p.dst (behind_text p) ≡ Some p
unfolding packet_behind
is-behind p h =
    let flags : p.flags ≤ 255 = omega (arith, h.flags_fit) in
    bound_on _ _ _ p (number-ahead 255 p.proto _ small-8 (h.numbers Protocol))
    (bound_on _ _ _ p (number-ahead 65535 p.sport _ small-16 (h.numbers SourcePort))
    (bound_on _ _ _ p (number-ahead 65535 p.dport _ small-16 (h.numbers DestinationPort))
    (bound_on _ _ _ p (number-ahead 255 p.flags _ small-8 flags)
    (bound_on _ _ _ p (number-ahead 255 p.itype _ small-8 (h.numbers IcmpType))
    (bound_on _ _ _ p (number-ahead 255 p.icode _ small-8 (h.numbers IcmpCode))
    (bound_on _ p.conn _ p (ap conn_in (append-nil (conn_text p.conn)) ∙ is-conn p.conn)
    (cond-true (fits p) (Some p) None ((fits-is p).1 h))))))))

-- ---- the whole

same-family : (f g : Family) → same_family f g ≡ true → g ≡ f
same-family V4 V4 e = refl
same-family V4 V6 e = absurd (both_ways false refl e)
same-family V6 V4 e = absurd (both_ways false refl e)
same-family V6 V6 e = refl

self : (f : Family) → same_family f f ≡ true
self V4 = refl
self V6 = refl

pub packet-is : (text : List ℕ) (p : Packet) → packet_in text ≡ Some p → IsPacketText text p
unfolding packet_in
packet-is text p e =
    let s = bound (address_ahead text) _ p e in
    let d = bound (address_ahead s.0.1) _ p s.2 in
    let g = guarded (same_family s.0.0.family d.0.0.family) (packet_behind s.0.0.family s.0.0.first d.0.0.first d.0.1) p d.2 in
    let b = behind-is s.0.0.family s.0.0.first d.0.0.first d.0.1 p g.1 in
    let source = ahead-address text s.0 s.1 in
    let destination = ahead-address s.0.1 d.0 d.1 in
    let family : d.0.0.family ≡ p.family = same-family s.0.0.family d.0.0.family g.0 ∙ sym b.2 in
    let P : List ℕ → Family → ℕ → Type 0 = λ t f n. IsAddressText f t n in
    record {
      source = source.0;
      destination = destination.0;
      source_is = subst (λ n. P source.0 p.family n) (sym b.3) (subst (λ f. P source.0 f s.0.0.first) (sym b.2) source.2);
      destination_is = subst (λ n. P destination.0 p.family n) (sym b.4) (subst (λ f. P destination.0 f d.0.0.first) family destination.2);
      words_are = source.1 ∙ ap (λ t. source.0 ++ 32 ∷ t) (destination.1 ∙ ap (λ t. destination.0 ++ t) b.0);
      packet = b.1;
    }

pub is-packet : (text : List ℕ) (p : Packet) → IsPacketText text p → packet_in text ≡ Some p
unfolding packet_in
is-packet text p h =
    ap packet_in h.words_are
    ∙ bound_on _ _ _ p (address-ahead p.family p.src h.source (h.destination ++ 32 ∷ behind_text p) h.source_is)
    (bound_on _ _ _ p (address-ahead p.family p.dst h.destination (behind_text p) h.destination_is)
    (cond-true (same_family p.family p.family) _ None (self p.family)
    ∙ ap (λ n. packet_behind p.family n (block_of p.family p.dst (width_of p.family)).first (behind_text p)) (whole p.family p.src)
    ∙ ap (λ n. packet_behind p.family p.src n (behind_text p)) (whole p.family p.dst)
    ∙ is-behind p h.packet))

pub packet_some : (text : List ℕ) (o : Option Packet) → o ≡ packet_in text → IfSome o (λ p. IsPacketText text p)
packet_some text None e = tt
packet_some text (Some p) e = packet-is text p (sym e)

pub packet_none : (text : List ℕ) (o : Option Packet) → o ≡ packet_in text → IfNone o ((p : Packet) → IsPacketText text p → ⊥)
packet_none text None e = λ p h. none-some p (e ∙ is-packet text p h)
packet_none text (Some p) e = tt

pub packet-one : (text : List ℕ) (p q : Packet) → IsPacketText text p → IsPacketText text q → p ≡ q
packet-one text p q h k = same_Some p q (sym (is-packet text p h) ∙ is-packet text q k)

printed : (f : Family) (n : ℕ) → n < 2 ^ width_of f → IsAddressText f (address_text f n) n
printed V4 n h = ipv4-printed n h
printed V6 n h = ipv6-printed n h

pub packet-printed : (p : Packet) → IsPacket p → IsPacketText (packet_text p) p
unfolding packet_text
packet-printed p h = record {
  source = address_text p.family p.src;
  destination = address_text p.family p.dst;
  source_is = printed p.family p.src h.source;
  destination_is = printed p.family p.dst h.destination;
  words_are = refl;
  packet = h;
}

pub packet-again : (p : Packet) → IsPacket p → packet_in (packet_text p) ≡ Some p
packet-again p h = is-packet (packet_text p) p (packet-printed p h)
