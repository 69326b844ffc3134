-- When a term shades another: the function says what the relation says.
use Rattle.std.proofs.Common.{◌≡◌, ◌↔◌, ◌⊎◌, Bool, true, false, not, ◌&&◌, ◌||◌, List, [], ◌∷◌, get_or, ℕ, inl, inr, refl, sym, subst, ◌∙◌}
use Rattle.std.specs.List.{list_all, list_any}
use Rattle.std.proofs.lemmas.Bool.{and_from, and_parts, both_ways, cases_Bool, or_cases, or_left, or_right}
use Rattle.std.proofs.lemmas.List.Elements.{All-contains, Contains-get_or}
use Rattle.std.proofs.lemmas.List.Folds.{Any-from_list_any, list_any-from_Any}
use Rattle.std.proofs.lemmas.List.Sums.{AllPass-from_list_all, list_all-from_AllPass}
use Rattle.acl_packet.specs.declared.addresses.Family.{Family}
use Rattle.acl_packet.specs.declared.addresses.Family.TheVariants.{V4, V6}
use Rattle.acl_packet.specs.declared.packet_fields.Field.{Field}
use Rattle.acl_packet.specs.declared.packet_fields.Field.TheVariants.{Protocol, SourcePort, DestinationPort}
use Rattle.acl_packet.specs.Packets.{icmp_fields, top_of}
use Rattle.acl_host.specs.declared.days.Day.{Day}
use Rattle.acl_naming.specs.Ports.{top_port}
use Rattle.acl_target.specs.declared.targets.Target.{Target}
use Rattle.acl_terms.specs.declared.options.Opt.{Opt}
use Rattle.acl_terms.specs.declared.options.Opt.TheVariants.{Plain, Established, TcpEstablished, TcpInitial, Rst}
use Rattle.acl_terms.specs.declared.terms.Term.{Term}
use Rattle.acl_terms.specs.Resolved.{IsEmptyIn, IsTermLive, has_number, is_empty_in, is_term_live, set_in}
use Rattle.acl_terms.specs.Soundness.{is_protocol}
use Rattle.acl_terms.proofs.EmptyLaws.{empty-law}
use Rattle.acl_terms.proofs.FieldLaws.{others-held, others-pass, protocol-alone}
use Rattle.acl_terms.proofs.LifeLaws.{live-law}
use Rattle.acl_terms.proofs.TestLaws.{true-not}
use Rattle.acl_shade.specs.ComputableShading.{field_within, is_live_where, lies_within_in_each, option_covers, shades, some_within}
use Rattle.acl_shade.specs.Shading.{IsLiveWhere, LiesWithin, LiesWithinInEach, OptionCovers, PortsNamed, Shades, SomeLiesWithin}
use Rattle.acl_shade.proofs.FamilyLaws.{AddressesWithin, each-law, field-normal, normal-at, some-law, within-law}

-- ---- fields

field-law : (i j : Term) (field : Field) → (field_within i j field ≡ true) ↔ LiesWithin (set_in field j) (set_in field i)
field-law i j field = within-law (top_of field) (set_in field j) (set_in field i) (field-normal j field) (field-normal i field)

either-ports-law : (i j : Term) → (some_within (j.ports ∷ j.sports ∷ j.dports ∷ []) i.ports ≡ true)
    ↔ SomeLiesWithin (j.ports ∷ j.sports ∷ j.dports ∷ []) i.ports
either-ports-law i j = some-law top_port j.ports j.sports j.dports i.ports
    (normal-at j.ports top_port j.sound.ports_top j.sound.ports_normal)
    (field-normal j SourcePort) (field-normal j DestinationPort)
    (normal-at i.ports top_port i.sound.ports_top i.sound.ports_normal)

-- ---- families

each-number : (f : Family) (i j : Term) → AddressesWithin f i j
    → ((field : Field) → is_protocol field ≡ false → field_within i j field ≡ true)
    → (field : Field) (n : ℕ) → has_number f j field n ≡ true → has_number f i field n ≡ true
each-number f i j w others field n h = elim (cases_Bool (is_protocol field)) [
  | inl e ↦ subst (λ g. has_number f j g n ≡ true → has_number f i g n ≡ true) (sym (protocol-alone field e)) (w.protocols n) h
  | inr e ↦ others-held f i field n e
      ∙ (field-law i j field).0 (others field e) n (sym (others-held f j field n e) ∙ h)
]

-- A family in which the term is not empty.
some-family : (j : Term) → ((IsEmptyIn V4 j × IsEmptyIn V6 j) → ⊥) → (f : Family) × (IsEmptyIn f j → ⊥)
some-family j some = elim (cases_Bool (is_empty_in V4 j)) [
  | inl e ↦ (V6, λ empty. some ((empty-law V4 j).0 e, empty))
  | inr e ↦ (V4, λ empty. both_ways (is_empty_in V4 j) e ((empty-law V4 j).1 empty))
]

packets-law : (i j : Term)
    → (((lies_within_in_each i j) ≡ true) × ((field : Field) → is_protocol field ≡ false → field_within i j field ≡ true))
    ↔ LiesWithinInEach i j
packets-law i j = (
  λ h. let e = (each-law i j).0 h.0 in record {
    some = e.some;
    each = λ f some. let w = e.each f some in record {
      source = w.source;
      destination = w.destination;
      either = w.either;
      numbers = each-number f i j w h.1;
    };
  },
  λ w. (
    (each-law i j).1 (record {
      some = w.some;
      each = λ f some. let v = w.each f some in record {
        source = v.source;
        destination = v.destination;
        either = v.either;
        protocols = v.numbers Protocol;
      };
    }),
    λ field e. let f = some-family j w.some in
        (field-law i j field).1 (λ n h. sym (others-held f.0 i field n e)
        ∙ (w.each f.0 f.1).numbers field n (others-held f.0 j field n e ∙ h)),
  ),
)

-- Of a field that is not the protocol, the numbers of the one lie within those of the other.
pub others-within : (i j : Term) → LiesWithinInEach i j → (field : Field) → is_protocol field ≡ false
    → LiesWithin (set_in field j) (set_in field i)
others-within i j w field e = (field-law i j field).0 (((packets-law i j).1 w).1 field e)

-- ---- options

option-forth : (o q : Opt) (i j : Term) → option_covers o i.dport_named q j.dport_named ≡ true
    → (o ≡ Plain) ⊎ ((o ≡ q) × PortsNamed o i j)
option-forth Plain q i j h = inl refl
option-forth Established Established i j h = inr (
  refl,
  elim (or_cases i.dport_named (not j.dport_named) h) [
    | inl a ↦ inl a
    | inr b ↦ inr ((true-not j.dport_named).0 b)
  ],
)
option-forth TcpEstablished TcpEstablished i j h = inr (refl, tt)
option-forth TcpInitial TcpInitial i j h = inr (refl, tt)
option-forth Rst Rst i j h = inr (refl, tt)
option-forth o q i j h = absurd (both_ways false refl h)

same-option : (o : Opt) (i j : Term) → PortsNamed o i j → option_covers o i.dport_named o j.dport_named ≡ true
same-option Plain i j h = refl
same-option Established i j h = elim h [
  | inl a ↦ or_left i.dport_named (not j.dport_named) a
  | inr b ↦ or_right i.dport_named (not j.dport_named) ((true-not j.dport_named).1 b)
]
same-option TcpEstablished i j h = refl
same-option TcpInitial i j h = refl
same-option Rst i j h = refl

option-back : (o q : Opt) (i j : Term) → (o ≡ Plain) ⊎ ((o ≡ q) × PortsNamed o i j)
    → option_covers o i.dport_named q j.dport_named ≡ true
option-back o q i j h = elim h [
  | inl e ↦ subst (λ c. option_covers c i.dport_named q j.dport_named ≡ true) (sym e) refl
  | inr p ↦ subst (λ c. option_covers o i.dport_named c j.dport_named ≡ true) p.0 (same-option o i j p.1)
]

option-law : (i j : Term)
    → (option_covers i.option i.dport_named j.option j.dport_named ≡ true) ↔ OptionCovers i j
option-law i j = (option-forth i.option j.option i j, option-back i.option j.option i j)

-- ---- life

-- where the one holds, the other does
follows : {P Q : Type 0} (a b : Bool) → (a ≡ true) ↔ P → (b ≡ true) ↔ Q → ((not a || b) ≡ true) ↔ (P → Q)
follows true b p q = (λ h _. q.0 h, λ h. q.1 (h (p.0 refl)))
follows false b p q = (λ _ h. absurd (both_ways false refl (p.1 h)), λ _. refl)

life-law : (targets : List Target) (today : Day) (i j : Term)
    → (is_live_where targets today i j ≡ true) ↔ IsLiveWhere targets today i j
life-law targets today i j =
    let live : Target → Bool = λ g. is_term_live j g.kind today in
    let kept : Target → Bool = λ g. not (is_term_live j g.kind today) || is_term_live i g.kind today in
    let each : (g : Target) → (kept g ≡ true) ↔ (IsTermLive j g.kind today → IsTermLive i g.kind today) =
    λ g. follows (is_term_live j g.kind today) (is_term_live i g.kind today) (live-law j g.kind today)
    (live-law i g.kind today) in (
      λ h. let p = and_parts (list_any live targets) (list_all kept targets) h in
          let some = Any-from_list_any live targets p.0 in
          record {
            somewhere = (some.1, (some.0, some.2, some.3), (live-law j some.1.kind today).0 some.4);
            everywhere = λ g within. (each g).0 (All-contains (λ t. kept t ≡ true) targets g
                (AllPass-from_list_all kept targets p.1) within);
          },
      λ w. and_from (list_any live targets) (list_all kept targets)
          (list_any-from_Any live targets (
            w.somewhere.1.0,
            w.somewhere.0,
            w.somewhere.1.1,
            w.somewhere.1.2,
            (live-law j w.somewhere.0.kind today).1 w.somewhere.2,
          ))
          (list_all-from_AllPass kept targets (λ k d within. (each (get_or targets k d)).1
          (w.everywhere (get_or targets k d) (Contains-get_or targets k d within)))),
    )

-- ---- shading

-- what is asked first and what is asked of packets
regrouped : (d s k t o e l : Bool) → ((((((d && s) && k) && t) && o) && (e && l)) ≡ true)
    ↔ ((((d && s) && t) ≡ true) × ((k ≡ true) × ((o ≡ true) × ((e ≡ true) × (l ≡ true)))))
regrouped d s k t o e l = (
  λ h. let p = and_parts ((((d && s) && k) && t) && o) (e && l) h in
      let q = and_parts (((d && s) && k) && t) o p.0 in
      let n = and_parts ((d && s) && k) t q.0 in
      let u = and_parts (d && s) k n.0 in
      let r = and_parts e l p.1 in
      (and_from (d && s) t u.0 n.1, (u.1, (q.1, (r.0, r.1)))),
  λ w. let a = and_parts (d && s) t w.0 in
      and_from ((((d && s) && k) && t) && o) (e && l)
      (and_from (((d && s) && k) && t) o (and_from ((d && s) && k) t (and_from (d && s) k a.0 w.1.0) a.1) w.1.1.0)
      (and_from e l w.1.1.1.0 w.1.1.1.1),
)

pub shading-law : (targets : List Target) (today : Day) (i j : Term)
    → (shades targets today i j ≡ true) ↔ Shades targets today i j
unfolding shades
shading-law targets today i j =
    let law = regrouped (field_within i j DestinationPort) (field_within i j SourcePort)
    (some_within (j.ports ∷ j.sports ∷ j.dports ∷ []) i.ports) (list_all (field_within i j) icmp_fields)
    (option_covers i.option i.dport_named j.option j.dport_named) (lies_within_in_each i j)
    (is_live_where targets today i j) in
    let fields = others-pass (field_within i j) in
    let packets = packets-law i j in (
      λ h. let p = law.0 h in record {
        live = (life-law targets today i j).0 p.1.1.1.1;
        packets = packets.0 (p.1.1.1.0, fields.0 p.0);
        either_ports = (either-ports-law i j).0 p.1.0;
        option = (option-law i j).0 p.1.1.0;
      },
      λ w. let p = packets.1 w.packets in
          law.1 (
            fields.1 p.1,
            (
              (either-ports-law i j).1 w.either_ports,
              (
                (option-law i j).1 w.option,
                (p.0, (life-law targets today i j).1 w.live),
              ),
            ),
          ),
    )
