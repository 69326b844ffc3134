-- What every resolved term fulfils, whatever it was made from.
use Rattle.std.specs.Prelude.{◌≡◌, ◌≢◌, ℕ, ◌+◌, Bool, true, false, List, [], ◌∷◌}
use Rattle.std.specs.Coded.{Coded-set, code_by, coded_list, coded_ℕ, coded×}
use Rattle.std.proofs.Math.Bridge.{le_prop}
use Rattle.std.proofs.Math.Path.{Σ_path, ap, refl, sym, to_path_p, ◌∙◌}
use Rattle.acl_packet.specs.declared.addresses.Family.TheVariants.{V4, V6}
use Rattle.acl_packet.specs.declared.packet_fields.Field.{Field}
use Rattle.acl_packet.specs.declared.packet_fields.Field.TheVariants.{Protocol, DestinationPort, IcmpType, IcmpCode}
use Rattle.acl_packet.specs.declared.filtering.Verdict.{Verdict}
use Rattle.acl_packet.specs.declared.filtering.Verdict.TheVariants as verdicts
use Rattle.acl_packet.specs.Addresses.{top_address}
use Rattle.acl_packet.specs.Packets.{has_field, has_ports, top_of}
use Rattle.acl_text.specs.Names.{is_name}
use Rattle.acl_sets.specs.declared.sets.Range.{Range}
use Rattle.acl_sets.specs.OneNumber.{IsOneNumber}
use Rattle.acl_sets.specs.Ranges.{IsNormal, Numbers, Only, holds}
use Rattle.acl_sets.specs.ComputableSets.{is_all}
use Rattle.acl_naming.specs.Ports.{top_port}
use Rattle.acl_terms.specs.declared.options.Opt.{Opt}
use Rattle.acl_terms.specs.declared.options.Opt.TheVariants.{Plain, Established}
use Rattle.acl_terms.specs.Matching.{is_number}
use Rattle.acl_terms.specs.Slips.{is_tcp_or_udp}
use Rattle.acl_text.specs.Notes.{is_note}

abbrev pub is_established : Opt → Bool
is_established Established = true
is_established _ = false

-- The options that ask for flags of TCP alone.
abbrev pub needs_tcp : Opt → Bool
needs_tcp Plain = false
needs_tcp Established = false
needs_tcp _ = true

abbrev pub is_reset : Verdict → Bool
is_reset verdicts.Reset = true
is_reset _ = false

abbrev pub is_left : Verdict → Bool
is_left verdicts.Left = true
is_left _ = false

abbrev pub is_protocol : Field → Bool
is_protocol Protocol = true
is_protocol _ = false

-- All these protocols have the field in IPv4, or all have it in IPv6.
abbrev pub HaveField : Field → Numbers → Type 0
HaveField field protos = (Only (has_field V4 field) protos → ⊥) → Only (has_field V6 field) protos

pub record IsSoundTerm (name note : List ℕ) (src4 src6 dst4 dst6 addr4 addr6 : Numbers)
    (addr_named : Bool) (numbers : Field → Numbers) (dport_named : Bool) (ports : Numbers)
    (port_named : Bool) (option : Opt) (verdict : Verdict) : Type 0 where
  pub name_is : is_name name ≡ true
  pub note_is : is_note note ≡ true
  pub src4_top : src4.top ≡ top_address V4
  pub src4_normal : IsNormal 0 src4.top src4.ranges
  pub src6_top : src6.top ≡ top_address V6
  pub src6_normal : IsNormal 0 src6.top src6.ranges
  pub dst4_top : dst4.top ≡ top_address V4
  pub dst4_normal : IsNormal 0 dst4.top dst4.ranges
  pub dst6_top : dst6.top ≡ top_address V6
  pub dst6_normal : IsNormal 0 dst6.top dst6.ranges
  pub addr4_top : addr4.top ≡ top_address V4
  pub addr4_normal : IsNormal 0 addr4.top addr4.ranges
  pub addr4_named : addr_named ≡ false → is_all addr4 ≡ true
  pub addr6_top : addr6.top ≡ top_address V6
  pub addr6_normal : IsNormal 0 addr6.top addr6.ranges
  pub addr6_named : addr_named ≡ false → is_all addr6 ≡ true
  pub tops : (field : Field) → (numbers field).top ≡ top_of field
  pub normal : (field : Field) → IsNormal 0 (numbers field).top (numbers field).ranges
  pub some : (field : Field) → is_protocol field ≡ false → (numbers field).ranges ≢ []
  pub fit : (field : Field) → is_all (numbers field) ≡ false → HaveField field (numbers Protocol)
  pub protos_lack_0 : is_all (numbers Protocol) ≡ false → holds (numbers Protocol).ranges 0 ≡ false
  pub itypes_lack_255 : is_all (numbers IcmpType) ≡ false → holds (numbers IcmpType).ranges 255 ≡ false
  pub one_itype : is_all (numbers IcmpCode) ≡ false → IsOneNumber (numbers IcmpType)
  pub dports_named : dport_named ≡ false → is_all (numbers DestinationPort) ≡ true
  pub ports_top : ports.top ≡ top_port
  pub ports_normal : IsNormal 0 ports.top ports.ranges
  pub ports_some : ports.ranges ≢ []
  pub ports_fit : is_all ports ≡ false → Only has_ports (numbers Protocol)
  pub ports_named : port_named ≡ false → is_all ports ≡ true
  pub established_fits : is_established option ≡ true → Only is_tcp_or_udp (numbers Protocol)
  pub flags_fit : needs_tcp option ≡ true → Only (is_number 6) (numbers Protocol)
  pub reset_fits : is_reset verdict ≡ true → Only (is_number 6) (numbers Protocol)
  pub verdict_is : is_left verdict ≡ false

-- A list is in normal form in one way: the facts on its ranges are orders.
pub normal-prop : (floor top : ℕ) (rs : List Range) → IsProp (IsNormal floor top rs)
normal-prop floor top [] = hlevel []
normal-prop floor top (r ∷ rs) = hlevel (le_prop, normal-prop (r.high + 2) top rs)

-- So the set has one number in one way.
ranges-set : IsSet (List Range)
ranges-set = Coded-set (coded_list (code_by (ℕ × ℕ) (coded× coded_ℕ coded_ℕ) (λ r. (r.low, r.high))
    (λ p. record { low = p.0; high = p.1 }) (λ _. refl)))

abbrev first-low : List Range → ℕ
first-low [] = 0
first-low (r ∷ rs) = r.low

pub one-number-prop : (s : Numbers) → IsProp (IsOneNumber s)
one-number-prop s = λ a b. let same : a.0 ≡ b.0 = ap first-low (sym a.1 ∙ b.1) in
    Σ_path same (to_path_p (λ i. s.ranges ≡ record { low = same i; high = same i } ∷ []) (ranges-set _ _ _ _))
