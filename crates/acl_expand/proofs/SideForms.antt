-- The sets of a term on a pair of its sides: their tops and forms, when they are all, and when they are none.
use Rattle.std.proofs.Common.{◌≡◌, ◌≢◌, ℕ, ◌+◌, ◌^◌, ◌≤◌, Bool, true, false, ◌&&◌, ◌||◌, ◌==◌, [], length, refl, ap, ◌∙◌, arith}
use Rattle.std.proofs.lemmas.Bool.{both_ways, or_parts}
use Rattle.acl_packet.specs.declared.addresses.Family.{Family}
use Rattle.acl_packet.specs.declared.addresses.Family.TheVariants.{V4, V6}
use Rattle.acl_packet.specs.declared.packet_fields.Field.TheVariants.{SourcePort, DestinationPort}
use Rattle.acl_packet.specs.Addresses.{top_address, width_of}
use Rattle.acl_packet.specs.Packets.{has_ports}
use Rattle.acl_sets.specs.ComputableSets.{is_all}
use Rattle.acl_sets.specs.Ranges.{IsNormal, Numbers, Only, holds}
use Rattle.acl_sets.proofs.ComputableSetLaws.{covers-holds, holds-covers}
use Rattle.acl_terms.specs.declared.sides.Side.{Side}
use Rattle.acl_terms.specs.declared.sides.Side.TheVariants.{Whole, Source, Destination}
use Rattle.acl_terms.specs.declared.sides.SidePair.{SidePair}
use Rattle.acl_terms.specs.declared.terms.Term.{Term}
use Rattle.acl_terms.specs.Resolved.{destination_cut, destination_in, destinations_on, dports_on, either_in, has_no_protocol, has_none, in_both, is_pair_empty, source_cut, source_in, sources_on, sports_on}
use Rattle.acl_terms.proofs.SideLaws.{both-holds, both-normal, destination-cut-normal, destination-normal, destination_tops, dport_tops, either-normal, source-cut-normal, source-normal, source_tops, sport_tops}

-- ---- tops

source-top : (f : Family) (t : Term) → (source_in f t).top ≡ top_address f
source-top V4 t = t.sound.src4_top
source-top V6 t = t.sound.src6_top

destination-top : (f : Family) (t : Term) → (destination_in f t).top ≡ top_address f
destination-top V4 t = t.sound.dst4_top
destination-top V6 t = t.sound.dst6_top

source-cut-top : (side : Side) (s e : Numbers) → (source_cut side s e).top ≡ s.top
source-cut-top Whole s e = refl
source-cut-top Source s e = refl
source-cut-top Destination s e = refl

destination-cut-top : (side : Side) (s e : Numbers) → (destination_cut side s e).top ≡ s.top
destination-cut-top Whole s e = refl
destination-cut-top Source s e = refl
destination-cut-top Destination s e = refl

pub source_end : (f : Family) (t : Term) → (source_in f t).top + 1 ≡ 2 ^ width_of f
source_end V4 t = ap (λ n. n + 1) t.sound.src4_top
source_end V6 t = ap (λ n. n + 1) t.sound.src6_top

pub destination_end : (f : Family) (t : Term) → (destination_in f t).top + 1 ≡ 2 ^ width_of f
destination_end V4 t = ap (λ n. n + 1) t.sound.dst4_top
destination_end V6 t = ap (λ n. n + 1) t.sound.dst6_top

pub sources-top : (side : Side) (f : Family) (t : Term) → (sources_on side f t).top ≡ top_address f
sources-top side f t = source-cut-top side (source_in f t) (either_in f t) ∙ source-top f t

pub destinations-top : (side : Side) (f : Family) (t : Term) → (destinations_on side f t).top ≡ top_address f
destinations-top side f t = destination-cut-top side (destination_in f t) (either_in f t) ∙ destination-top f t

pub sports-top : (side : Side) (t : Term) → (sports_on side t).top ≡ 65535
sports-top side t = source-cut-top side t.sports t.ports ∙ t.sound.tops SourcePort

pub dports_top : (side : Side) (t : Term) → (dports_on side t).top ≡ 65535
dports_top side t = destination-cut-top side t.dports t.ports ∙ t.sound.tops DestinationPort

-- ---- normal forms

pub sources-normal : (side : Side) (f : Family) (t : Term) → IsNormal 0 (sources_on side f t).top (sources_on side f t).ranges
sources-normal side f t = source-cut-normal side (source_in f t) (either_in f t) (source_tops f t) (source-normal f t) (either-normal f t)

pub destinations-normal : (side : Side) (f : Family) (t : Term) → IsNormal 0 (destinations_on side f t).top (destinations_on side f t).ranges
destinations-normal side f t =
    destination-cut-normal side (destination_in f t) (either_in f t) (destination_tops f t) (destination-normal f t) (either-normal f t)

pub sports-normal : (side : Side) (t : Term) → IsNormal 0 (sports_on side t).top (sports_on side t).ranges
sports-normal side t = source-cut-normal side t.sports t.ports (sport_tops t) (t.sound.normal SourcePort) t.sound.ports_normal

pub dports-normal : (side : Side) (t : Term) → IsNormal 0 (dports_on side t).top (dports_on side t).ranges
dports-normal side t = destination-cut-normal side t.dports t.ports (dport_tops t) (t.sound.normal DestinationPort) t.sound.ports_normal

-- ---- sets that are all

pub all-held : (s : Numbers) (x : ℕ) → is_all s ≡ true → x ≤ s.top → holds s.ranges x ≡ true
all-held s x e h = covers-holds s.ranges 0 s.top x e (omega arith) h

both-all : (s e : Numbers) → s.top ≡ e.top → IsNormal 0 s.top s.ranges → IsNormal 0 e.top e.ranges
    → is_all s ≡ true → is_all e ≡ true → is_all (in_both s e) ≡ true
both-all s e tops n m p q =
    holds-covers 0 s.top (in_both s e).ranges 0 s.top (both-normal s e tops n m) (omega arith)
    (λ x _ within. both-holds s e x n ∙ ap (λ b. b && holds e.ranges x) (all-held s x p within)
    ∙ all-held e x q (omega (arith, within, tops)))

-- A cut of two sets is not all only where one of the two is not.
both-fit : (P : Type 0) (s e : Numbers) → s.top ≡ e.top → IsNormal 0 s.top s.ranges → IsNormal 0 e.top e.ranges
    → (is_all s ≡ false → P) → (is_all e ≡ false → P) → is_all (in_both s e) ≡ false → P
both-fit P s e tops n m left right part = by (is_all s) (is_all e) refl refl
  where
    by : (a b : Bool) → is_all s ≡ a → is_all e ≡ b → P
    by false b p q = left p
    by true false p q = right q
    by true true p q = absurd (both_ways (is_all (in_both s e)) part (both-all s e tops n m p q))

-- A fact that holds in one of two ways, which are the same.
once : (test : ℕ → Bool) (s : Numbers) → ((Only test s → ⊥) → Only test s) → Only test s
once test s h x e = by (test x) refl
  where
    by : (b : Bool) → test x ≡ b → test x ≡ true
    by true q = q
    by false q = h (λ only. both_ways (test x) q (only x e)) x e

sports-own : (t : Term) → is_all t.sports ≡ false → Only has_ports t.protos
sports-own t e = once has_ports t.protos (t.sound.fit SourcePort e)

dports-own : (t : Term) → is_all t.dports ≡ false → Only has_ports t.protos
dports-own t e = once has_ports t.protos (t.sound.fit DestinationPort e)

pub sports-fit : (side : Side) (t : Term) → is_all (sports_on side t) ≡ false → Only has_ports t.protos
sports-fit Whole t e = sports-own t e
sports-fit Source t e =
    both-fit (Only has_ports t.protos) t.sports t.ports (sport_tops t) (t.sound.normal SourcePort) t.sound.ports_normal
    (sports-own t) t.sound.ports_fit e
sports-fit Destination t e = sports-own t e

pub dports-fit : (side : Side) (t : Term) → is_all (dports_on side t) ≡ false → Only has_ports t.protos
dports-fit Whole t e = dports-own t e
dports-fit Source t e = dports-own t e
dports-fit Destination t e =
    both-fit (Only has_ports t.protos) t.dports t.ports (dport_tops t) (t.sound.normal DestinationPort) t.sound.ports_normal
    (dports-own t) t.sound.ports_fit e

-- Where nothing is asked of either address, each is one of which it might be.
pub either-all : (f : Family) (t : Term) (x : ℕ) → t.addr_named ≡ false → x ≤ top_address f → holds (either_in f t).ranges x ≡ true
either-all V4 t x e h = let top = t.sound.addr4_top in all-held t.addr4 x (t.sound.addr4_named e) (omega (arith, top, h))
either-all V6 t x e h = let top = t.sound.addr6_top in all-held t.addr6 x (t.sound.addr6_named e) (omega (arith, top, h))

pub ports-all : (t : Term) (x : ℕ) → t.port_named ≡ false → x ≤ 65535 → holds t.ports.ranges x ≡ true
ports-all t x e h = let top = t.sound.ports_top in all-held t.ports x (t.sound.ports_named e) (omega (arith, top, h))

-- ---- pairs that are not empty

pub some-ranges : (s : Numbers) → has_none s ≡ false → s.ranges ≢ []
some-ranges s h = λ e. both_ways (has_none s) h (ap (λ rs. length rs == 0) e)

pub record HasSome (f : Family) (t : Term) (pair : SidePair) : Type 0 where
  pub sources : has_none (sources_on pair.addresses f t) ≡ false
  pub destinations : has_none (destinations_on pair.addresses f t) ≡ false
  pub sports : has_none (sports_on pair.ports t) ≡ false
  pub dports : has_none (dports_on pair.ports t) ≡ false
  pub protocols : has_no_protocol f t ≡ false

pub some-on : (f : Family) (t : Term) (pair : SidePair) → is_pair_empty f t pair ≡ false → HasSome f t pair
some-on f t pair h =
    let a : Bool = has_none (sources_on pair.addresses f t) in
    let b : Bool = has_none (destinations_on pair.addresses f t) in
    let c : Bool = has_none (sports_on pair.ports t) in
    let d : Bool = has_none (dports_on pair.ports t) in
    let p = or_parts (a || (b || (c || (d || false)))) (has_no_protocol f t) h in
    let q = or_parts a (b || (c || (d || false))) p.0 in
    let r = or_parts b (c || (d || false)) q.1 in
    let s = or_parts c (d || false) r.1 in
    record {
      sources = q.0;
      destinations = r.0;
      sports = s.0;
      dports = (or_parts d false s.1).0;
      protocols = p.1;
    }
