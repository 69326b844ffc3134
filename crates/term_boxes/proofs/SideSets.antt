-- The sides of boxes that do not depend on a term are sets of numbers of their coordinates.
use Rattle.std.proofs.Common.{◌≡◌, ℕ, ◌+◌, ◌≤◌, List, [], ◌∷◌, refl, ap, ◌∙◌, subst, arith}
use Rattle.std.specs.List.{All, AllByRecursion}
use Rattle.std.proofs.lemmas.List.Elements.{All-from_recursion}
use Rattle.acl_packet.specs.declared.addresses.Family.{Family}
use Rattle.acl_packet.specs.declared.addresses.Family.TheVariants.{V4, V6}
use Rattle.acl_packet.specs.Addresses.{top_address}
use Rattle.acl_sets.specs.declared.sets.Range.{Range}
use Rattle.acl_sets.specs.Ranges.{IsNormal, IsRange, Numbers, holds}
use Rattle.acl_sets.proofs.ComputableSetLaws.{cut_all-normal}
use Rattle.acl_sets.proofs.RangeLaws.{are_ranges, one_list}
use Rattle.term_boxes.specs.declared.boxes.PacketBox.{PacketBox}
use Rattle.term_boxes.specs.Bars.{BarsAreBoxes, bars, bars_of_both}
use Rattle.term_boxes.specs.Boxes.{IsBox, IsSet}
use Rattle.term_boxes.specs.NumberSets.{but_icmp, but_tcp, extension_headers, from_one, not_initial, outside, run, set_of, up_to, without_ports}

pub one-run : (top low high : ℕ) → low ≤ high → high ≤ top → IsSet top (set_of top (run low high ∷ []))
one-run top low high a b = record { top_is = refl; normal = (omega arith, a, b, tt) }

pub two-runs : (top low high next last : ℕ) → low ≤ high → high + 2 ≤ next → next ≤ last → last ≤ top
    → IsSet top (set_of top (run low high ∷ run next last ∷ []))
two-runs top low high next last a b c d =
    record { top_is = refl; normal = (omega arith, a, omega (arith, b, c, d), (b, c, d, tt)) }

pub up-to-set : (top : ℕ) → IsSet top (up_to top)
up-to-set top = one-run top 0 top (omega arith) (omega arith)

pub from-one-set : (top : ℕ) → 1 ≤ top → IsSet top (from_one top)
from-one-set top h = one-run top 1 top h (omega arith)

pub but-icmp-set : (f : Family) → IsSet 255 (but_icmp f)
but-icmp-set V4 = two-runs 255 0 0 2 255 (omega arith) (omega arith) (omega arith) (omega arith)
but-icmp-set V6 = two-runs 255 0 57 59 255 (omega arith) (omega arith) (omega arith) (omega arith)

pub without-ports-set : IsSet 255 without_ports
without-ports-set = record {
  top_is = refl;
  normal = (
    omega arith,
    omega arith,
    omega arith,
    (
      omega arith,
      omega arith,
      omega arith,
      (omega arith, omega arith, omega arith, (omega arith, omega arith, omega arith, tt)),
    ),
  );
}

pub headers-set : IsSet 255 extension_headers
headers-set = record {
  top_is = refl;
  normal = (
    omega arith,
    omega arith,
    omega arith,
    (
      omega arith,
      omega arith,
      omega arith,
      (
        omega arith,
        omega arith,
        omega arith,
        (
          omega arith,
          omega arith,
          omega arith,
          (omega arith, omega arith, omega arith, (omega arith, omega arith, omega arith, tt)),
        ),
      ),
    ),
  );
}

pub but-tcp-set : IsSet 255 but_tcp
but-tcp-set = two-runs 255 0 5 7 255 (omega arith) (omega arith) (omega arith) (omega arith)

pub not-initial-set : IsSet 63 not_initial
not-initial-set = record {
  top_is = refl;
  normal = (omega arith, omega arith, omega arith, (omega arith, omega arith, omega arith, (omega arith, omega arith, omega arith, tt)));
}

pub outside-set : (top : ℕ) (s : Numbers) → IsSet top s → IsSet top (outside s)
outside-set top s h = record {
  top_is = h.top_is;
  normal = cut_all-normal 0 s.top s.top s.ranges (run 0 s.top ∷ []) (are_ranges 0 s.top s.ranges h.normal) (omega arith, omega arith, omega arith, tt);
}

pub sides : {f : Family} {b : PacketBox} → IsSet (top_address f) b.sources → IsSet (top_address f) b.destinations
    → IsSet 255 b.protocols → IsSet 65535 b.source_ports → IsSet 65535 b.destination_ports → IsSet 255 b.types
    → IsSet 255 b.codes → IsSet 63 b.flags → IsSet 3 b.connections → IsBox f b
sides s d h sp dp ty co g c = record {
  sources = s;
  destinations = d;
  protocols = h;
  source_ports = sp;
  destination_ports = dp;
  types = ty;
  codes = co;
  flags = g;
  connections = c;
}

both-are : (f : Family) → AllByRecursion (IsBox f) (bars_of_both f)
both-are f =
    let a = up-to-set (top_address f) in
    let p = up-to-set 65535 in
    let q = from-one-set 65535 (omega arith) in
    let b = up-to-set 255 in
    let n = from-one-set 255 (omega arith) in
    let g = up-to-set 63 in
    let c = up-to-set 3 in
    let h = but-icmp-set f in (
      sides a a without-ports-set q p b b g c,
      (
        sides a a without-ports-set p q b b g c,
        (
          sides a a but-tcp-set p p b b (from-one-set 63 (omega arith)) c,
          (sides a a h p p n b g c, (sides a a h p p b n g c, tt)),
        ),
      ),
    )

pub bars-are : BarsAreBoxes
unfolding bars
bars-are V4 = both-are V4
bars-are V6 =
    let a = up-to-set (top_address V6) in
    let p = up-to-set 65535 in
    let b = up-to-set 255 in
    (sides a a headers-set p p b b (up-to-set 63) (up-to-set 3), both-are V6)

-- ---- sets that are made from ranges in normal form

pub ranges_fit : (top : ℕ) (rs : List Range) → IsNormal 0 top rs → All (λ r. IsRange top r) rs
ranges_fit top rs n = All-from_recursion (λ r. IsRange top r) rs (are_ranges 0 top rs n)

pub same_set : (top : ℕ) (rs : List Range) (s : Numbers) → IsNormal 0 top rs → s.top ≡ top → IsNormal 0 s.top s.ranges
    → ((x : ℕ) → holds s.ranges x ≡ holds rs x) → s ≡ set_of top rs
same_set top rs s n e m h =
    let r = one_list 0 0 top s.ranges rs (subst (λ k. IsNormal 0 k s.ranges) e m) n h in
    ap (λ k. set_of k s.ranges) e ∙ ap (set_of top) r
