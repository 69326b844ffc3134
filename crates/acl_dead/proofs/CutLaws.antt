-- The cuts that the code walks along are those of the definition.
use Rattle.std.proofs.Common.{◌≡◌, ℕ, ◌+◌, ◌↔◌, zero, suc, Bool, true, false, not, ◌&&◌, ◌||◌, eqb, arith, List, [], ◌∷◌, ◌++◌, Contains, flat_map, refl, sym, ap, ◌∙◌, inl, inr}
use Rattle.std.proofs.lemmas.Bool.{cases_Bool, false≢true, ne_eqb}
use Rattle.std.proofs.lemmas.List.Folds.{list_any-append}
use Rattle.std.specs.List.{list_any}
use Rattle.acl_packet.specs.declared.addresses.Family.{Family}
use Rattle.acl_packet.specs.declared.addresses.Family.TheVariants.{V4, V6}
use Rattle.acl_packet.specs.declared.packet_fields.Field.TheVariants.{Protocol, SourcePort, DestinationPort, IcmpType, IcmpCode}
use Rattle.acl_packet.specs.Packets.{foreign_of}
use Rattle.acl_sets.specs.declared.sets.Range.{Range}
use Rattle.acl_sets.specs.ComputableSets.{is_all}
use Rattle.acl_sets.specs.Ranges.{Numbers, holds}
use Rattle.acl_terms.specs.declared.terms.Term.{Term}
use Rattle.acl_terms.specs.Resolved.{destination_in, either_in, has_number, source_in}
use Rattle.acl_dead.specs.declared.axes.Axis.{Axis}
use Rattle.acl_dead.specs.Boxes.{is_cut_by}
use Rattle.acl_dead.specs.Runs.{begins, cuts, has_before, is_boundary}
use Rattle.term_boxes.specs.declared.boxes.PacketBox.{PacketBox}
use Rattle.term_boxes.specs.NumberSets.{up_to}
use Rattle.term_boxes.specs.TermBoxes.{own_box}
use Rattle.term_boxes.proofs.TermSets.{or-false, protocol-holds}
use Rattle.acl_dead.specs.declared.coordinates.Coordinate.{Coordinate}
use Rattle.acl_dead.specs.declared.coordinates.Coordinate.TheVariants.{Source, Destination, Number, Flags, Connection}
use Rattle.acl_dead.specs.CoordinateSteps.{cuts_along, numbers_along, sets_along}
use Rattle.acl_dead.specs.Deciding.{Question, any_cuts, has, is_among, protocol_cuts}
use Rattle.acl_dead.specs.GridSteps.{IsAxisOf}
use Rattle.acl_dead.specs.SideSteps.{side_of}

-- ---- tests that agree at a number and before it

pub before_same : (p r : ℕ → Bool) (x : ℕ) → ((y : ℕ) → p y ≡ r y) → has_before p x ≡ has_before r x
before_same p r zero e = refl
before_same p r (suc n) e = e n

cuts_same : (p r : ℕ → Bool) (x : ℕ) → p x ≡ r x → has_before p x ≡ has_before r x → cuts p x ≡ cuts r x
cuts_same p r x e b =
    ap (λ h. (h && not (has_before p x)) || (not h && has_before p x)) e
    ∙ ap (λ h. (r x && not h) || (not (r x) && h)) b

boundary_same : (p r is_cut other : ℕ → Bool) (x : ℕ) → ((y : ℕ) → p y ≡ r y) → is_cut x ≡ other x
    → is_boundary p is_cut x ≡ is_boundary r other x
boundary_same p r is_cut other x e c =
    ap (λ h. h && ((h && not (has_before p x)) || is_cut x)) (e x)
    ∙ ap (λ h. r x && ((r x && not h) || is_cut x)) (before_same p r x e)
    ∙ ap (λ h. r x && (begins r x || h)) c

-- ---- lists of sets

any_sets : (g : Term → Numbers) (ts : List Term) (x : ℕ)
    → list_any (λ rs. cuts (λ y. holds rs y) x) (flat_map (λ (t : Term). (g t).ranges ∷ []) ts) ≡ any_cuts (λ t. has (g t)) ts x
any_sets g [] x = refl
any_sets g (t ∷ ts) x = ap (λ b. cuts (λ y. holds (g t).ranges y) x || b) (any_sets g ts x)

no_sets : (ts : List Term) (x : ℕ)
    → list_any (λ (rs : List Range). cuts (λ y. holds rs y) x) (flat_map (λ (t : Term). []) ts) ≡ false
no_sets [] x = refl
no_sets (t ∷ ts) x = no_sets ts x

both : (first behind : List (List Range)) (x : ℕ) (a b : Bool) → list_any (λ rs. cuts (λ y. holds rs y) x) first ≡ a
    → list_any (λ rs. cuts (λ y. holds rs y) x) behind ≡ b
    → list_any (λ rs. cuts (λ y. holds rs y) x) (first ++ behind) ≡ (a || b)
both first behind x a b e f =
    list_any-append (λ rs. cuts (λ y. holds rs y) x) first behind
    ∙ ap (λ c. c || list_any (λ rs. cuts (λ y. holds rs y) x) behind) e ∙ ap (λ c. a || c) f

assoc : (a b c : Bool) → ((a || b) || c) ≡ (a || (b || c))
assoc true b c = refl
assoc false b c = refl

-- ---- protocols: the other family's ICMP is cut off anyway

kept : (h i b : Bool) → b ≡ false → (h && (i || not b)) ≡ h
kept true true false e = refl
kept true false false e = refl
kept false i false e = refl
kept h i true e = absurd (false≢true (sym e))

same_protocol : (f : Family) (t : Term) (y : ℕ) → (y ≡ foreign_of f → ⊥) → holds t.protos.ranges y ≡ has_number f t Protocol y
same_protocol f t y off = sym (kept (holds t.protos.ranges y) (is_all t.protos) (eqb y (foreign_of f)) (ne_eqb y (foreign_of f) off))

before_protocol : (f : Family) (t : Term) (x : ℕ) → (x ≡ foreign_of f + 1 → ⊥)
    → has_before (has t.protos) x ≡ has_before (has_number f t Protocol) x
before_protocol f t zero off = refl
before_protocol f t (suc n) off = same_protocol f t n (λ e. off (omega arith))

same_cuts : (f : Family) (ts : List Term) (x : ℕ) → (x ≡ foreign_of f → ⊥) → (x ≡ foreign_of f + 1 → ⊥)
    → any_cuts (λ t. has t.protos) ts x ≡ any_cuts (λ t. has_number f t Protocol) ts x
same_cuts f [] x off past = refl
same_cuts f (t ∷ ts) x off past =
    ap (λ b. b || any_cuts (λ t. has t.protos) ts x)
    (cuts_same (has t.protos) (has_number f t Protocol) x (same_protocol f t x off) (before_protocol f t x past))
    ∙ ap (λ b. cuts (has_number f t Protocol) x || b) (same_cuts f ts x off past)

foreign_cuts : (f : Family) → (is_among (protocol_cuts f) (foreign_of f) ≡ true) × (is_among (protocol_cuts f) (foreign_of f + 1) ≡ true)
foreign_cuts V4 = (refl, refl)
foreign_cuts V6 = (refl, refl)

or_same : (a b n : Bool) → n ≡ true → (a || n) ≡ (b || n)
or_same true true n e = refl
or_same true false n e = sym e
or_same false true n e = e
or_same false false n e = refl

same_protocols : (f : Family) (ts : List Term) (x : ℕ)
    → (any_cuts (λ t. has t.protos) ts x || is_among (protocol_cuts f) x)
    ≡ (any_cuts (λ t. has_number f t Protocol) ts x || is_among (protocol_cuts f) x)
same_protocols f ts x = elim (cases_Bool (is_among (protocol_cuts f) x)) [
  | inl among ↦ or_same _ _ (is_among (protocol_cuts f) x) among
  | inr off ↦ ap (λ b. b || is_among (protocol_cuts f) x) (same_cuts f ts x
      (λ e. false≢true (sym off ∙ ap (λ n. is_among (protocol_cuts f) n) e ∙ (foreign_cuts f).0))
      (λ e. false≢true (sym off ∙ ap (λ n. is_among (protocol_cuts f) n) e ∙ (foreign_cuts f).1)))
]

-- ---- all coordinates

plain_sets : (g : Term → Numbers) (q : Question) (x : ℕ)
    → list_any (λ rs. cuts (λ y. holds rs y) x)
    (flat_map (λ (t : Term). (g t).ranges ∷ []) q.earlier ++ flat_map (λ (t : Term). []) (q.term ∷ q.earlier))
    ≡ any_cuts (λ t. has (g t)) q.earlier x
plain_sets g q x =
    both (flat_map (λ (t : Term). (g t).ranges ∷ []) q.earlier) (flat_map (λ (t : Term). []) (q.term ∷ q.earlier)) x _ _
    (any_sets g q.earlier x) (no_sets (q.term ∷ q.earlier) x) ∙ or-false _

either_sets : (g either : Term → Numbers) (q : Question) (x : ℕ)
    → list_any (λ rs. cuts (λ y. holds rs y) x)
    (flat_map (λ (t : Term). (g t).ranges ∷ []) q.earlier ++ flat_map (λ (t : Term). (either t).ranges ∷ []) (q.term ∷ q.earlier))
    ≡ (any_cuts (λ t. has (g t)) q.earlier x || any_cuts (λ t. has (either t)) (q.term ∷ q.earlier) x)
either_sets g either q x =
    both (flat_map (λ (t : Term). (g t).ranges ∷ []) q.earlier) (flat_map (λ (t : Term). (either t).ranges ∷ []) (q.term ∷ q.earlier)) x _ _
    (any_sets g q.earlier x) (any_sets either (q.term ∷ q.earlier) x)

none_sets : (q : Question) (x : ℕ)
    → list_any (λ (rs : List Range). cuts (λ y. holds rs y) x)
    (flat_map (λ (t : Term). []) q.earlier ++ flat_map (λ (t : Term). []) (q.term ∷ q.earlier)) ≡ false
none_sets q x =
    both (flat_map (λ (t : Term). []) q.earlier) (flat_map (λ (t : Term). []) (q.term ∷ q.earlier)) x false false
    (no_sets q.earlier x) (no_sets (q.term ∷ q.earlier) x)

pub code_cuts : (c : Coordinate) (f : Family) (q : Question) (x : ℕ)
    → is_cut_by (sets_along c f q) (numbers_along c f q) x ≡ cuts_along c f q x
code_cuts Source f q x = or-false _ ∙ either_sets (source_in f) (either_in f) q x
code_cuts Destination f q x = or-false _ ∙ either_sets (destination_in f) (either_in f) q x
code_cuts (Number Protocol) f q x =
    ap (λ b. b || is_among (protocol_cuts f) x) (plain_sets (λ t. t.protos) q x) ∙ same_protocols f q.earlier x
code_cuts (Number SourcePort) f q x = or-false _ ∙ either_sets (λ t. t.sports) (λ t. t.ports) q x
code_cuts (Number DestinationPort) f q x =
    ap (λ b. b || is_among (1024 ∷ []) x) (either_sets (λ t. t.dports) (λ t. t.ports) q x)
    ∙ assoc _ _ (is_among (1024 ∷ []) x)
code_cuts (Number IcmpType) f q x = ap (λ b. b || false) (plain_sets (λ t. t.itypes) q x)
code_cuts (Number IcmpCode) f q x = ap (λ b. b || false) (plain_sets (λ t. t.icodes) q x)
code_cuts Flags f q x = ap (λ b. b || is_among (numbers_along Flags f q) x) (none_sets q x)
code_cuts Connection f q x = ap (λ b. b || is_among (numbers_along Connection f q) x) (none_sets q x)

-- the numbers that the term takes along a coordinate
abbrev pub own_along : Coordinate → Family → Term → ℕ → Bool
own_along Source f t x = has (source_in f t) x
own_along Destination f t x = has (destination_in f t) x
own_along (Number field) f t x = has_number f t field x
own_along Flags f t x = has (up_to 63) x
own_along Connection f t x = has (up_to 3) x

pub own_is : (c : Coordinate) (f : Family) (t : Term) (x : ℕ) → holds (side_of c (own_box f t)).ranges x ≡ own_along c f t x
own_is Source f t x = refl
own_is Destination f t x = refl
own_is (Number Protocol) f t x = protocol-holds f t x
own_is (Number SourcePort) f t x = refl
own_is (Number DestinationPort) f t x = refl
own_is (Number IcmpType) f t x = refl
own_is (Number IcmpCode) f t x = refl
own_is Flags f t x = refl
own_is Connection f t x = refl

-- the values of an axis are the boundaries of the definition
abbrev pub boundary_along : Coordinate → Family → Question → ℕ → Bool
boundary_along c f q x = is_boundary (own_along c f q.term) (cuts_along c f q) x

pub axis_exact : (f : Family) (q : Question) (boxes : List PacketBox) (c : Coordinate) (a : Axis)
    → IsAxisOf f q (own_box f q.term) boxes c a
    → (x : ℕ) → Contains a.values.items x ↔ (boundary_along c f q x ≡ true)
axis_exact f q boxes c a is x =
    let same = boundary_same (λ y. holds (side_of c (own_box f q.term)).ranges y) (own_along c f q.term)
    (is_cut_by (sets_along c f q) (numbers_along c f q)) (cuts_along c f q) x (own_is c f q.term) (code_cuts c f q x) in (
      λ h. sym same ∙ (is.values.exact x).0 h,
      λ h. (is.values.exact x).1 (same ∙ h),
    )
