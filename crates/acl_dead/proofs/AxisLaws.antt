-- The axes of a family's grid: they can be searched, and say of a list of numbers what the boxes say.
use Rattle.std.proofs.Common.{◌≡◌, ℕ, ◌+◌, ◌<◌, ◌≤◌, zero, suc, Bool, true, false, ◌&&◌, nat_le, arith, List, [], ◌∷◌, ◌++◌, Bor, length, get_or, map, refl, sym, ap, ◌∙◌, subst, inl, inr}
use Rattle.std.proofs.lemmas.Bool.{and_parts, and_from, or_cases, or_left, or_right, leb-true, false_from_ne_true, false≢true}
use Rattle.std.proofs.lemmas.List.{get_or-map, length-map}
use Rattle.std.proofs.lemmas.List.Folds.{list_any_none}
use Rattle.std.specs.List.{All, AllByRecursion, list_any}
use Rattle.acl_packet.specs.declared.addresses.Family.{Family}
use Rattle.acl_packet.specs.declared.packet_fields.Field.TheVariants.{Protocol, SourcePort, DestinationPort, IcmpType, IcmpCode}
use Rattle.acl_sets.specs.declared.sets.Range.{Range}
use Rattle.acl_sets.specs.Ranges.{IsNormal, Numbers, holds}
use Rattle.acl_terms.specs.declared.options.Mode.TheVariants.{Stateless}
use Rattle.acl_terms.specs.declared.terms.Term.{Term}
use Rattle.acl_dead.specs.declared.axes.Axis.{Axis}
use Rattle.acl_dead.specs.Boxes as boxes
use Rattle.acl_dead.specs.Runs.{begins, has_ended}
use Rattle.term_boxes.specs.declared.boxes.PacketBox.{PacketBox}
use Rattle.term_boxes.specs.Boxes.{IsSet, hold}
use Rattle.term_boxes.specs.Coordinates.{AreWithin}
use Rattle.term_boxes.specs.TermBoxes.{own_box}
use Rattle.term_boxes.proofs.TermSets.{have-boxes}
use Rattle.acl_dead.specs.declared.coordinates.Coordinate.{Coordinate}
use Rattle.acl_dead.specs.declared.coordinates.Coordinate.TheVariants.{Source, Destination, Number, Flags, Connection}
use Rattle.acl_dead.specs.CoordinateSteps.{cuts_along}
use Rattle.acl_dead.specs.Deciding.{IsProduct, Question}
use Rattle.acl_dead.specs.GridSteps.{AreAxesOf, IsAxisOf}
use Rattle.acl_dead.specs.SideSteps.{side_of}
use Rattle.acl_dead.proofs.CutLaws.{axis_exact, boundary_along, code_cuts}
use Rattle.acl_dead.proofs.EndLaws.{BoxEnds, ends_along, top_along}

-- ---- tops

holds_top : (floor top : ℕ) (own : List Range) (x : ℕ) → IsNormal floor top own → holds own x ≡ true → x ≤ top
holds_top floor top [] x n h = absurd (false≢true h)
holds_top floor top (r ∷ rs) x n h = elim (or_cases _ _ h) [
  | inl here ↦ let e = leb-true x r.high (and_parts (nat_le r.low x) (nat_le x r.high) here).1 in let fits = n.2 in omega arith
  | inr later ↦ holds_top (r.high + 2) top rs x n.3 later
]

pub own_set : (c : Coordinate) (f : Family) (t : Term) → IsSet (top_along c f) (side_of c (own_box f t))
own_set Source f t = (have-boxes f Stateless t).own.sources
own_set Destination f t = (have-boxes f Stateless t).own.destinations
own_set (Number Protocol) f t = (have-boxes f Stateless t).own.protocols
own_set (Number SourcePort) f t = (have-boxes f Stateless t).own.source_ports
own_set (Number DestinationPort) f t = (have-boxes f Stateless t).own.destination_ports
own_set (Number IcmpType) f t = (have-boxes f Stateless t).own.types
own_set (Number IcmpCode) f t = (have-boxes f Stateless t).own.codes
own_set Flags f t = (have-boxes f Stateless t).own.flags
own_set Connection f t = (have-boxes f Stateless t).own.connections

set_top : (top : ℕ) (s : Numbers) (x : ℕ) → IsSet top s → holds s.ranges x ≡ true → x ≤ top
set_top top s x set h =
    subst (λ (n : ℕ). x ≤ n) set.top_is (holds_top 0 s.top s.ranges x set.normal h)

pub own_top : (c : Coordinate) (f : Family) (t : Term) (x : ℕ) → holds (side_of c (own_box f t)).ranges x ≡ true → x ≤ top_along c f
own_top c f t x h = set_top (top_along c f) (side_of c (own_box f t)) x (own_set c f t) h

-- ---- the axes can be searched

nothing_ended : (x : ℕ) → has_ended (λ y. holds [] y) x ≡ true → ⊥
nothing_ended zero h = false≢true h
nothing_ended (suc n) h = false≢true h

ended_at : (c : Coordinate) (f : Family) (q : Question) (bs : List PacketBox) → AllByRecursion (BoxEnds f q) bs → (b x : ℕ)
    → x ≤ top_along c f → has_ended (λ y. holds (get_or (map (λ (s : PacketBox). (side_of c s).ranges) bs) b []) y) x ≡ true
    → cuts_along c f q x ≡ true
ended_at c f q [] all b x le h = absurd (nothing_ended x h)
ended_at c f q (s ∷ bs) all zero x le h = ends_along c f q s all.0 x le h
ended_at c f q (s ∷ bs) all (suc b) x le h = ended_at c f q bs all.1 b x le h

ready_one : (f : Family) (q : Question) (bs : List PacketBox) → AllByRecursion (BoxEnds f q) bs → (c : Coordinate) (a : Axis)
    → IsAxisOf f q (own_box f q.term) bs c a → boxes.IsReady (length bs) a
ready_one f q bs all c a is =
    let own = side_of c (own_box f q.term) in record {
      sides = sym (length-map a.sides.items (λ (s : Bor Numbers). s.now.ranges)) ∙ ap (λ (xs : List (List Range)). length xs) is.sides_are
          ∙ length-map bs (λ (s : PacketBox). (side_of c s).ranges);
      rising = is.values.rising;
      owned = λ x h. subst (λ (s : Numbers). holds s.ranges x ≡ true) (sym is.own_is)
          (and_parts (holds own.ranges x) _ ((is.values.exact x).0 h)).0;
      begun = λ x h.
          let b = subst (λ (s : Numbers). begins (λ y. holds s.ranges y) x ≡ true) is.own_is h in
          (is.values.exact x).1 (and_from _ _ (and_parts (holds own.ranges x) _ b).0 (or_left _ _ b));
      ended = λ b x h e.
          let here = subst (λ (s : Numbers). holds s.ranges x ≡ true) is.own_is h in
          let cut = ended_at c f q bs all b x (own_top c f q.term x here)
          (subst (λ (xs : List (List Range)). has_ended (λ y. holds (get_or xs b []) y) x ≡ true) is.sides_are e) in
          (is.values.exact x).1 (and_from _ _ here (or_right _ _ (code_cuts c f q x ∙ cut)));
    }

pub all_ready : (f : Family) (q : Question) (bs : List PacketBox) → AllByRecursion (BoxEnds f q) bs → (cs : List Coordinate) (axes : List Axis)
    → AreAxesOf f q (own_box f q.term) bs cs axes → All (boxes.IsReady (length bs)) axes
all_ready f q bs all [] [] are k d lt = absurd (omega arith)
all_ready f q bs all [] (a ∷ axes) are k d lt = absurd are
all_ready f q bs all (c ∷ cs) [] are k d lt = absurd are
all_ready f q bs all (c ∷ cs) (a ∷ axes) are zero d lt = ready_one f q bs all c a are.0
all_ready f q bs all (c ∷ cs) (a ∷ axes) are (suc k) d lt = all_ready f q bs all cs axes are.1 k d (omega arith)

-- ---- a list of numbers, by the axes and by boxes

abbrev pub sides_along : List Coordinate → PacketBox → List Numbers
sides_along cs s = map (λ c. side_of c s) cs

inside_is : (f : Family) (q : Question) (own : PacketBox) (bs : List PacketBox) (cs : List Coordinate) (axes : List Axis) (xs : List ℕ) (b : ℕ)
    (d : PacketBox) → AreAxesOf f q own bs cs axes → length xs ≡ length cs → b < length bs
    → boxes.is_inside axes xs b ≡ hold (sides_along cs (get_or bs b d)) xs
inside_is f q own bs [] [] [] b d are e lt = refl
inside_is f q own bs [] [] (x ∷ xs) b d are e lt = absurd (omega arith)
inside_is f q own bs [] (a ∷ axes) xs b d are e lt = absurd are
inside_is f q own bs (c ∷ cs) [] xs b d are e lt = absurd are
inside_is f q own bs (c ∷ cs) (a ∷ axes) [] b d are e lt = absurd (omega arith)
inside_is f q own bs (c ∷ cs) (a ∷ axes) (x ∷ xs) b d are e lt =
    ap (λ (ss : List (List Range)). holds (get_or ss b []) x && boxes.is_inside axes xs b) are.0.sides_are
    ∙ ap (λ (rs : List Range). holds rs x && boxes.is_inside axes xs b) (get_or-map (λ (s : PacketBox). (side_of c s).ranges) bs b d [] lt)
    ∙ ap (λ t. holds (side_of c (get_or bs b d)).ranges x && t) (inside_is f q own bs cs axes xs b d are.1 (omega arith) lt)

any_at : (p : PacketBox → Bool) (xs : List PacketBox) (k : ℕ) (d : PacketBox) → k < length xs → p (get_or xs k d) ≡ true → list_any p xs ≡ true
any_at p [] k d lt h = absurd (omega arith)
any_at p (x ∷ xs) zero d lt h = or_left _ _ h
any_at p (x ∷ xs) (suc k) d lt h = or_right _ _ (any_at p xs k d (omega arith) h)

pub clear_none : (f : Family) (q : Question) (own : PacketBox) (bs : List PacketBox) (cs : List Coordinate) (axes : List Axis) (xs : List ℕ)
    → AreAxesOf f q own bs cs axes → length xs ≡ length cs → boxes.IsClear axes (length bs) xs
    → list_any (λ s. hold (sides_along cs s) xs) bs ≡ false
clear_none f q own bs cs axes xs are e clear =
    list_any_none (λ s. hold (sides_along cs s) xs) bs
    (λ k d lt. false_from_ne_true _ (λ h. clear k lt (inside_is f q own bs cs axes xs k d are e lt ∙ h)))

pub none_clear : (f : Family) (q : Question) (own : PacketBox) (bs : List PacketBox) (cs : List Coordinate) (axes : List Axis) (xs : List ℕ)
    → AreAxesOf f q own bs cs axes → length xs ≡ length cs → list_any (λ s. hold (sides_along cs s) xs) bs ≡ false
    → boxes.IsClear axes (length bs) xs
none_clear f q own bs cs axes xs are e none b lt h =
    false≢true (sym none ∙ any_at (λ s. hold (sides_along cs s) xs) bs b own lt (sym (inside_is f q own bs cs axes xs b own are e lt) ∙ h))

pub asked_hold : (f : Family) (q : Question) (own : PacketBox) (bs : List PacketBox) (cs : List Coordinate) (axes : List Axis) (xs : List ℕ)
    → AreAxesOf f q own bs cs axes → boxes.IsAsked axes xs → hold (sides_along cs own) xs ≡ true
asked_hold f q own bs [] [] [] are asked = refl
asked_hold f q own bs [] [] (x ∷ xs) are asked = absurd asked
asked_hold f q own bs [] (a ∷ axes) xs are asked = absurd are
asked_hold f q own bs (c ∷ cs) [] xs are asked = absurd are
asked_hold f q own bs (c ∷ cs) (a ∷ axes) [] are asked = absurd asked
asked_hold f q own bs (c ∷ cs) (a ∷ axes) (x ∷ xs) are asked =
    and_from _ _ (subst (λ (s : Numbers). holds s.ranges x ≡ true) are.0.own_is asked.0) (asked_hold f q own bs cs axes xs are.1 asked.1)

pub hold_asked : (f : Family) (q : Question) (own : PacketBox) (bs : List PacketBox) (cs : List Coordinate) (axes : List Axis) (xs : List ℕ)
    → AreAxesOf f q own bs cs axes → hold (sides_along cs own) xs ≡ true → boxes.IsAsked axes xs
hold_asked f q own bs [] [] [] are h = tt
hold_asked f q own bs [] [] (x ∷ xs) are h = absurd (false≢true h)
hold_asked f q own bs [] (a ∷ axes) xs are h = absurd are
hold_asked f q own bs (c ∷ cs) [] xs are h = absurd are
hold_asked f q own bs (c ∷ cs) (a ∷ axes) [] are h = absurd (false≢true h)
hold_asked f q own bs (c ∷ cs) (a ∷ axes) (x ∷ xs) are h =
    let p = and_parts (holds (side_of c own).ranges x) _ h in
    (subst (λ (s : Numbers). holds s.ranges x ≡ true) (sym are.0.own_is) p.0, hold_asked f q own bs cs axes xs are.1 p.1)

pub hold_length : (ss : List Numbers) (xs : List ℕ) → hold ss xs ≡ true → length xs ≡ length ss
hold_length [] [] h = refl
hold_length [] (x ∷ xs) h = absurd (false≢true h)
hold_length (s ∷ ss) [] h = absurd (false≢true h)
hold_length (s ∷ ss) (x ∷ xs) h =
    let e = hold_length ss xs (and_parts (holds s.ranges x) _ h).1 in omega arith

-- none of its numbers is above the top
pub own_within : (f : Family) (t : Term) (cs : List Coordinate) (xs : List ℕ) → hold (sides_along cs (own_box f t)) xs ≡ true
    → AreWithin (map (λ c. top_along c f) cs) xs
own_within f t [] [] h = tt
own_within f t [] (x ∷ xs) h = absurd (false≢true h)
own_within f t (c ∷ cs) [] h = absurd (false≢true h)
own_within f t (c ∷ cs) (x ∷ xs) h =
    let p = and_parts (holds (side_of c (own_box f t)).ranges x) _ h in
    (own_top c f t x p.0, own_within f t cs xs p.1)

-- ---- the grid, by the boundaries of the definition

abbrev pub AreOnGrid : Family → Question → List Coordinate → List ℕ → Type 0
AreOnGrid f q [] [] = Unit {0}
AreOnGrid f q [] (x ∷ xs) = ⊥
AreOnGrid f q (c ∷ cs) [] = ⊥
AreOnGrid f q (c ∷ cs) (x ∷ xs) = (boundary_along c f q x ≡ true) × AreOnGrid f q cs xs

pub grid_from : (f : Family) (q : Question) (bs : List PacketBox) (cs : List Coordinate) (axes : List Axis) (xs : List ℕ)
    → AreAxesOf f q (own_box f q.term) bs cs axes → AreOnGrid f q cs xs → boxes.IsOnGrid axes xs
grid_from f q bs [] [] [] are on = tt
grid_from f q bs [] [] (x ∷ xs) are on = absurd on
grid_from f q bs [] (a ∷ axes) xs are on = absurd are
grid_from f q bs (c ∷ cs) [] xs are on = absurd are
grid_from f q bs (c ∷ cs) (a ∷ axes) [] are on = absurd on
grid_from f q bs (c ∷ cs) (a ∷ axes) (x ∷ xs) are on =
    ((axis_exact f q bs c a are.0 x).1 on.0, grid_from f q bs cs axes xs are.1 on.1)

pub grid_to : (f : Family) (q : Question) (bs : List PacketBox) (cs : List Coordinate) (axes : List Axis) (xs : List ℕ)
    → AreAxesOf f q (own_box f q.term) bs cs axes → boxes.IsOnGrid axes xs → AreOnGrid f q cs xs
grid_to f q bs [] [] [] are on = tt
grid_to f q bs [] [] (x ∷ xs) are on = absurd on
grid_to f q bs [] (a ∷ axes) xs are on = absurd are
grid_to f q bs (c ∷ cs) [] xs are on = absurd are
grid_to f q bs (c ∷ cs) (a ∷ axes) [] are on = absurd on
grid_to f q bs (c ∷ cs) (a ∷ axes) (x ∷ xs) are on =
    ((axis_exact f q bs c a are.0 x).0 on.0, grid_to f q bs cs axes xs are.1 on.1)

-- the size is the product of the counts of the first coordinates and the size along those behind
pub product_is : (f : Family) (q : Question) (bs : List PacketBox) (cs more : List Coordinate) (axes : List Axis)
    → AreAxesOf f q (own_box f q.term) bs (cs ++ more) axes
    → (rest : List Axis) × AreAxesOf f q (own_box f q.term) bs more rest
    × IsProduct (map (λ c. boundary_along c f q) cs) (boxes.grid_size rest) (boxes.grid_size axes)
product_is f q bs [] more axes are = (axes, are, refl)
product_is f q bs (c ∷ cs) more [] are = absurd are
product_is f q bs (c ∷ cs) more (a ∷ axes) are =
    let r = product_is f q bs cs more axes are.1 in (
      r.0,
      r.1,
      (
        length a.values.items,
        boxes.grid_size axes,
        (a.values.items, are.0.values.rising, axis_exact f q bs c a are.0, refl),
        r.2,
        refl,
      ),
    )
