-- What is found among the numbers is what the term decides.
use Rattle.std.proofs.Common.{◌≡◌, ℕ, ◌<◌, ◌⊎◌, Bool, true, false, not, ◌||◌, nat_lt, arith, List, [], ◌∷◌, ◌++◌, length, flat_map, map, refl, sym, ap, ◌∙◌, subst, inl, inr, ◌+◌, get_or, take, drop, Option, None, Result, Ok, Err}
use Rattle.std.specs.Result.{IfOk}
use Rattle.std.proofs.lemmas.List.{drop_more}
use Rattle.acl_host.specs.declared.days.Day.{Day}
use Rattle.acl_target.specs.declared.targets.Target.{Target}
use Rattle.acl_dead.specs.declared.decisions.Decided.{Decided}
use Rattle.std.proofs.lemmas.Bool.{and_parts, and_from, or_from, ltb-true, lt-ltb, cases_Bool, false_from_ne_true, false≢true}
use Rattle.std.proofs.lemmas.List.Folds.{list_any-append}
use Rattle.std.specs.List.{All, filter, list_any}
use Rattle.acl_packet.specs.declared.addresses.Family.{Family}
use Rattle.acl_packet.specs.declared.addresses.Family.TheVariants.{V4, V6}
use Rattle.acl_packet.specs.declared.packets.Packet.{Packet}
use Rattle.acl_packet.specs.Addresses.{covers}
use Rattle.acl_packet.specs.Packets.{IsPacket, fields, number_of}
use Rattle.acl_terms.specs.declared.terms.Term.{Term}
use Rattle.acl_terms.specs.declared.options.Mode.{Mode}
use Rattle.acl_terms.specs.Outcomes.{mode_of}
use Rattle.acl_terms.specs.Resolved.{IsEmptyIn, matches}
use Rattle.acl_terms.proofs.PairLaws.{empty_matches_none}
use Rattle.acl_dead.specs.declared.axes.Axis.{Axis}
use Rattle.acl_dead.specs.Boxes as boxes
use Rattle.acl_dead.specs.Order.{IsBefore}
use Rattle.term_boxes.specs.Bars.{bars}
use Rattle.term_boxes.specs.Boxes.{has, hold, sides_of}
use Rattle.term_boxes.specs.Coordinates.{AreWithin, FieldsFit, numbers_of, packet_at, tops_of}
use Rattle.term_boxes.specs.TermBoxes.{boxes_of, failing_boxes, own_box}
use Rattle.term_boxes.proofs.BarLaws.{bars-tell}
use Rattle.term_boxes.proofs.CoordinateLaws.{come-back, fit}
use Rattle.term_boxes.proofs.TermLaws.{are-boxes, fail-in-boxes, fields-fit}
use Rattle.acl_dead.specs.ApartSteps.{apart}
use Rattle.acl_dead.specs.BlockSteps.{blocks_of, met_by}
use Rattle.acl_dead.specs.CoordinateSteps.{coordinates}
use Rattle.acl_dead.specs.Deciding.{Answers, AnswersFirst, ComesBefore, Decides, IsDead, IsDecided, IsFirst, IsSuch, IsTooLarge, IsTooLargeIn, Question, connection_place, family_place, is_live_on, most_packets, question_of}
use Rattle.acl_dead.specs.GridSteps.{AreAxesIn, HasPackets, IsDeadIn, IsFirstIn, NoPackets, box_count}
use Rattle.acl_dead.proofs.ApartLaws.{both_own}
use Rattle.acl_dead.proofs.AxisLaws.{AreOnGrid, all_ready, asked_hold, clear_none, grid_from, grid_to, hold_asked, hold_length, none_clear, own_within, sides_along}
use Rattle.acl_dead.proofs.EndLaws.{any_kept, blocks_end}
use Rattle.acl_dead.proofs.OneAnswer.{one_size}
use Rattle.acl_dead.proofs.PacketLaws.{numbers_before, numbers_on, on_numbers, size_is}

-- ---- what the boxes say of a packet

any_flat : {A B : Type 0} (test : B → Bool) (rows : A → List B) (xs : List A)
    → list_any test (flat_map rows xs) ≡ list_any (λ x. list_any test (rows x)) xs
any_flat test rows [] = refl
any_flat test rows (x ∷ xs) =
    list_any-append test (rows x) (flat_map rows xs) ∙ ap (λ b. list_any test (rows x) || b) (any_flat test rows xs)

any_same : {A : Type 0} (p r : A → Bool) (xs : List A) → ((x : A) → p x ≡ r x) → list_any p xs ≡ list_any r xs
any_same p r [] e = refl
any_same p r (x ∷ xs) e = ap (λ b. b || list_any p xs) (e x) ∙ ap (λ b. r x || b) (any_same p r xs e)

first_false : (a b : Bool) → (a || b) ≡ false → a ≡ false
first_false false b e = refl
first_false true b e = absurd (false≢true (sym e))

second_false : (a b : Bool) → (a || b) ≡ false → b ≡ false
second_false false b e = e
second_false true b e = absurd (false≢true (sym e))

earlier_tell : (q : Question) (p : Packet) (ts : List Term) → IsPacket p
    → list_any (has p) (flat_map (λ t. boxes_of p.family (mode_of q.target) t) ts) ≡ list_any (λ t. matches (mode_of q.target) t p) ts
earlier_tell q p ts packet =
    any_flat (has p) (λ t. boxes_of p.family (mode_of q.target) t) ts
    ∙ any_same (λ t. list_any (has p) (boxes_of p.family (mode_of q.target) t)) (λ t. matches (mode_of q.target) t p) ts
    (λ t. sym (are-boxes (mode_of q.target) t p packet))

-- where no term matches, none of those that are met does
none_met : (g kept : Term → Bool) (ts : List Term) → list_any g ts ≡ false → list_any g (filter kept ts) ≡ false
none_met g kept ts none = false_from_ne_true _ (λ h. false≢true (sym none ∙ any_kept g kept ts h))

-- a term that matches a packet of the own sets is met
matching_met : (q : Question) (p : Packet) (u : Term) → IsPacket p → has p (own_box p.family q.term) ≡ true
    → apart p.family q.term u ≡ true → matches (mode_of q.target) u p ≡ false
matching_met q p u packet own off = false_from_ne_true _ (λ h.
    both_own p q.term u own
    (and_parts (has p (own_box p.family u)) _ (sym (fail-in-boxes (mode_of q.target) u p packet) ∙ h)).0 off)

none_earlier : (q : Question) (p : Packet) (ts : List Term) → IsPacket p → has p (own_box p.family q.term) ≡ true
    → list_any (λ t. matches (mode_of q.target) t p) (met_by p.family q.term ts) ≡ false
    → list_any (λ t. matches (mode_of q.target) t p) ts ≡ false
none_earlier q p [] packet own none = none
none_earlier q p (u ∷ ts) packet own none = elim (cases_Bool (apart p.family q.term u)) [
  | inl off ↦ or_from _ _ (matching_met q p u packet own off) (none_earlier q p ts packet own (rw off at none))
  | inr met ↦
      let parts : (matches (mode_of q.target) u p || list_any (λ t. matches (mode_of q.target) t p) (met_by p.family q.term ts)) ≡ false = rw met at none in
      or_from _ _ (first_false _ _ parts) (none_earlier q p ts packet own (second_false _ _ parts))
]

parts_tell : (q : Question) (p : Packet)
    → list_any (has p) (blocks_of p.family q)
    ≡ ((list_any (has p) (bars p.family) || list_any (has p) (failing_boxes p.family (mode_of q.target) q.term))
    || list_any (has p) (flat_map (λ t. boxes_of p.family (mode_of q.target) t) (met_by p.family q.term q.earlier)))
parts_tell q p =
    list_any-append (has p) (bars p.family ++ failing_boxes p.family (mode_of q.target) q.term) (flat_map (λ t. boxes_of p.family (mode_of q.target) t) (met_by p.family q.term q.earlier))
    ∙ ap (λ b. b || list_any (has p) (flat_map (λ t. boxes_of p.family (mode_of q.target) t) (met_by p.family q.term q.earlier)))
    (list_any-append (has p) (bars p.family) (failing_boxes p.family (mode_of q.target) q.term))

not_true : (b : Bool) → not b ≡ true → b ≡ false
not_true false e = refl
not_true true e = absurd (false≢true e)

own_has : (q : Question) (p : Packet) → IsPacket p → IsDecided q p → has p (own_box p.family q.term) ≡ true
own_has q p packet d =
    (and_parts (has p (own_box p.family q.term)) _ (sym (fail-in-boxes (mode_of q.target) q.term p packet) ∙ d.matched)).0

blocks_lack : (q : Question) (p : Packet) → IsPacket p → IsDecided q p → list_any (has p) (blocks_of p.family q) ≡ false
blocks_lack q p packet d =
    parts_tell q p ∙ or_from _ _
    (or_from _ _ ((bars-tell p (fields-fit p packet)).0 packet)
    (not_true _ (and_parts (has p (own_box p.family q.term)) _ (sym (fail-in-boxes (mode_of q.target) q.term p packet) ∙ d.matched)).1))
    (earlier_tell q p (met_by p.family q.term q.earlier) packet
    ∙ none_met (λ t. matches (mode_of q.target) t p) (λ u. not (apart p.family q.term u)) q.earlier d.not_earlier)

clear_packet : (q : Question) (p : Packet) → FieldsFit p → list_any (has p) (blocks_of p.family q) ≡ false → IsPacket p
clear_packet q p fits none =
    (bars-tell p fits).1 (first_false _ _ (first_false _ _ (sym (parts_tell q p) ∙ none)))

clear_decided : (q : Question) (p : Packet) → is_live_on q.target q.today q.term ≡ true → IsPacket p
    → has p (own_box p.family q.term) ≡ true → list_any (has p) (blocks_of p.family q) ≡ false → IsDecided q p
clear_decided q p live packet own none =
    let parts = sym (parts_tell q p) ∙ none in record {
      live = live;
      matched = fail-in-boxes (mode_of q.target) q.term p packet
          ∙ and_from _ _ own (ap not (second_false _ _ (first_false _ _ parts)));
      not_earlier = none_earlier q p q.earlier packet own
          (sym (earlier_tell q p (met_by p.family q.term q.earlier) packet) ∙ second_false _ _ parts);
    }

-- ---- a packet that the term decides, by its numbers

asked_by : (f : Family) (q : Question) (axes : List Axis) (p : Packet) → AreAxesIn f q axes → p.family ≡ f → IsPacket p → IsDecided q p
    → boxes.IsAsked axes (numbers_of p)
asked_by f q axes p are e packet d =
    hold_asked f q (own_box f q.term) (blocks_of f q) coordinates axes (numbers_of p) are
    (subst (λ (g : Family). has p (own_box g q.term) ≡ true) e (own_has q p packet d))

clear_by : (f : Family) (q : Question) (axes : List Axis) (p : Packet) → AreAxesIn f q axes → p.family ≡ f → IsPacket p → IsDecided q p
    → boxes.IsClear axes (length (blocks_of f q)) (numbers_of p)
clear_by f q axes p are e packet d =
    none_clear f q (own_box f q.term) (blocks_of f q) coordinates axes (numbers_of p) are refl
    (subst (λ (g : Family). list_any (has p) (blocks_of g q) ≡ false) e (blocks_lack q p packet d))

pub found_none : (f : Family) (q : Question) (axes : List Axis) → AreAxesIn f q axes → boxes.FindsClear axes (length (blocks_of f q)) None
    → IsDeadIn f q
found_none f q axes are none p e of d =
    none (numbers_of p) (asked_by f q axes p are e of.packet d) (clear_by f q axes p are e of.packet d)

-- ---- the numbers that are found, as a packet

pub within : (f : Family) (q : Question) (axes : List Axis) (ys : List ℕ) → AreAxesIn f q axes → boxes.IsAsked axes ys
    → AreWithin (tops_of f) ys
within f q axes ys are asked =
    own_within f q.term coordinates ys (asked_hold f q (own_box f q.term) (blocks_of f q) coordinates axes ys are asked)

such_found : (f : Family) (q : Question) (axes : List Axis) (ys : List ℕ) → AreAxesIn f q axes → is_live_on q.target q.today q.term ≡ true
    → covers q.target.families f ≡ true → boxes.IsFirstClear axes (length (blocks_of f q)) ys → IsSuch q (packet_at f ys)
such_found f q axes ys are live of found =
    let p = packet_at f ys in
    let back = come-back f ys (within f q axes ys are found.asked) in
    let fits = fit f ys (within f q axes ys are found.asked) in
    let own_ys = asked_hold f q (own_box f q.term) (blocks_of f q) coordinates axes ys are found.asked in
    let own : has p (own_box f q.term) ≡ true =
    subst (λ (zs : List ℕ). hold (sides_of (own_box f q.term)) zs ≡ true) (sym back) own_ys in
    let clear : list_any (has p) (blocks_of f q) ≡ false =
    subst (λ (zs : List ℕ). list_any (λ s. hold (sides_of s) zs) (blocks_of f q) ≡ false) (sym back)
    (clear_none f q (own_box f q.term) (blocks_of f q) coordinates axes ys are
    (hold_length (sides_along coordinates (own_box f q.term)) ys own_ys) found.clear) in
    let packet = clear_packet q p fits clear in record {
      of_target = record { packet = packet; of_family = of };
      on_grid = on_numbers q p fits.flags_fit
          (subst (λ (zs : List ℕ). AreOnGrid f q coordinates zs) (sym back) (grid_to f q (blocks_of f q) coordinates axes ys are found.on_grid));
      decided = clear_decided q p live packet own clear;
    }

pub found_some : (f : Family) (q : Question) (axes : List Axis) (ys : List ℕ) → AreAxesIn f q axes → is_live_on q.target q.today q.term ≡ true
    → covers q.target.families f ≡ true → boxes.IsFirstClear axes (length (blocks_of f q)) ys → IsFirstIn f q (packet_at f ys)
found_some f q axes ys are live of found =
    let p = packet_at f ys in
    let such = such_found f q axes ys are live of found in
    let back = come-back f ys (within f q axes ys are found.asked) in record {
      family = refl;
      such = such;
      first = λ other e s less.
          let small = (fields-fit other s.of_target.packet).flags_fit in
          let fits = (fields-fit p such.of_target.packet).flags_fit in
          found.first (numbers_of other)
          (grid_from f q (blocks_of f q) coordinates axes (numbers_of other) are
          (subst (λ (g : Family). AreOnGrid g q coordinates (numbers_of other)) e (numbers_on q other small s.on_grid)))
          (subst (λ (zs : List ℕ). IsBefore (numbers_of other) zs) back
          (numbers_before q other p e small fits s.on_grid such.on_grid less))
          (clear_by f q axes other are e s.of_target.packet s.decided);
    }

-- ---- the axes

pub axes_ready : (f : Family) (q : Question) (axes : List Axis) → AreAxesIn f q axes → All (boxes.IsReady (length (blocks_of f q))) axes
axes_ready f q axes are = all_ready f q (blocks_of f q) (blocks_end f q) coordinates axes are

pub count_is : (f : Family) (q : Question) (axes : List Axis) → AreAxesIn f q axes → box_count axes ≡ length (blocks_of f q)
count_is f q [] are = absurd are
count_is f q (a ∷ axes) are =
    let ready : boxes.IsReady (length (blocks_of f q)) a = axes_ready f q (a ∷ axes) are 0 a (omega arith) in
    ready.sides

-- ---- too many

pub large : (f : Family) (q : Question) (axes : List Axis) → AreAxesIn f q axes → HasPackets f q
    → nat_lt most_packets (boxes.grid_size axes) ≡ true → IsTooLargeIn q f
large f q axes are some h = record {
  of_target = some.of_target;
  not_empty = some.not_empty;
  too_many = (boxes.grid_size axes, size_is f q axes are, ltb-true most_packets (boxes.grid_size axes) h);
}

pub is_large : (f : Family) (q : Question) (axes : List Axis) → AreAxesIn f q axes → IsTooLargeIn q f
    → nat_lt most_packets (boxes.grid_size axes) ≡ true
is_large f q axes are t =
    let n = t.too_many.0 in
    let same = one_size f q n (boxes.grid_size axes) t.too_many.1 (size_is f q axes are) in
    lt-ltb most_packets (boxes.grid_size axes) (subst (λ (m : ℕ). most_packets < m) same t.too_many.2)

pub not_large_none : (f : Family) (q : Question) → NoPackets f q → IsTooLargeIn q f → ⊥
not_large_none f q (inl off) t = false≢true (sym off ∙ t.of_target)
not_large_none f q (inr empty) t = false≢true (sym t.not_empty ∙ empty.0)

none_matched : (f : Family) (q : Question) (p : Packet) → p.family ≡ f → (mode : Mode) → IsEmptyIn f q.term → matches mode q.term p ≡ false
none_matched f q p e mode empty = empty_matches_none mode q.term p (subst (λ (g : Family). IsEmptyIn g q.term) (sym e) empty)

pub dead_none : (f : Family) (q : Question) → NoPackets f q → IsDeadIn f q
dead_none f q (inl off) p e of d =
    false≢true (sym off ∙ sym (ap (λ g. covers q.target.families g) e) ∙ of.of_family)
dead_none f q (inr empty) p e of d =
    false≢true (sym (none_matched f q p e (mode_of q.target) empty.1) ∙ d.matched)

-- ---- both families

families : (f : Family) → (f ≡ V4) ⊎ (f ≡ V6)
families V4 = inl refl
families V6 = inr refl

later_family : (xs ys : List ℕ) (n m : ℕ) → n ≡ 1 → m ≡ 0 → IsBefore (n ∷ xs) (m ∷ ys) → ⊥
later_family xs ys n m e g (inl less) = omega arith
later_family xs ys n m e g (inr same) = let k = same.0 in omega arith

abbrev behind_family : Packet → List ℕ
behind_family p = p.src ∷ p.dst ∷ map (λ field. number_of field p) fields ++ p.flags ∷ connection_place p.conn ∷ []

before_ipv6 : (q : Question) (p other : Packet) → p.family ≡ V4 → (other.family ≡ V4 → ⊥) → ComesBefore other p → ⊥
before_ipv6 q p other e four less = elim (families other.family) [
  | inl g ↦ four g
  | inr g ↦ later_family (behind_family other) (behind_family p) (family_place other.family) (family_place p.family) (ap family_place g) (ap family_place e) less
]

large_by : (q : Question) → (IsTooLargeIn q V4 → ⊥) → (IsTooLargeIn q V6 → ⊥) → (f : Family) → IsTooLargeIn q f → ⊥
large_by q four six V4 t = four t
large_by q four six V6 t = six t

pub first_of_ipv4 : (q : Question) (p : Packet) → IsFirstIn V4 q p → IsFirst q p
first_of_ipv4 q p found = record {
  such = found.such;
  first = λ other s less. before_ipv6 q p other found.family (λ e. found.first other e s less) less;
}

pub first_of_ipv6 : (q : Question) (p : Packet) → IsDeadIn V4 q → IsFirstIn V6 q p → IsFirst q p
first_of_ipv6 q p dead found = record {
  such = found.such;
  first = λ other s less. elim (families other.family) [
    | inl e ↦ dead other e s.of_target s.decided
    | inr e ↦ found.first other e s less
  ];
}

pub dead_in_both : (q : Question) → IsDeadIn V4 q → IsDeadIn V6 q → IsDead q
dead_in_both q four six p of d = elim (families p.family) [
  | inl e ↦ four p e of d
  | inr e ↦ six p e of d
]

pub not_large : (q : Question) → (IsTooLargeIn q V4 → ⊥) → (IsTooLargeIn q V6 → ⊥) → IsTooLarge q → ⊥
not_large q four six t = large_by q four six t.some.0 t.some.1

-- ---- the same, as the code has it

pub not_false : (b : Bool) → not b ≡ false → b ≡ true
not_false true e = refl
not_false false e = absurd (false≢true (sym e))

pub counted : (f : Family) (q : Question) (axes bs : List Axis) (n : ℕ) → AreAxesIn f q axes → bs ≡ axes → n ≡ box_count bs
    → n ≡ length (blocks_of f q)
counted f q axes bs n are e count = count ∙ ap (λ (cs : List Axis). box_count cs) e ∙ count_is f q axes are

pub ready_for : (f : Family) (q : Question) (axes bs : List Axis) (n : ℕ) → AreAxesIn f q axes → bs ≡ axes → n ≡ length (blocks_of f q)
    → All (boxes.IsReady n) bs
ready_for f q axes bs n are e count =
    subst (λ (m : ℕ). All (boxes.IsReady m) bs) (sym count)
    (subst (λ (cs : List Axis). All (boxes.IsReady (length (blocks_of f q))) cs) (sym e) (axes_ready f q axes are))

pub finds : (f : Family) (q : Question) (axes bs : List Axis) (n : ℕ) (found other : Option (List ℕ)) → bs ≡ axes
    → n ≡ length (blocks_of f q) → found ≡ other → boxes.FindsClear bs n found
    → boxes.FindsClear axes (length (blocks_of f q)) other
finds f q axes bs n found other e count same h =
    subst (λ (o : Option (List ℕ)). boxes.FindsClear axes (length (blocks_of f q)) o) same
    (subst (λ (m : ℕ). boxes.FindsClear axes m found) count
    (subst (λ (cs : List Axis). boxes.FindsClear cs n found) e h))

pub decided : {E : Type 0} (terms : List Term) (target : Target) (today : Day) (place : ℕ) (t : Term) (q : Question)
    → place < length terms → t ≡ get_or terms place t → q ≡ question_of target today (take place terms) t
    → (r : Result Decided E) → IfOk r (λ d. Answers q d) → IfOk r (λ d. Decides terms target today place d)
decided terms target today place t q lt is e (Err f) h = tt
decided terms target today place t q lt is e (Ok d) h =
    let here : drop place terms ≡ t ∷ drop (place + 1) terms =
    drop_more terms place t lt ∙ ap (λ u. u ∷ drop (place + 1) terms) (sym is) in
    subst (λ (ts : List Term). AnswersFirst target today (take place terms) ts d) (sym here)
    (subst (λ (p : Question). Answers p d) e h)
