-- Lists of references and of lists, as the code has them.
use Rattle.std.proofs.Common.{true, false, append-nil, ◌≡◌, ℕ, ◌+◌, ◌<◌, ◌≤◌, drop, get_or, length, Bool, ◌||◌, List, [], ◌∷◌, ◌++◌, Bor, flat_map, map, refl, sym, ap, ◌∙◌}
use Rattle.std.proofs.lemmas.List.{append_assoc, drop_all, drop_more, map-append}
use Rattle.std.specs.List.{list_any}
use Rattle.acl_terms.specs.declared.terms.Term.{Term}
use Rattle.acl_packet.specs.declared.addresses.Family.{Family}
use Rattle.acl_terms.specs.declared.options.Mode.{Mode}
use Rattle.term_boxes.specs.Bars.{bars}
use Rattle.term_boxes.specs.TermBoxes.{boxes_of, failing_boxes}
use Rattle.std.proofs.lemmas.Grind.{flat_map-append}
use Rattle.acl_dead.specs.ApartSteps.{apart}
use Rattle.acl_dead.specs.BlockSteps.{met_by}
use Rattle.term_boxes.specs.declared.boxes.PacketBox.{PacketBox}

pub any_now : (p : Term → Bool) (ts : List (Bor Term)) → list_any (λ (t : Bor Term). p t.now) ts ≡ list_any p (map (λ (t : Bor Term). t.now) ts)
any_now p [] = refl
any_now p (t ∷ ts) = ap (λ b. p t.now || b) (any_now p ts)

pub flat_now : {A : Type 0} (g : Term → List A) (ts : List (Bor Term))
    → flat_map (λ (t : Bor Term). g t.now) ts ≡ flat_map g (map (λ (t : Bor Term). t.now) ts)
flat_now g [] = refl
flat_now g (t ∷ ts) = ap (λ xs. g t.now ++ xs) (flat_now g ts)

pub map_flat : {A B : Type 0} (g : A → B) (lists : List (List A)) → flat_map (λ xs. map g xs) lists ≡ map g (flat_map (λ xs. xs) lists)
map_flat g [] = refl
map_flat g (xs ∷ lists) = ap (λ ys. map g xs ++ ys) (map_flat g lists) ∙ sym (map-append g xs (flat_map (λ ys. ys) lists))

pub three_parts : {A : Type 0} (g h : Term → List A) (none first second third : List A) (ts us vs : List (Bor Term)) (t : Term)
    → none ≡ [] → us ≡ ts → vs ≡ ts → first ≡ none ++ flat_map (λ (u : Bor Term). g u.now) us
    → second ≡ first ++ (h t ++ []) → third ≡ second ++ flat_map (λ (u : Bor Term). h u.now) vs
    → third ≡ flat_map g (map (λ (u : Bor Term). u.now) ts) ++ flat_map h (t ∷ map (λ (u : Bor Term). u.now) ts)
three_parts g h none first second third ts us vs t e eu ev a b c =
    let later = flat_map h (map (λ (u : Bor Term). u.now) ts) in
    let earlier = flat_map g (map (λ (u : Bor Term). u.now) ts) in
    let x : first ≡ earlier = a ∙ ap (λ xs. xs ++ flat_map (λ (u : Bor Term). g u.now) us) e
    ∙ ap (λ (ws : List (Bor Term)). flat_map (λ (u : Bor Term). g u.now) ws) eu ∙ flat_now g ts in
    let z : flat_map (λ (u : Bor Term). h u.now) vs ≡ later =
    ap (λ (ws : List (Bor Term)). flat_map (λ (u : Bor Term). h u.now) ws) ev ∙ flat_now h ts in
    c ∙ ap (λ xs. second ++ xs) z ∙ ap (λ xs. xs ++ later) (b ∙ ap (λ xs. xs ++ (h t ++ [])) x ∙ ap (λ xs. earlier ++ xs) (append-nil (h t)))
    ∙ append_assoc earlier (h t) later

pub left_all : {A B : Type 0} (g : A → List B) (out : List B) (items all : List A) (k : ℕ) → length items ≤ k → items ≡ all
    → out ++ flat_map g (drop k items) ≡ flat_map g items → out ≡ flat_map g all
left_all g out items all k past same e =
    sym (append-nil out) ∙ ap (λ xs. out ++ flat_map g xs) (sym (drop_all k items past)) ∙ e ∙ ap (λ xs. flat_map g xs) same

pub left_more : {A B : Type 0} (g : A → List B) (old new total : List B) (items : List A) (i : ℕ) (x : A) → i < length items
    → x ≡ get_or items i x → new ≡ old ++ g x → old ++ flat_map g (drop i items) ≡ total
    → new ++ flat_map g (drop (i + 1) items) ≡ total
left_more g old new total items i x lt is put e =
    let rest = flat_map g (drop (i + 1) items) in
    ap (λ xs. xs ++ rest) put ∙ append_assoc old (g x) rest
    ∙ ap (λ y. old ++ (g y ++ rest)) is
    ∙ sym (ap (λ ys. old ++ flat_map g ys) (drop_more items i x lt)) ∙ e

pub blocks_made : (f : Family) (mode other : Mode) (t : Term) (none first second : List (List PacketBox)) (bs fs out : List PacketBox)
    (ts us : List (Bor Term)) → none ≡ [] → first ≡ none ++ bs ∷ [] → second ≡ first ++ fs ∷ [] → bs ≡ bars f
    → fs ≡ failing_boxes f mode t → us ≡ ts → mode ≡ other
    → out ≡ flat_map (λ (xs : List PacketBox). xs) second ++ flat_map (λ u. boxes_of f mode u) (met_by f t (map (λ (u : Bor Term). u.now) us))
    → out ≡ (bars f ++ failing_boxes f other t) ++ flat_map (λ u. boxes_of f other u) (met_by f t (map (λ (u : Bor Term). u.now) ts))
blocks_made f mode other t none first second bs fs out ts us en ea eb ebs efs eu em h =
    let earlier = flat_map (λ u. boxes_of f mode u) (met_by f t (map (λ (u : Bor Term). u.now) us)) in
    let flat : flat_map (λ (xs : List PacketBox). xs) second ≡ bars f ++ failing_boxes f mode t =
    ap (λ (xs : List (List PacketBox)). flat_map (λ (ys : List PacketBox). ys) xs)
    (eb ∙ ap (λ (xs : List (List PacketBox)). xs ++ fs ∷ []) (ea ∙ ap (λ (xs : List (List PacketBox)). xs ++ bs ∷ []) en))
    ∙ ap (λ (xs : List PacketBox). bs ++ xs) (append-nil fs) ∙ ap (λ (xs : List PacketBox). xs ++ fs) ebs
    ∙ ap (λ (xs : List PacketBox). bars f ++ xs) efs in
    h ∙ ap (λ (xs : List PacketBox). xs ++ earlier) flat
    ∙ ap (λ (ws : List (Bor Term)). (bars f ++ failing_boxes f mode t) ++ flat_map (λ u. boxes_of f mode u) (met_by f t (map (λ (u : Bor Term). u.now) ws))) eu
    ∙ ap (λ m. (bars f ++ failing_boxes f m t) ++ flat_map (λ u. boxes_of f m u) (met_by f t (map (λ (u : Bor Term). u.now) ts))) em

-- ---- earlier terms, one more

abbrev pub left_boxes : Family → Mode → Term → List (Bor Term) → List PacketBox
left_boxes f mode t vs = flat_map (λ u. boxes_of f mode u) (met_by f t (map (λ (v : Bor Term). v.now) vs))

next_left : (os : List (Bor Term)) (i : ℕ) (u : Bor Term) → i < length os → u ≡ get_or os i u → drop i os ≡ u ∷ drop (i + 1) os
next_left os i u lt is = drop_more os i u lt ∙ ap (λ (v : Bor Term). v ∷ drop (i + 1) os) (sym is)

pub apart_step : (f : Family) (mode : Mode) (t : Term) (os : List (Bor Term)) (i : ℕ) (u : Bor Term) (out total : List PacketBox) → i < length os
    → u ≡ get_or os i u → apart f t u.now ≡ true → out ++ left_boxes f mode t (drop i os) ≡ total
    → out ++ left_boxes f mode t (drop (i + 1) os) ≡ total
apart_step f mode t os i u out total lt is off e =
    let gone : left_boxes f mode t (u ∷ drop (i + 1) os) ≡ left_boxes f mode t (drop (i + 1) os) = rw off refl in
    sym (ap (λ (vs : List (Bor Term)). out ++ left_boxes f mode t vs) (next_left os i u lt is) ∙ ap (λ (bs : List PacketBox). out ++ bs) gone) ∙ e

pub met_step : (f : Family) (mode : Mode) (t : Term) (os : List (Bor Term)) (i : ℕ) (u : Bor Term) (old new : List (List PacketBox)) (b total : List PacketBox)
    → i < length os → u ≡ get_or os i u → apart f t u.now ≡ false → b ≡ boxes_of f mode u.now → new ≡ old ++ b ∷ []
    → flat_map (λ (xs : List PacketBox). xs) old ++ left_boxes f mode t (drop i os) ≡ total
    → flat_map (λ (xs : List PacketBox). xs) new ++ left_boxes f mode t (drop (i + 1) os) ≡ total
met_step f mode t os i u old new b total lt is met eb put e =
    let rest = left_boxes f mode t (drop (i + 1) os) in
    let flat = flat_map (λ (xs : List PacketBox). xs) old in
    let here : left_boxes f mode t (u ∷ drop (i + 1) os) ≡ boxes_of f mode u.now ++ rest = rw met refl in
    ap (λ (xs : List (List PacketBox)). flat_map (λ (ys : List PacketBox). ys) xs ++ rest) put
    ∙ ap (λ (xs : List PacketBox). xs ++ rest) (flat_map-append (λ (ys : List PacketBox). ys) old (b ∷ [])
    ∙ ap (λ (xs : List PacketBox). flat ++ xs) (append-nil b ∙ eb))
    ∙ append_assoc flat (boxes_of f mode u.now) rest
    ∙ sym (ap (λ (vs : List (Bor Term)). flat ++ left_boxes f mode t vs) (next_left os i u lt is) ∙ ap (λ (bs : List PacketBox). flat ++ bs) here) ∙ e
