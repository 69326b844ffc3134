-- Lists that stand one behind the other in one list.
use Rattle.std.proofs.Common.{◌≡◌, ℕ, zero, suc, ◌+◌, ◌-◌, ◌<◌, ◌≤◌, take, drop, get_or, List, [], ◌∷◌, ◌++◌, length, refl, ap, sym, ◌∙◌, subst, arith}
use Rattle.std.specs.List.{slice_range}
use Rattle.std.proofs.lemmas.List.{drop-append-le, drop_all, drop_at, length-drop, take-append-le, take_rest}
use Rattle.acl_naming.specs.Rows.{Ascend, begin_at, rows_of}

-- ---- where they begin

pub begin_past : (bs : List ℕ) (i end : ℕ) → length bs ≤ i → begin_at bs i end ≡ end
begin_past [] i end h = refl
begin_past (b ∷ bs) zero end h = absurd (omega arith)
begin_past (b ∷ bs) (suc i) end h = begin_past bs i end (omega arith)

pub begin_get : (bs : List ℕ) (i d end : ℕ) → i < length bs → get_or bs i d ≡ begin_at bs i end
begin_get [] i d end h = absurd (omega arith)
begin_get (b ∷ bs) zero d end h = refl
begin_get (b ∷ bs) (suc i) d end h = begin_get bs i d end (omega arith)

pub begin_within : (bs : List ℕ) (i end : ℕ) → Ascend bs end → begin_at bs i end ≤ end
begin_within [] i end h = omega arith
begin_within (b ∷ bs) zero end h = omega (arith, h.0, begin_within bs 0 end h.1)
begin_within (b ∷ bs) (suc i) end h = begin_within bs i end h.1

pub begin_rises : (bs : List ℕ) (i end : ℕ) → Ascend bs end → begin_at bs i end ≤ begin_at bs (suc i) end
begin_rises [] i end h = omega arith
begin_rises (b ∷ bs) zero end h = h.0
begin_rises (b ∷ bs) (suc i) end h = begin_rises bs i end h.1

pub begin_next : (bs : List ℕ) (i end : ℕ) → begin_at bs (i + 1) end ≡ begin_at bs (suc i) end
begin_next bs i end =
    let next : i + 1 ≡ suc i = omega arith in
    ap (λ n. begin_at bs n end) next

-- ---- one more

pub begin_behind : (bs : List ℕ) (n end : ℕ) → begin_at (bs ++ n ∷ []) 0 end ≡ begin_at bs 0 n
begin_behind [] n end = refl
begin_behind (b ∷ bs) n end = refl

pub ascend_more : (bs : List ℕ) (n end : ℕ) → Ascend bs n → n ≤ end → Ascend (bs ++ n ∷ []) end
ascend_more [] n end h l = (l, tt)
ascend_more (b ∷ bs) n end h l = (subst (λ (e : ℕ). b ≤ e) (sym (begin_behind bs n end)) h.0, ascend_more bs n end h.1 l)

pub ascend_on : (bs : List ℕ) (n end : ℕ) → Ascend bs n → n ≤ end → Ascend bs end
ascend_on [] n end h l = tt
ascend_on (b ∷ []) n end h l = (omega (arith, h.0, l), tt)
ascend_on (b ∷ c ∷ bs) n end h l = (h.0, ascend_on (c ∷ bs) n end h.1 l)

-- ---- what stands between two places

pub slice_kept : {X : Type 0} (xs ys : List X) (a b : ℕ) → a ≤ b → b ≤ length xs → slice_range (xs ++ ys) a b ≡ slice_range xs a b
slice_kept xs ys a b h l =
    ap (take (b - a)) (drop-append-le a xs ys (omega (arith, h, l)))
    ∙ take-append-le (b - a) (drop a xs) ys (omega (arith, h, l, length-drop a xs))

pub slice_none : {X : Type 0} (xs : List X) → slice_range xs (length xs) (length xs) ≡ []
slice_none xs = take_rest xs (length xs) ∙ drop_all (length xs) xs (omega arith)

pub slice_more : {X : Type 0} (xs ys : List X) (a : ℕ) → a ≤ length xs
    → slice_range (xs ++ ys) a (length (xs ++ ys)) ≡ slice_range xs a (length xs) ++ ys
slice_more xs ys a h =
    take_rest (xs ++ ys) a ∙ drop-append-le a xs ys h ∙ ap (λ t. t ++ ys) (sym (take_rest xs a))

slice_new : {X : Type 0} (xs ys : List X) → slice_range (xs ++ ys) (length xs) (length (xs ++ ys)) ≡ ys
slice_new xs ys = take_rest (xs ++ ys) (length xs) ∙ drop_at xs ys (length xs) refl

-- ---- the lists

pub length_rows : {X : Type 0} (bs : List ℕ) (items : List X) → length (rows_of bs items) ≡ length bs
length_rows [] items = refl
length_rows (b ∷ bs) items = ap suc (length_rows bs items)

pub row_is : {X : Type 0} (bs : List ℕ) (items : List X) (i : ℕ) (d : List X) → i < length bs
    → slice_range items (begin_at bs i (length items)) (begin_at bs (suc i) (length items)) ≡ get_or (rows_of bs items) i d
row_is [] items i d h = absurd (omega arith)
row_is (b ∷ bs) items zero d h = refl
row_is (b ∷ bs) items (suc i) d h = row_is bs items i d (omega arith)

-- what stands between the places where a list begins and where it ends
pub row_bounds : {X : Type 0} (bs : List ℕ) (items all : List X) (i from end : ℕ) → all ≡ items → from ≡ begin_at bs i (length all)
    → end ≡ begin_at bs (i + 1) (length all) → Ascend bs (length items) → (from ≤ end) × (end ≤ length all)
row_bounds bs items all i from end same f e h =
    let long = ap (λ t. length t) same in
    let n = length items in
    let first : from ≡ begin_at bs i n = f ∙ ap (begin_at bs i) long in
    let last : end ≡ begin_at bs (suc i) n = e ∙ ap (begin_at bs (i + 1)) long ∙ begin_next bs i n in
    (omega (arith, first, last, begin_rises bs i n h), omega (arith, last, long, begin_within bs (suc i) n h))

pub row_taken : {X : Type 0} (bs : List ℕ) (items all : List X) (i from end : ℕ) → all ≡ items → from ≡ begin_at bs i (length all)
    → end ≡ begin_at bs (i + 1) (length all)
    → slice_range all from end ≡ slice_range items (begin_at bs i (length items)) (begin_at bs (suc i) (length items))
row_taken bs items all i from end same f e =
    ap (λ a. slice_range all a end) f
    ∙ ap (slice_range all (begin_at bs i (length all))) (e ∙ begin_next bs i (length all))
    ∙ ap (λ t. slice_range t (begin_at bs i (length t)) (begin_at bs (suc i) (length t))) same

-- one list more, whose items stand behind the others
pub row_behind : {X : Type 0} (bs : List ℕ) (xs ys : List X) → Ascend bs (length xs)
    → rows_of (bs ++ length xs ∷ []) (xs ++ ys) ≡ rows_of bs xs ++ ys ∷ []
row_behind [] xs ys h = ap (λ t. t ∷ []) (slice_new xs ys)
row_behind (b ∷ bs) xs ys h =
    let end = length xs in
    let rest = rows_of (bs ++ end ∷ []) (xs ++ ys) in
    ap (λ e. slice_range (xs ++ ys) b e ∷ rest) (begin_behind bs end (length (xs ++ ys)))
    ∙ ap (λ t. t ∷ rest) (slice_kept xs ys b (begin_at bs 0 end) h.0 (begin_within bs 0 end h.1))
    ∙ ap (λ t. slice_range xs b (begin_at bs 0 end) ∷ t) (row_behind bs xs ys h.1)
