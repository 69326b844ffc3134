-- An output that compares: the bytes are the text exactly where all of it was taken and nothing differed.
use Rattle.std.proofs.Common.{◌≡◌, ℕ, zero, suc, ◌+◌, ◌<◌, ◌≤◌, Bool, true, false, cond, ◌==◌, List, [], ◌∷◌, ◌++◌, length, take, drop, get_or, Option, None, Some, is_none, refl, ap, sym, ◌∙◌, append_assoc, subst, arith}
use Rattle.std.specs.List.{common_prefix_len}
use Rattle.std.proofs.lemmas.Bool.{eqb-true, eq-eqb, false≢true}
use Rattle.std.proofs.lemmas.List.{drop-drop, length-drop, take-append-drop, take_more}
use Rattle.std.proofs.lemmas.List.Sums.{common_prefix_len-le}
use Rattle.std.proofs.lemmas.Option.{same_Some}
use Rattle.std.proofs.Math.Seq.{take-add, take-length}
use Rattle.acl_text.specs.Output.{AppendsFront, Rose}
use Rattle.acl_rows.specs.ComparingSteps.{taken, faults_of, IsCompared}

abbrev pub common : List ℕ → List ℕ → ℕ
common xs ys = common_prefix_len (λ a b. a == b) xs ys

-- the front that two texts share, and the first byte of the one behind it
one_more : (k : ℕ) → 1 + k ≡ suc k
one_more k = omega arith

same_front : (xs ys : List ℕ) → take (common xs ys) xs ≡ take (common xs ys) ys
same_front [] ys = refl
same_front (x ∷ xs) [] = refl
same_front (x ∷ xs) (y ∷ ys) = front_cases (x == y) refl (same_front xs ys) where
  front_cases : (t : Bool) → (x == y) ≡ t → take (common xs ys) xs ≡ take (common xs ys) ys
      → take (cond t (1 + common xs ys) 0) (x ∷ xs) ≡ take (cond t (1 + common xs ys) 0) (y ∷ ys)
  front_cases true e h =
      ap (λ n. take n (x ∷ xs)) (one_more (common xs ys)) ∙ ap (λ z. z ∷ take (common xs ys) xs) (eqb-true x y e) ∙ ap (λ t. y ∷ t) h
      ∙ sym (ap (λ n. take n (y ∷ ys)) (one_more (common xs ys)))
  front_cases false e h = refl

other_front : (xs ys more : List ℕ) → common xs ys < length ys → drop (common xs ys) xs ≡ get_or ys (common xs ys) 0 ∷ more → ⊥
other_front [] ys more h e = absurd cc
other_front (x ∷ xs) [] more h e = absurd (omega arith)
other_front (x ∷ xs) (y ∷ ys) more h e = front_cases (x == y) refl (other_front xs ys more) h e where
  front_cases : (t : Bool) → (x == y) ≡ t → (common xs ys < length ys → drop (common xs ys) xs ≡ get_or ys (common xs ys) 0 ∷ more → ⊥)
      → cond t (1 + common xs ys) 0 < length (y ∷ ys) → drop (cond t (1 + common xs ys) 0) (x ∷ xs) ≡ get_or (y ∷ ys) (cond t (1 + common xs ys) 0) 0 ∷ more → ⊥
  front_cases true e ih l f =
      let k = common xs ys in
      ih (omega arith) (sym (ap (λ n. drop n (x ∷ xs)) (one_more k)) ∙ f ∙ ap (λ n. get_or (y ∷ ys) n 0 ∷ more) (one_more k))
  front_cases false e ih l f = false≢true (sym e ∙ eq-eqb x y cc)

fits_still : (text bytes : List ℕ) (place : ℕ) → place ≤ length text → place + common (drop place text) bytes ≤ length text
fits_still text bytes place h =
    let fits = (common_prefix_len-le (λ a b. a == b) (drop place text) bytes).0 in
    omega (arith, h, fits, length-drop place text)

differs_there : (text bytes : List ℕ) (place : ℕ) → common (drop place text) bytes < length bytes
    → (byte : ℕ) → Some (get_or bytes (common (drop place text) bytes) 0) ≡ Some byte
    → (more : List ℕ) → drop (place + common (drop place text) bytes) text ≡ byte ∷ more → ⊥
differs_there text bytes place h byte e more f =
    let k = common (drop place text) bytes in
    other_front (drop place text) bytes more h (drop-drop k place text ∙ f ∙ ap (λ b. b ∷ more) (sym (same_Some (get_or bytes k 0) byte e)))

-- all bytes were taken, or some and the first that differs
pub takes_all : (text bytes : List ℕ) (place k : ℕ) (other : Option ℕ) → is_none other ≡ true → k ≡ common (drop place text) bytes
    → k ≡ length bytes → Some (taken text (place + k) other) ≡ Some (taken text place other ++ bytes)
takes_all text bytes place k None h e l =
    ap Some (take-add place k text ∙ ap (λ t. take place text ++ t)
    (ap (λ n. take n (drop place text)) e ∙ same_front (drop place text) bytes ∙ ap (λ n. take n bytes) (sym e ∙ l) ∙ take-length bytes))
takes_all text bytes place k (Some byte) h e l = absurd (false≢true h)

pub takes_front : (text bytes : List ℕ) (place k : ℕ) (other : Option ℕ) → is_none other ≡ true → k ≡ common (drop place text) bytes
    → k < length bytes → AppendsFront bytes (Some (taken text place other)) (take (place + k) text ++ get_or bytes k 0 ∷ [])
takes_front text bytes place k None h e l =
    let last : List ℕ = get_or bytes k 0 ∷ [] in
    let front : take k (drop place text) ≡ take k bytes =
    ap (λ n. take n (drop place text)) e ∙ same_front (drop place text) bytes ∙ ap (λ n. take n bytes) (sym e) in (
      k + 1,
      ap (λ t. t ++ last) (take-add place k text ∙ ap (λ t. take place text ++ t) front)
          ∙ append_assoc (take place text) (take k bytes) last ∙ ap (λ t. take place text ++ t) (sym (take_more bytes k 0 l)),
    )
takes_front text bytes place k (Some byte) h e l = absurd (false≢true h)

pub compared_still : (text bytes : List ℕ) (place k : ℕ) → place ≤ length text → k ≡ common (drop place text) bytes → k < length bytes
    → IsCompared text (place + k) (Some (get_or bytes k 0))
compared_still text bytes place k h e l =
    let P : ℕ → Type 0 = λ n. n < length bytes → IsCompared text (place + n) (Some (get_or bytes n 0)) in
    subst P (sym e) (λ m. record { fits = fits_still text bytes place h; differs = differs_there text bytes place m }) l

pub first_fault : (other : Option ℕ) → is_none other ≡ true → Rose (faults_of other) 1
first_fault None h = omega arith
first_fault (Some byte) h = absurd (false≢true h)

-- all of a piece was taken: the bytes begin with it
pub all_taken : (bytes text : List ℕ) (place : ℕ) (other : Option ℕ) → is_none other ≡ true → Some (taken bytes place other) ≡ Some text
    → bytes ≡ text ++ drop place bytes
all_taken bytes text place None h e =
    sym (take-append-drop place bytes) ∙ ap (λ t. t ++ drop place bytes) (same_Some (take place bytes) text e)
all_taken bytes text place (Some byte) h e = absurd (false≢true h)

front_differs : (bytes : List ℕ) (place byte n : ℕ) → place ≤ length bytes → take place bytes ++ byte ∷ [] ≡ take n bytes
    → (more : List ℕ) × (drop place bytes ≡ byte ∷ more)
front_differs bytes zero byte zero h e = absurd cc
front_differs [] zero byte (suc n) h e = absurd cc
front_differs (b ∷ bs) zero byte (suc n) h e = (bs, cc)
front_differs [] (suc place) byte n h e = absurd (omega arith)
front_differs (b ∷ bs) (suc place) byte zero h e = absurd cc
front_differs (b ∷ bs) (suc place) byte (suc n) h e = front_differs bs place byte n (omega arith) cc

front_of : (n : ℕ) (text rest : List ℕ) → (m : ℕ) × (take n text ≡ take m (text ++ rest))
front_of zero text rest = (0, refl)
front_of (suc n) [] rest = (0, refl)
front_of (suc n) (t ∷ ts) rest = let f = front_of n ts rest in (suc f.0, ap (λ x. t ∷ x) f.1)

-- a byte differed: the bytes do not begin with the piece's text
pub none_taken : (own bytes text rest : List ℕ) (place : ℕ) (other : Option ℕ) → own ≡ bytes → IsCompared own place other
    → is_none other ≡ false → AppendsFront text (Some []) (taken own place other) → bytes ≡ text ++ rest → ⊥
none_taken own bytes text rest place None r c h f e = false≢true (sym h)
none_taken own bytes text rest place (Some byte) r c h f e =
    let within = front_of f.0 text rest in
    let d = front_differs own place byte within.0 c.fits (f.1 ∙ within.1 ∙ ap (take within.0) (sym (r ∙ e))) in
    c.differs byte refl d.0 d.1
