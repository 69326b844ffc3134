-- What a text of rows begins with: its first row, and items of rows.
use Rattle.std.proofs.Common.{◌≡◌, ℕ, ◌+◌, ◌<◌, Bool, true, false, List, [], ◌∷◌, ◌++◌, length, flat_map, Some, refl, ap, sym, ◌∙◌, append_assoc, subst, arith}
use Rattle.std.specs.List.{AllByRecursion, join_with_byte}
use Rattle.std.proofs.lemmas.Bool.{false≢true}
use Rattle.std.proofs.lemmas.List.{length-append}
use Rattle.std.proofs.lemmas.Option.{some_pair_parts}
use Rattle.acl_text.specs.Cuts.{cut_at}
use Rattle.acl_text.proofs.ListLaws.{all_append}
use Rattle.acl_rows.specs.Rows.{Row, row, row_line, row_text, text_of_rows, words_in}
use Rattle.acl_rows.specs.RowSteps.{IsRow}
use Rattle.acl_rows.proofs.PutLaws.{rows_append}
use Rattle.acl_rows.proofs.RowLaws.{line_there, words_there}
use Rattle.ipt_lang.specs.ScanSteps.{Lacks, before_cut, first_line}

-- ---- one row

-- what stands behind the first row
pub row_first : (r : Row) (rows : List Row) (more : List ℕ) → text_of_rows (r ∷ rows) ++ more ≡ row_text r ++ (text_of_rows rows ++ more)
row_first r rows more = append_assoc (row_text r) (text_of_rows rows) more

pub first_cut : (ws : List (List ℕ)) (rows : List Row) (more : List ℕ) → IsRow (row 0 ws)
    → cut_at 10 (text_of_rows (row 0 ws ∷ rows) ++ more) ≡ Some (join_with_byte 32 ws, text_of_rows rows ++ more)
first_cut ws rows more h = ap (cut_at 10) (row_first (row 0 ws) rows more) ∙ line_there (row 0 ws) (text_of_rows rows ++ more) h

pub first_line_again : (ws : List (List ℕ)) (rows : List Row) (more : List ℕ) → IsRow (row 0 ws)
    → first_line (text_of_rows (row 0 ws ∷ rows) ++ more) ≡ join_with_byte 32 ws
unfolding first_line
first_line_again ws rows more h = ap (λ o. before_cut o (text_of_rows (row 0 ws ∷ rows) ++ more)) (first_cut ws rows more h)

-- a text begins with one row alone
pub row_once : (ws vs : List (List ℕ)) (rows others : List Row) (a b : List ℕ) → IsRow (row 0 ws) → IsRow (row 0 vs)
    → text_of_rows (row 0 ws ∷ rows) ++ a ≡ text_of_rows (row 0 vs ∷ others) ++ b → (ws ≡ vs) × (text_of_rows rows ++ a ≡ text_of_rows others ++ b)
row_once ws vs rows others a b h k e =
    let same = some_pair_parts _ _ _ _ (sym (first_cut ws rows a h) ∙ ap (cut_at 10) e ∙ first_cut vs others b k) in
    (sym (words_there ws h) ∙ ap words_in same.0 ∙ words_there vs k, same.1)

pub other_row : (test : List (List ℕ) → Bool) (ws vs : List (List ℕ)) (rows others : List Row) (a b : List ℕ) → IsRow (row 0 ws) → IsRow (row 0 vs)
    → test ws ≡ true → test vs ≡ false → text_of_rows (row 0 ws ∷ rows) ++ a ≡ text_of_rows (row 0 vs ∷ others) ++ b → ⊥
other_row test ws vs rows others a b h k t f e =
    let same = row_once ws vs rows others a b h k e in false≢true (sym f ∙ ap test (sym same.0) ∙ t)

pub no_row : (r : Row) (rows : List Row) (more : List ℕ) → [] ≡ text_of_rows (r ∷ rows) ++ more → ⊥
unfolding row_text
no_row r rows more e = none (row_line r) (text_of_rows rows ++ more) (e ∙ row_first r rows more) where
  none : (line rest : List ℕ) → [] ≡ (line ++ 10 ∷ []) ++ rest → ⊥
  none [] rest e = cc
  none (b ∷ line) rest e = cc

pub row_shorter : (r : Row) (rows : List Row) (text rest : List ℕ) → text ≡ text_of_rows (r ∷ rows) ++ rest → length rest < length text
unfolding row_text
row_shorter r rows text rest e =
    let front = row_line r ++ 10 ∷ [] in
    let middle = text_of_rows rows in
    let all : length text ≡ length front + (length middle + length rest) =
    ap length (e ∙ row_first r rows rest) ∙ length-append front (middle ++ rest) ∙ ap (λ n. length front + n) (length-append middle rest) in
    let one : length front ≡ length (row_line r) + 1 = length-append (row_line r) (10 ∷ []) in
    omega (arith, all, one)

pub parts_text : (rows others : List Row) (more : List ℕ) → text_of_rows (rows ++ others) ++ more ≡ text_of_rows rows ++ (text_of_rows others ++ more)
parts_text rows others more = ap (λ t. t ++ more) (sym (rows_append rows others)) ∙ append_assoc (text_of_rows rows) (text_of_rows others) more

-- ---- items

-- an item that a text begins with, and what stands behind it, are no others
abbrev pub Once : {X : Type 0} → (X → Type 0) → (X → List Row) → Type 0
Once {X = X} IsItem rows =
    (x y : X) (a b : List ℕ) → IsItem x → IsItem y → text_of_rows (rows x) ++ a ≡ text_of_rows (rows y) ++ b → (x ≡ y) × (a ≡ b)

pub item_first : {X : Type 0} (rows : X → List Row) (x : X) (xs : List X) (rest : List ℕ)
    → text_of_rows (flat_map rows (x ∷ xs)) ++ rest ≡ text_of_rows (rows x) ++ (text_of_rows (flat_map rows xs) ++ rest)
item_first rows x xs rest = parts_text (rows x) (flat_map rows xs) rest

pub front_once : {X : Type 0} (IsItem : X → Type 0) (rows : X → List Row) → Once IsItem rows → (xs ys : List X) (a b : List ℕ)
    → AllByRecursion IsItem xs → AllByRecursion IsItem ys → Lacks IsItem rows a → Lacks IsItem rows b
    → text_of_rows (flat_map rows xs) ++ a ≡ text_of_rows (flat_map rows ys) ++ b → (xs ≡ ys) × (a ≡ b)
front_once IsItem rows once [] [] a b h k la lb e = (refl, e)
front_once IsItem rows once [] (y ∷ ys) a b h k la lb e = absurd (la y (text_of_rows (flat_map rows ys) ++ b) k.0 (e ∙ item_first rows y ys b))
front_once IsItem rows once (x ∷ xs) [] a b h k la lb e = absurd (lb x (text_of_rows (flat_map rows xs) ++ a) h.0 (sym e ∙ item_first rows x xs a))
front_once IsItem rows once (x ∷ xs) (y ∷ ys) a b h k la lb e =
    let here = once x y (text_of_rows (flat_map rows xs) ++ a) (text_of_rows (flat_map rows ys) ++ b) h.0 k.0 (sym (item_first rows x xs a) ∙ e ∙ item_first rows y ys b) in
    let behind = front_once IsItem rows once xs ys a b h.1 k.1 la lb here.1 in
    (ap (λ z. z ∷ xs) here.0 ∙ ap (λ zs. y ∷ zs) behind.0, behind.1)

-- where a text that begins with an item says which, one that does not begin with that one begins with none
pub lacks_unless : {X : Type 0} (IsItem : X → Type 0) (rows : X → List Row) (text : List ℕ) (said : X)
    → ((x : X) (more : List ℕ) → IsItem x → text ≡ text_of_rows (rows x) ++ more → said ≡ x)
    → ((more : List ℕ) → IsItem said → text ≡ text_of_rows (rows said) ++ more → ⊥) → Lacks IsItem rows text
lacks_unless IsItem rows text said again none x more h e =
    let same = again x more h e in
    none more (subst IsItem (sym same) h) (e ∙ ap (λ y. text_of_rows (rows y) ++ more) (sym same))

-- the text begins with these items
abbrev pub Passed : {X : Type 0} → (X → Type 0) → (X → List Row) → List ℕ → List X → List ℕ → Type 0
Passed IsItem rows text items rest = AllByRecursion IsItem items × (text ≡ text_of_rows (flat_map rows items) ++ rest)

-- and with one more
pub one_more : {X : Type 0} (IsItem : X → Type 0) (rows : X → List Row) (text : List ℕ) (items : List X) (x : X) (rest behind : List ℕ)
    → Passed IsItem rows text items rest → IsItem x → rest ≡ text_of_rows (rows x) ++ behind → Passed IsItem rows text (items ++ x ∷ []) behind
one_more {X = X} IsItem rows text items x rest behind h k e =
    (all_append IsItem items (x ∷ []) h.0 (k, tt), h.1 ∙ more items rest e) where
      more : (xs : List X) (r : List ℕ) → r ≡ text_of_rows (rows x) ++ behind
          → text_of_rows (flat_map rows xs) ++ r ≡ text_of_rows (flat_map rows (xs ++ x ∷ [])) ++ behind
      more [] r f = f ∙ sym (item_first rows x [] behind)
      more (y ∷ xs) r f =
          item_first rows y xs r ∙ ap (λ t. text_of_rows (rows y) ++ t) (more xs r f) ∙ sym (item_first rows y (xs ++ x ∷ []) behind)
