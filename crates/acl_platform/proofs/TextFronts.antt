-- Texts that are put item by item, up to one that is refused.
use Rattle.std.proofs.Common.{◌≡◌, ℕ, ◌+◌, ◌-◌, ◌<◌, Bool, List, [], ◌∷◌, ◌++◌, length, take, drop, get_or, flat_map, Option, Result, Err, IsErrAnd, refl, ap, sym, ◌∙◌, append_assoc, append-nil, arith}
use Rattle.std.proofs.lemmas.List.{length-drop, take_all, take_more, take-append-drop}
use Rattle.std.proofs.lemmas.Result.{err_from_is_err_and}
use Rattle.acl_text.specs.declared.output.PutFault.{PutFault}
use Rattle.acl_text.specs.Output.{PutsBy}
use Rattle.acl_text.proofs.Putting.{done, goes_on, stops}
use Rattle.acl_rows.specs.Rows.{Row, text_of_rows}
use Rattle.acl_rows.proofs.ListLaws.{joined_text}
use Rattle.acl_rows.proofs.PutLaws.{each_split, retold}

-- the rows of the items before one, of that one, and of those behind it
pub item-split : {A : Type 0} (rows : A → List Row) (xs : List A) (i : ℕ) (x : A) → x ≡ get_or xs i x → i < length xs
    → (text_of_rows (flat_map rows (take i xs)) ++ text_of_rows (rows x)) ++ text_of_rows (flat_map rows (drop (i + 1) xs))
    ≡ text_of_rows (flat_map rows xs)
item-split rows xs i x is within =
    let before = text_of_rows (flat_map rows (take i xs)) in
    let behind = text_of_rows (flat_map rows (drop (i + 1) xs)) in
    ap (λ y. (before ++ text_of_rows (rows y)) ++ behind) is ∙ each_split rows xs i x within

-- the rows of the items up to and with one
pub more_rows : {A : Type 0} (rows : A → List Row) (xs : List A) (i : ℕ) (x : A) → x ≡ get_or xs i x → i < length xs
    → text_of_rows (flat_map rows (take (i + 1) xs)) ≡ text_of_rows (flat_map rows (take i xs)) ++ text_of_rows (rows x)
more_rows rows xs i x is within =
    let before = take i xs in
    ap (λ ys. text_of_rows (flat_map rows ys)) (take_more xs i x within ∙ ap (λ y. before ++ y ∷ []) (sym is))
    ∙ sym (joined_text rows before (x ∷ [])) ∙ ap (λ ys. text_of_rows (flat_map rows before) ++ text_of_rows ys) (append-nil (rows x))

-- what was put before a text that is refused, and a front of that text, are a front of the whole
pub refused : {S T : Type 0} {told : S → Option (List ℕ)} {faults refusals : S → ℕ} {is_open : S → Bool} {keeps : S → S → Type 0}
    {old mid new : S} {before here : List ℕ} {whole : List ℕ} {e : PutFault} (rest : List ℕ) (r : Result T PutFault)
    → (before ++ here) ++ rest ≡ whole → ((x y z : S) → keeps x y → keeps y z → keeps x z)
    → PutsBy told faults refusals is_open keeps old mid before done → PutsBy {T = T} told faults refusals is_open keeps mid new here (Err e)
    → IsErrAnd r (λ f. f ≡ e) → PutsBy told faults refusals is_open keeps old new whole r
refused rest r all law p q h =
    let err = err_from_is_err_and r h in
    rw (err.1, err.2) (retold all (stops rest (goes_on law p q) refl))

-- the text of items in front, and that of the part behind them
pub front-text : {A : Type 0} (rows : A → List Row) (xs : List A) (n : ℕ) (front : List ℕ) → front ≡ text_of_rows (flat_map rows (take n xs))
    → front ++ text_of_rows (flat_map rows (take (length xs - n) (drop n xs))) ≡ text_of_rows (flat_map rows xs)
front-text rows xs n front is =
    let behind : take (length xs - n) (drop n xs) ≡ drop n xs = let e = length-drop n xs in take_all (length xs - n) (drop n xs) (omega (arith, e)) in
    ap (λ text. text ++ text_of_rows (flat_map rows (take (length xs - n) (drop n xs)))) is
    ∙ ap (λ rest. text_of_rows (flat_map rows (take n xs)) ++ text_of_rows (flat_map rows rest)) behind
    ∙ joined_text rows (take n xs) (drop n xs) ∙ ap (λ ys. text_of_rows (flat_map rows ys)) (take-append-drop n xs)

-- ---- lines of a text

-- what is left of a text parts into a line and what is behind it
pub line-split : {line more text : List ℕ} (front rest : List ℕ) (n : ℕ) → line ≡ take n rest → more ≡ drop n rest → front ++ rest ≡ text
    → (front ++ line) ++ more ≡ text
line-split {line = line} {more = more} front rest n is behind all =
    append_assoc front line more ∙ ap (λ t. front ++ (t ++ more)) is ∙ ap (λ t. front ++ (take n rest ++ t)) behind
    ∙ ap (λ t. front ++ t) (take-append-drop n rest) ∙ all
