-- The naming files of a workload are read.
use Rattle.std.proofs.Common.{◌≡◌, ℕ, ◌+◌, ◌*◌, ◌<◌, ◌≤◌, zero, suc, Bool, true, false, not, nat_lt, [], ◌∷◌, length, map, flat_map, None, Ok, refl, ap, sym, ◌∙◌, arith}
use Rattle.std.specs.List.{list_all, position, prefix_len, range_with_len}
use Rattle.std.specs.Str.{bytes_eq}
use Rattle.std.proofs.lemmas.Bool.{cond-false, cond-true}
use Rattle.std.proofs.lemmas.Bool.Decides.{nat_tests}
use Rattle.std.proofs.lemmas.List.FromFn.{length-map-range_with_len}
use Rattle.acl_text.specs.declared.faults.Place.{Place}
use Rattle.acl_text.specs.Steps.{◌>>=◌}
use Rattle.acl_naming.specs.declared.item_words.NamingKind.TheVariants.{Networks, Services}
use Rattle.acl_naming.specs.Definitions.{Definition, items_count}
use Rattle.acl_naming.specs.NamingFiles.{file_added, line_added, lines_added, opens, without_comment}
use Rattle.acl_naming.proofs.TableLaws.{items_more}
use Rattle.aclgen_core.specs.WorkloadTexts.{networks_text, services_text}
use Rattle.aclgen_core.specs.WorkloadNames.{each, network, service}
use Rattle.aclgen_core.proofs.FileLines.{has_no_feed, lines_each, with_feed}
use Rattle.aclgen_core.proofs.NamingFacts.{NamedLines, networks, services, defined, front, text, parts_found, parts_written, AreRead, networks_are_read, services_are_read}
use Rattle.aclgen_core.proofs.NamingLines.{line_defines}
use Rattle.aclgen_core.proofs.NumberedNames.{other_name}
use Rattle.aclgen_core.proofs.RangeLaws.{each_more}

-- ---- names are new

-- no element passes
none_pass : {A : Type 0} (p : A → Bool) (f : ℕ → A) (a n : ℕ) → ((i : ℕ) → i < a + n → p (f i) ≡ false)
    → prefix_len (λ x. not (p x)) (map f (range_with_len a n)) ≡ length (map f (range_with_len a n))
none_pass p f a zero h = refl
none_pass p f a (suc n) h =
    cond-true (not (p (f a))) _ _ (ap not (h a (omega arith)))
    ∙ ap (λ m. 1 + m) (none_pass p f (a + 1) n (λ i below. h i (omega (arith, below))))
    ∙ omega arith

absent : {A : Type 0} (p : A → Bool) (f : ℕ → A) (n : ℕ) → ((i : ℕ) → i < n → p (f i) ≡ false) → position p (each f n) ≡ None
absent p f n h = cond-false _ _ _ (not_below _ _ (none_pass p f 0 n (λ i below. h i (omega (arith, below)))))
  where
    not_below : (i m : ℕ) → i ≡ m → nat_lt i m ≡ false
    not_below i m same = grind (arith, nat_tests)

-- ---- a file, line by line

few_items : (define : ℕ → Definition) → ((i : ℕ) → length (define i).items ≤ 3) → (n : ℕ) → items_count (each define n) ≤ 3 * n
few_items define h zero = omega arith
few_items define h (suc n) =
    let more : items_count (each define (suc n)) ≡ items_count (each define n) + length (define n).items =
    ap items_count (each_more define n) ∙ items_more (each define n) (define n) in
    omega (arith, more, few_items define h n, h n)

-- A line defines its name behind those of the lines before it.
line_defined : (l : NamedLines) → AreRead l → (i : ℕ) → i < 1024 → (is_open : Bool)
    → line_added l.kind (record { file = l.file; line = i + 1 }) is_open (each (defined l) i) (without_comment (text l i))
    ≡ Ok (each (defined l) (i + 1))
line_defined l read i below is_open =
    let place : Place = record { file = l.file; line = i + 1 } in
    let is : parts_found l i ≡ parts_written l i = read.parts_are i below in
    let names = length-map-range_with_len (defined l) 0 i in
    let count = few_items (defined l) read.few_items i in
    let next : suc i ≡ i + 1 = omega arith in
    ap (λ p. line_added l.kind place is_open (each (defined l) i) p.no_comment) is
    ∙ line_defines l.kind place is_open (each (defined l) i) (text l i) (front l i) (l.rest i) (defined l i).name (l.items i)
    (ap (λ p. p.bad) is) (ap (λ p. p.cut) is) (ap (λ p. p.trim) is) (ap (λ p. p.name_is) is) (ap (λ p. p.items) is)
    (absent (λ d. bytes_eq (defined l i).name d.name) (defined l) i
    (λ j before. other_name l.letter i j below (omega (arith, before, below)) (λ e. absurd (omega (arith, e, before)))))
    (omega (arith, names, below)) (omega (arith, count, read.few_items i, below))
    ∙ ap Ok (sym (each_more (defined l) i) ∙ ap (each (defined l)) next)

lines_defined : (l : NamedLines) → AreRead l → (k n : ℕ) → k + n ≤ 1024 → (is_open : Bool)
    → lines_added l.kind l.file (k + 1) is_open (each (defined l) k) (map (text l) (range_with_len k n))
    ≡ Ok (each (defined l) (k + n))
lines_defined l read k zero few is_open =
    let same : k ≡ k + 0 = omega arith in
    ap (λ m. Ok (each (defined l) m)) same
lines_defined l read k (suc n) few is_open =
    let same : k + 1 + n ≡ k + suc n = omega arith in
    let opens_next : Bool = opens is_open (without_comment (text l k)) in
    ap (λ o. o >>= λ more. lines_added l.kind l.file (k + 1 + 1) opens_next more (map (text l) (range_with_len (k + 1) n)))
    (line_defined l read k (omega (arith, few)) is_open)
    ∙ lines_defined l read (k + 1) n (omega (arith, few)) opens_next
    ∙ ap (λ m. Ok (each (defined l) m)) same

one_each : {A : Type 0} (f : ℕ → A) (a n : ℕ) → flat_map (λ i. f i ∷ []) (range_with_len a n) ≡ map f (range_with_len a n)
one_each f a zero = refl
one_each f a (suc n) = ap (λ xs. f a ∷ xs) (one_each f (a + 1) n)

file_read : (l : NamedLines) → AreRead l → (n : ℕ) → n ≤ 1024
    → file_added l.kind l.file [] (flat_map l.line (range_with_len 0 n)) ≡ Ok (each (defined l) n)
unfolding file_added
file_read l read n few =
    let same : 0 + n ≡ n = omega arith in
    ap (lines_added l.kind l.file 1 false [])
    (lines_each l.line (λ i. text l i ∷ []) 0 n (λ i below. line_is i (omega (arith, few, below))) ∙ one_each (text l) 0 n)
    ∙ lines_defined l read 0 n (omega (arith, few)) false
    ∙ ap (λ m. Ok (each (defined l) m)) same
  where
    line_is : (i : ℕ) → i < 1024
        → (l.line i ≡ flat_map with_feed (text l i ∷ [])) × (list_all has_no_feed (text l i ∷ []) ≡ true)
    line_is i below = (ap (λ p. p.line) (read.parts_are i below), ap (λ p. p.no_feed) (read.parts_are i below))

-- ---- networks and services

pub networks_read : (n : ℕ) → n ≤ 1024 → file_added Networks 0 [] (networks_text n) ≡ Ok (each network n)
networks_read n few = file_read networks networks_are_read n few

pub services_read : (n : ℕ) → n ≤ 1024 → file_added Services 1 [] (services_text n) ≡ Ok (each service n)
services_read n few = file_read services services_are_read n few
