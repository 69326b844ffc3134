-- The lines of a workload's policy, word by word.
use Rattle.std.proofs.Common.{◌≡◌, ℕ, ◌+◌, ◌≤◌, zero, suc, Bool, true, false, List, [], ◌∷◌, ◌++◌, length, map, flat_map, codes, refl, ap, sym, ◌∙◌, append-nil, arith}
use Rattle.std.specs.Fmt.{digits}
use Rattle.std.specs.List.{list_all, range_with_len}
use Rattle.std.proofs.lemmas.Grind.{flat_map-append}
use Rattle.std.proofs.lemmas.List.{map-append}
use Rattle.acl_text.specs.declared.file_lines.Line.{Line}
use Rattle.acl_text.specs.Cursors.{lines_of}
use Rattle.acl_text.specs.Names.{is_name}
use Rattle.acl_words.specs.declared.forms.Form.TheVariants as forms
use Rattle.acl_words.specs.Tokens.{Token}
use Rattle.acl_words.specs.Words.{word}
use Rattle.acl_words.specs.IncludeLines.{Asked, Nothing, Wanted, Wrong, asked_in}
use Rattle.aclgen_core.specs.WorkloadTexts.{header_text, policy_text, term_text}
use Rattle.policy_grammar.specs.TargetTexts.{plain}
use Rattle.policy_grammar.specs.TermTexts.{term_words}
use Rattle.policy_grammar.specs.PolicyTexts.{header_words, text_words}
use Rattle.policy_grammar.specs.PrintedWords.{PrintedLine, SpacedWord, printed_line, printed_words}
use Rattle.aclgen_core.specs.WorkloadNames.{each, network_name, service_name}
use Rattle.aclgen_core.specs.WorkloadPolicies.{at_line, block_text, lines_before, term_at, term_name, workload_text}
use Rattle.aclgen_core.proofs.FileLines.{has_no_feed, lines_each, lines_first, with_feed}
use Rattle.aclgen_core.proofs.RangeLaws.{SameBelow, computed}

-- ---- lines of words

abbrev pub spaced : List ℕ → Token → SpacedWord
spaced gap w = record { gap = gap; word = w }

abbrev pub line_at : ℕ → List SpacedWord → PrintedLine
line_at n words = record { place = at_line n; words = words }

abbrev pub plain_at : ℕ → List ℕ → List ℕ → SpacedWord
plain_at n gap text = spaced gap (plain (at_line n) text)

abbrev pub keyword_at : ℕ → List ℕ → SpacedWord
keyword_at n text = spaced (codes "  ") (word (at_line n) forms.Keyword text)

abbrev pub begin_at : ℕ → SpacedWord
begin_at n = spaced (codes " ") (word (at_line n) forms.Begin (codes "{"))

abbrev pub end_at : ℕ → PrintedLine
end_at n = line_at n (spaced [] (word (at_line n) forms.End (codes "}")) ∷ [])

abbrev pub header_lines : List PrintedLine
header_lines =
    line_at 1 (plain_at 1 [] (codes "header") ∷ begin_at 1 ∷ [])
    ∷ line_at 2 (keyword_at 2 (codes "target::") ∷ plain_at 2 (codes " ") (codes "cisco") ∷ plain_at 2 (codes " ") (codes "w")
    ∷ plain_at 2 (codes " ") (codes "mixed") ∷ [])
    ∷ line_at 3 (keyword_at 3 (codes "target::") ∷ plain_at 3 (codes " ") (codes "juniper") ∷ plain_at 3 (codes " ") (codes "w")
    ∷ plain_at 3 (codes " ") (codes "inet") ∷ [])
    ∷ line_at 4 (keyword_at 4 (codes "target::") ∷ plain_at 4 (codes " ") (codes "iptables") ∷ plain_at 4 (codes " ") (codes "FORWARD")
    ∷ plain_at 4 (codes " ") (codes "DROP") ∷ [])
    ∷ line_at 5 (keyword_at 5 (codes "target::") ∷ plain_at 5 (codes " ") (codes "nftables") ∷ plain_at 5 (codes " ") (codes "mixed")
    ∷ plain_at 5 (codes " ") (codes "forward") ∷ [])
    ∷ end_at 6 ∷ []

abbrev pub lines_behind : ℕ → ℕ → List PrintedLine
lines_behind n i =
    line_at (n + 1) (plain_at (n + 1) [] (codes "term") ∷ plain_at (n + 1) (codes " ") (term_name i) ∷ begin_at (n + 1) ∷ [])
    ∷ line_at (n + 2) (keyword_at (n + 2) (codes "source-address::") ∷ plain_at (n + 2) (codes " ") (network_name i) ∷ [])
    ∷ line_at (n + 3) (keyword_at (n + 3) (codes "destination-port::") ∷ plain_at (n + 3) (codes " ") (service_name i) ∷ [])
    ∷ line_at (n + 4) (keyword_at (n + 4) (codes "protocol::") ∷ plain_at (n + 4) (codes " ") (codes "tcp")
    ∷ plain_at (n + 4) (codes " ") (codes "udp") ∷ [])
    ∷ line_at (n + 5) (keyword_at (n + 5) (codes "action::") ∷ plain_at (n + 5) (codes " ") (codes "accept") ∷ [])
    ∷ end_at (n + 6) ∷ []

abbrev pub term_lines : ℕ → List PrintedLine
term_lines i = lines_behind (lines_before i) i

abbrev pub policy_lines : ℕ → List PrintedLine
policy_lines n = header_lines ++ flat_map term_lines (range_with_len 0 n)

-- ---- their words are those of the text

abbrev words_on : PrintedLine → List Token
words_on l = map (λ s. s.word) l.words

terms_printed : (a n : ℕ) → flat_map words_on (flat_map term_lines (range_with_len a n)) ≡ flat_map term_words (map term_at (range_with_len a n))
terms_printed a zero = refl
terms_printed a (suc n) =
    flat_map-append words_on (term_lines a) (flat_map term_lines (range_with_len (a + 1) n))
    ∙ ap (λ ws. term_words (term_at a) ++ ws) (terms_printed (a + 1) n)

pub words_printed : (n : ℕ) → printed_words (policy_lines n) ≡ text_words (workload_text n)
words_printed n =
    flat_map-append words_on header_lines (flat_map term_lines (range_with_len 0 n))
    ∙ ap (λ ws. header_words (block_text n) ++ ws) (terms_printed 0 n)
    ∙ sym (append-nil (header_words (block_text n) ++ flat_map term_words (each term_at n)))

-- ---- their texts are those of the file

abbrev text_on : PrintedLine → List ℕ
text_on l = (printed_line l).text

abbrev pub term_texts : ℕ → List (List ℕ)
term_texts i = map text_on (lines_behind 0 i)

abbrev pub header_texts : List (List ℕ)
header_texts = map text_on header_lines

abbrev pub is_nothing : Asked → Bool
is_nothing Nothing = true
is_nothing (Wrong path) = false
is_nothing (Wanted path) = false

-- No line asks for another file.
abbrev pub asks_nothing : List ℕ → Bool
asks_nothing text = is_nothing (asked_in text)

term_file : SameBelow 1024 term_text (λ i. flat_map with_feed (term_texts i))
unfolding term_text digits
term_file = computed 1024 _ _ refl

term_feeds : SameBelow 1024 (λ i. list_all has_no_feed (term_texts i)) (λ i. true)
unfolding digits
term_feeds = computed 1024 _ _ refl

pub term_asks : SameBelow 1024 (λ i. list_all asks_nothing (term_texts i)) (λ i. true)
unfolding digits
term_asks = computed 1024 _ _ refl

pub term_names : SameBelow 1024 (λ i. is_name (term_name i)) (λ i. true)
unfolding digits
term_names = computed 1024 _ _ refl

pub network_names : SameBelow 1024 (λ i. is_name (network_name i)) (λ i. true)
unfolding digits
network_names = computed 1024 _ _ refl

pub service_names : SameBelow 1024 (λ i. is_name (service_name i)) (λ i. true)
unfolding digits
service_names = computed 1024 _ _ refl

pub file_lines : (n : ℕ) → n ≤ 1024 → lines_of (policy_text n) ≡ header_texts ++ flat_map term_texts (range_with_len 0 n)
unfolding header_text
file_lines n few =
    lines_first header_texts (flat_map term_text (range_with_len 0 n)) refl
    ∙ ap (λ ls. header_texts ++ ls) (lines_each term_text term_texts 0 n
    (λ i below. (term_file i (omega (arith, few, below)), term_feeds i (omega (arith, few, below)))))

-- ---- their numbers

-- Lines of file 0, of which the first has this number.
abbrev pub numbered : ℕ → List (List ℕ) → List Line
numbered n [] = []
numbered n (text ∷ texts) = record { place = at_line n; text = text } ∷ numbered (n + 1) texts

-- The same, counted from the line before them.
based : ℕ → ℕ → List (List ℕ) → List Line
based n j [] = []
based n j (text ∷ texts) = record { place = at_line (n + j); text = text } ∷ based n (suc j) texts

numbered_based : (n j : ℕ) (texts : List (List ℕ)) → numbered (n + j) texts ≡ based n j texts
unfolding based
numbered_based n j [] = refl
numbered_based n j (text ∷ texts) =
    let next : n + j + 1 ≡ n + suc j = omega arith in
    ap (λ ls. record { place = at_line (n + j); text = text } ∷ ls) (ap (λ k. numbered k texts) next ∙ numbered_based n (suc j) texts)

numbered_on : (n : ℕ) (xs ys : List (List ℕ)) → numbered n (xs ++ ys) ≡ numbered n xs ++ numbered (n + length xs) ys
numbered_on n [] ys = ap (λ k. numbered k ys) same
  where
    same : n ≡ n + 0
    same = omega arith
numbered_on n (x ∷ xs) ys =
    let next : n + 1 + length xs ≡ n + suc (length xs) = omega arith in
    ap (λ ls. record { place = at_line n; text = x } ∷ ls) (numbered_on (n + 1) xs ys ∙ ap (λ k. numbered (n + 1) xs ++ numbered k ys) next)

term_numbered : (n i : ℕ) → based n 1 (term_texts i) ≡ map printed_line (lines_behind n i)
unfolding based
term_numbered n i = refl

terms_numbered : (a n : ℕ) → numbered (lines_before a + 1) (flat_map term_texts (range_with_len a n))
    ≡ map printed_line (flat_map term_lines (range_with_len a n))
terms_numbered a zero = refl
terms_numbered a (suc n) =
    let next : lines_before a + 1 + 6 ≡ lines_before (a + 1) + 1 = omega arith in
    numbered_on (lines_before a + 1) (term_texts a) (flat_map term_texts (range_with_len (a + 1) n))
    ∙ ap (λ ls. ls ++ numbered (lines_before a + 1 + 6) (flat_map term_texts (range_with_len (a + 1) n)))
    (numbered_based (lines_before a) 1 (term_texts a) ∙ term_numbered (lines_before a) a)
    ∙ ap (λ k. map printed_line (term_lines a) ++ numbered k (flat_map term_texts (range_with_len (a + 1) n))) next
    ∙ ap (λ ls. map printed_line (term_lines a) ++ ls) (terms_numbered (a + 1) n)
    ∙ sym (map-append printed_line (term_lines a) (flat_map term_lines (range_with_len (a + 1) n)))

pub lines_numbered : (n : ℕ) → n ≤ 1024 → numbered 1 (lines_of (policy_text n)) ≡ map printed_line (policy_lines n)
lines_numbered n few =
    ap (numbered 1) (file_lines n few)
    ∙ ap (λ ls. map printed_line header_lines ++ ls) (terms_numbered 0 n)
    ∙ sym (map-append printed_line header_lines (flat_map term_lines (range_with_len 0 n)))
