-- The policy of a workload stands as a text of the policy language, and its lines are printed words.
use Rattle.std.proofs.Common.{◌≡◌, ℕ, ◌+◌, ◌<◌, ◌≤◌, zero, suc, true, false, ◌&&◌, ◌||◌, List, [], ◌∷◌, ◌++◌, length, map, flat_map, codes, refl, ap, sym, subst, ◌∙◌, arith}
use Rattle.std.specs.List.{AllByRecursion, list_any, range_with_len}
use Rattle.std.specs.Str.{bytes_eq}
use Rattle.std.proofs.lemmas.Bool.{false≢true}
use Rattle.std.proofs.lemmas.List.{length-append, length-map}
use Rattle.std.proofs.lemmas.List.FromFn.{length-map-range_with_len}
use Rattle.acl_packet.specs.NumberWords.{protocol_in, row_or_number}
use Rattle.acl_target.specs.Clashes.{clash}
use Rattle.acl_text.proofs.ListLaws.{all_append}
use Rattle.acl_policy.specs.RawTerms.{RawTerm}
use Rattle.acl_policy.specs.Conditions.{Each, NameIsNew, StandsBehind, targets_of}
use Rattle.policy_grammar.specs.TermTexts.{TermStands, term_meant}
use Rattle.policy_grammar.specs.PolicyTexts.{BlockStands, HeaderItemStands, TextStands, blocks_meant}
use Rattle.policy_grammar.specs.PrintedWords.{IsKeywordText, IsPlainText, IsSpaced, LineIsPrinted, SpacedWord}
use Rattle.policy_grammar.proofs.WrittenWords.{keyword_literal, literal, name_plain}
use Rattle.aclgen_core.specs.WorkloadNames.{each, network_name, service_name}
use Rattle.aclgen_core.specs.WorkloadPolicies.{at_line, block_text, header_items, lines_before, term_at, term_behind, term_name, workload_text}
use Rattle.aclgen_core.proofs.NumberedNames.{other_name}
use Rattle.aclgen_core.proofs.PolicyLines.{begin_at, end_at, header_lines, keyword_at, line_at, lines_behind, network_names, plain_at, policy_lines, service_names, term_lines, term_names}
use Rattle.aclgen_core.proofs.RangeLaws.{each_more}

-- ---- printed words

first_plain : (n : ℕ) (text : List ℕ) → IsPlainText text → IsSpaced (at_line n) [] (plain_at n [] text)
first_plain n text h = record { is_printable = record { place_is = refl; text_is = h }; gap_is = refl; some_gap = λ k. k }

next_plain : (n : ℕ) (before : List SpacedWord) (text : List ℕ) → IsPlainText text → IsSpaced (at_line n) before (plain_at n (codes " ") text)
next_plain n before text h = record { is_printable = record { place_is = refl; text_is = h }; gap_is = refl; some_gap = λ k. omega arith }

first_keyword : (n : ℕ) (text : List ℕ) → IsKeywordText text → IsSpaced (at_line n) [] (keyword_at n text)
first_keyword n text h = record { is_printable = record { place_is = refl; text_is = h }; gap_is = refl; some_gap = λ k. omega arith }

next_begin : (n : ℕ) (before : List SpacedWord) → IsSpaced (at_line n) before (begin_at n)
next_begin n before = record { is_printable = record { place_is = refl; text_is = refl }; gap_is = refl; some_gap = λ k. omega arith }

end_printed : (n : ℕ) → LineIsPrinted (end_at n)
end_printed n = (record { is_printable = record { place_is = refl; text_is = refl }; gap_is = refl; some_gap = λ k. k }, tt)

target_printed : (n : ℕ) (a b c : List ℕ) → IsPlainText a → IsPlainText b → IsPlainText c
    → LineIsPrinted (line_at n (keyword_at n (codes "target::") ∷ plain_at n (codes " ") a ∷ plain_at n (codes " ") b ∷ plain_at n (codes " ") c ∷ []))
target_printed n a b c h k l = (
  first_keyword n (codes "target::") (keyword_literal (codes "target") refl refl),
  (next_plain n _ a h, (next_plain n _ b k, (next_plain n _ c l, tt))),
)

header_printed : AllByRecursion LineIsPrinted header_lines
header_printed = (
  (first_plain 1 (codes "header") (literal (codes "header") refl), (next_begin 1 _, tt)),
  (
    target_printed 2 (codes "cisco") (codes "w") (codes "mixed") (literal _ refl) (literal _ refl) (literal _ refl),
    (
      target_printed 3 (codes "juniper") (codes "w") (codes "inet") (literal _ refl) (literal _ refl) (literal _ refl),
      (
        target_printed 4 (codes "iptables") (codes "FORWARD") (codes "DROP") (literal _ refl) (literal _ refl) (literal _ refl),
        (
          target_printed 5 (codes "nftables") (codes "mixed") (codes "forward") (literal _ refl) (literal _ refl) (literal _ refl),
          (end_printed 6, tt),
        ),
      ),
    ),
  ),
)

one_value_printed : (n : ℕ) (front value : List ℕ) → IsKeywordText (front ++ codes "::") → IsPlainText value
    → LineIsPrinted (line_at n (keyword_at n (front ++ codes "::") ∷ plain_at n (codes " ") value ∷ []))
one_value_printed n front value h k = (first_keyword n (front ++ codes "::") h, (next_plain n _ value k, tt))

term_printed : (n i : ℕ) → i < 1024 → AllByRecursion LineIsPrinted (lines_behind n i)
term_printed n i below = (
  (
    first_plain (n + 1) (codes "term") (literal (codes "term") refl),
    (next_plain (n + 1) _ (term_name i) (name_plain (term_name i) (term_names i below)), (next_begin (n + 1) _, tt)),
  ),
  (
    one_value_printed (n + 2) (codes "source-address") (network_name i) (keyword_literal (codes "source-address") refl refl) (name_plain _ (network_names i below)),
    (
      one_value_printed (n + 3) (codes "destination-port") (service_name i) (keyword_literal (codes "destination-port") refl refl) (name_plain _ (service_names i below)),
      (
        (
          first_keyword (n + 4) (codes "protocol::") (keyword_literal (codes "protocol") refl refl),
          (next_plain (n + 4) _ (codes "tcp") (literal _ refl), (next_plain (n + 4) _ (codes "udp") (literal _ refl), tt)),
        ),
        (
          one_value_printed (n + 5) (codes "action") (codes "accept") (keyword_literal (codes "action") refl refl) (literal _ refl),
          (end_printed (n + 6), tt),
        ),
      ),
    ),
  ),
)

terms_printed : (a n : ℕ) → a + n ≤ 1024 → AllByRecursion LineIsPrinted (flat_map term_lines (range_with_len a n))
terms_printed a zero few = tt
terms_printed a (suc n) few =
    all_append LineIsPrinted (term_lines a) (flat_map term_lines (range_with_len (a + 1) n)) (term_printed (lines_before a) a (omega (arith, few)))
    (terms_printed (a + 1) n (omega (arith, few)))

pub lines_printed : (n : ℕ) → n ≤ 1024 → AllByRecursion LineIsPrinted (policy_lines n)
lines_printed n few =
    all_append LineIsPrinted header_lines (flat_map term_lines (range_with_len 0 n)) header_printed (terms_printed 0 n (omega (arith, few)))

-- ---- the text stands

term_stands : (n i : ℕ) → i < 1024 → TermStands (term_behind n i)
unfolding protocol_in row_or_number
term_stands n i below = record {
  name_is = term_names i below;
  items_stand = (
    record { values_are = ap (λ b. b && true) (network_names i below); one_value = λ h. refl; first_time = λ h. refl },
    (
      record { values_are = ap (λ b. b && true) (service_names i below); one_value = λ h. refl; first_time = λ h. refl },
      (
        record { values_are = refl; one_value = λ h. absurd (false≢true h); first_time = λ h. refl },
        (
          record { values_are = refl; one_value = λ h. refl; first_time = λ h. refl },
          tt,
        ),
      ),
    ),
  );
  has_action = refl;
}

terms_stand : (a n : ℕ) → a + n ≤ 1024 → AllByRecursion TermStands (map term_at (range_with_len a n))
terms_stand a zero few = tt
terms_stand a (suc n) few = (term_stands (lines_before a) a (omega (arith, few)), terms_stand (a + 1) n (omega (arith, few)))

-- What a term means.
abbrev pub raw_at : ℕ → RawTerm
raw_at i = term_meant (term_at i)

none_before : (a n k : ℕ) → a + n ≤ k → k < 1024 → list_any (λ e. bytes_eq e.name.text (term_name k)) (map raw_at (range_with_len a n)) ≡ false
none_before a zero k few small = refl
none_before a (suc n) k few small =
    ap (λ b. b || list_any (λ e. bytes_eq e.name.text (term_name k)) (map raw_at (range_with_len (a + 1) n)))
    (other_name (codes "t") a k (omega (arith, few, small)) small (λ e. absurd (omega (arith, e, few))))
    ∙ none_before (a + 1) n k (omega (arith, few)) small

names_differ : (a n : ℕ) → a + n ≤ 1024 → Each NameIsNew (each raw_at a) (map term_meant (map term_at (range_with_len a n)))
names_differ a zero few = tt
names_differ a (suc n) few =
    let next : suc a ≡ a + 1 = omega arith in (
      none_before 0 a a (omega (arith, few)) (omega (arith, few)),
      subst (λ before. Each NameIsNew before (map term_meant (map term_at (range_with_len (a + 1) n))))
          (sym (ap (each raw_at) next) ∙ each_more raw_at a)
          (names_differ (a + 1) n (omega (arith, few))),
    )

header_stands : AllByRecursion HeaderItemStands header_items
header_stands = (refl, ((refl, refl), (((tt, refl), tt), (tt, tt))))

how_many : (n : ℕ) → length (map term_meant (each term_at n)) ≡ n
how_many n = length-map (each term_at n) term_meant ∙ length-map-range_with_len term_at 0 n

block_stands : (n : ℕ) → 0 < n → n ≤ 1024 → BlockStands (block_text n)
block_stands n some few = record {
  items_stand = header_stands;
  some_target = omega arith;
  terms_stand = terms_stand 0 n (omega (arith, few));
  some_term = omega (arith, some, length-map-range_with_len term_at 0 n);
  names_differ = names_differ 0 n (omega (arith, few));
}

behind : Each StandsBehind [] (targets_of (blocks_meant (workload_text 0)))
unfolding clash
behind = (
  record { clashes_not = refl; number_is = refl },
  (
    record { clashes_not = refl; number_is = refl },
    (record { clashes_not = refl; number_is = refl }, (record { clashes_not = refl; number_is = refl }, tt)),
  ),
)

pub text_stands : (n : ℕ) → 0 < n → n ≤ 1024 → TextStands (workload_text n)
text_stands n some few = record {
  some_block = omega arith;
  blocks_stand = (block_stands n some few, tt);
  targets_stand = behind;
  few_targets = omega arith;
  few_terms = omega (arith, few, how_many n, length-append (map term_meant (each term_at n)) []);
}
