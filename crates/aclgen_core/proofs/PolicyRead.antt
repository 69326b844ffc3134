-- The policy of a workload is read as what its text means.
use Rattle.std.proofs.Common.{◌≡◌, ℕ, ◌+◌, ◌<◌, ◌≤◌, zero, suc, Bool, true, false, ◌||◌, nat_lt, List, [], ◌∷◌, ◌++◌, length, flat_map, Ok, refl, ap, sym, ◌∙◌, append_assoc, append-nil, arith}
use Rattle.std.specs.List.{list_all, range_with_len}
use Rattle.std.proofs.lemmas.Bool.{and_from, and_parts, cond-false, false≢true}
use Rattle.std.proofs.lemmas.Bool.Decides.{nat_tests}
use Rattle.std.proofs.lemmas.List.Folds.{list_all-append}
use Rattle.acl_text.specs.Cursors.{lines_of}
use Rattle.acl_text.specs.Steps.{◌>>=◌}
use Rattle.acl_words.specs.IncludeLines.{Asked, Nothing, Wanted, Wrong, asked_in}
use Rattle.acl_words.specs.Splices.{Splice, is_long, nothing_read, with_file, with_line}
use Rattle.acl_words.specs.Splicing.{Include, behind_include, behind_line, behind_lines, splice_of}
use Rattle.acl_words.specs.Folders.{folder_of}
use Rattle.acl_words.specs.Words.{words_of}
use Rattle.acl_policy.specs.Policies.{policy_of}
use Rattle.acl_load.specs.LoadedPolicies.{policy_at, policy_in}
use Rattle.acl_load.specs.Loading.{or_fault}
use Rattle.aclgen_core.specs.WorkloadTexts.{policy_text}
use Rattle.policy_grammar.specs.PolicyTexts.{text_meant}
use Rattle.policy_grammar.proofs.PrintingLaws.{printed_texts_read}
use Rattle.aclgen_core.specs.WorkloadFiles.{workload_files, workload_path}
use Rattle.aclgen_core.specs.WorkloadPolicies.{workload_text}
use Rattle.aclgen_core.proofs.PolicyLines.{asks_nothing, file_lines, header_texts, is_nothing, lines_numbered, numbered, policy_lines, term_asks, term_texts, words_printed}
use Rattle.aclgen_core.proofs.PolicyStands.{lines_printed, text_stands}
use Rattle.aclgen_core.proofs.TextLengths.{policy_short}

-- ---- no line asks for another file

nothing_asked : (asked : Asked) → is_nothing asked ≡ true → asked ≡ Nothing
nothing_asked Nothing h = refl
nothing_asked (Wrong path) h = absurd (false≢true h)
nothing_asked (Wanted path) h = absurd (false≢true h)

plain_lines : (include : Include) (label : List ℕ) (n : ℕ) (texts : List (List ℕ)) (s : Splice) → list_all asks_nothing texts ≡ true
    → behind_lines include label 0 n texts s ≡ Ok (record s { lines = s.lines ++ numbered n texts })
plain_lines include label n [] s h = ap (λ ls. Ok (record s { lines = ls })) (sym (append-nil s.lines))
plain_lines include label n (text ∷ texts) s h =
    let p = and_parts (asks_nothing text) (list_all asks_nothing texts) h in
    let line = numbered n (text ∷ []) in
    ap (λ asked. behind_line include label 0 n text asked s >>= behind_lines include label 0 (n + 1) texts) (nothing_asked (asked_in text) p.0)
    ∙ plain_lines include label (n + 1) texts (with_line 0 n text s) p.1
    ∙ ap (λ ls. Ok (record s { lines = ls })) (append_assoc s.lines line (numbered (n + 1) texts))

terms_ask : (a n : ℕ) → a + n ≤ 1024 → list_all asks_nothing (flat_map term_texts (range_with_len a n)) ≡ true
terms_ask a zero few = refl
terms_ask a (suc n) few =
    list_all-append asks_nothing (term_texts a) (flat_map term_texts (range_with_len (a + 1) n))
    ∙ and_from (list_all asks_nothing (term_texts a)) (list_all asks_nothing (flat_map term_texts (range_with_len (a + 1) n)))
    (term_asks a (omega (arith, few))) (terms_ask (a + 1) n (omega (arith, few)))

lines_ask : (n : ℕ) → n ≤ 1024 → list_all asks_nothing (lines_of (policy_text n)) ≡ true
lines_ask n few =
    ap (list_all asks_nothing) (file_lines n few)
    ∙ list_all-append asks_nothing header_texts (flat_map term_texts (range_with_len 0 n))
    ∙ terms_ask 0 n (omega (arith, few))

-- ---- the splice

abbrev pub splice_at : ℕ → Splice
splice_at n = record {
  labels = workload_path ∷ [];
  lines = numbered 1 (lines_of (policy_text n));
  size = 0 + length (policy_text n);
  includes = 0;
}

not_long : (len : ℕ) → len ≤ 262400 → is_long 0 len ≡ false
not_long len short =
    by_both (nat_lt 4194304 len) (nat_lt 16777216 (0 + len)) (small 4194304 len (omega (arith, short))) (small 16777216 (0 + len) (omega (arith, short)))
  where
    small : (m k : ℕ) → k ≤ m → nat_lt m k ≡ false
    small m k h = grind (arith, nat_tests)

    by_both : (b c : Bool) → b ≡ false → c ≡ false → (b || c) ≡ false
    by_both b c h k = ap (λ t. t || c) h ∙ k

splice_read : (n : ℕ) → n ≤ 1024 → splice_of (workload_files n) workload_path ≡ Ok (splice_at n)
unfolding splice_of
splice_read n few =
    cond-false (is_long 0 (length (policy_text n))) _ _ (not_long (length (policy_text n)) (policy_short n few))
    ∙ plain_lines (behind_include 8 (workload_files n) (folder_of workload_path)) workload_path 1 (lines_of (policy_text n))
    (with_file workload_path (length (policy_text n)) nothing_read) (lines_ask n few)

-- ---- the policy

policy_there : (n : ℕ) → 0 < n → n ≤ 1024 → policy_in (splice_at n) ≡ Ok (text_meant (workload_text n))
unfolding policy_in
policy_there n some few =
    ap (λ ls. or_fault (workload_path ∷ []) (policy_of (words_of ls))) (lines_numbered n few)
    ∙ ap (or_fault (workload_path ∷ []))
    (printed_texts_read (workload_text n) (policy_lines n) (text_stands n some few) (lines_printed n few) (words_printed n))

pub policy_read : (n : ℕ) → 0 < n → n ≤ 1024 → policy_at workload_path (workload_files n)
    ≡ Ok (record { sources = splice_at n; policy = text_meant (workload_text n) })
unfolding policy_at
policy_read n some few =
    ap (λ r. r >>= λ splice. policy_in splice >>= λ policy. Ok (record { sources = splice; policy = policy })) (splice_read n few)
    ∙ ap (λ r. r >>= λ policy. Ok (record { sources = splice_at n; policy = policy })) (policy_there n some few)
