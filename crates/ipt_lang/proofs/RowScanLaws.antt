-- The rows of a section, each of which a text says where it begins with it, and of which it begins with one alone.
use Rattle.std.proofs.Common.{◌≡◌, ℕ, Bool, true, false, List, [], ◌∷◌, ◌++◌, drop, get_or, codes, Option, None, Some, refl, ap, sym, ◌∙◌}
use Rattle.std.specs.List.{join_with_byte}
use Rattle.std.specs.Str.{bytes_eq}
use Rattle.acl_packet.specs.declared.addresses.Family.{Family}
use Rattle.acl_packet.specs.declared.addresses.Family.TheVariants.{V4, V6}
use Rattle.acl_packet.specs.declared.filtering.Hook.{Hook}
use Rattle.acl_packet.specs.declared.filtering.Hook.TheVariants.{Input, Output, Forward}
use Rattle.acl_text.specs.Cuts.{cut_at}
use Rattle.acl_rows.specs.FamilyWords.{family_in}
use Rattle.acl_rows.specs.Rows.{Row, row, text_of_rows, words_in}
use Rattle.acl_rows.specs.RowSteps.{IsRow, begins_with}
use Rattle.acl_rows.proofs.RowLaws.{free_spaced, join_spaced, text_of_words}
use Rattle.acl_rows.proofs.WordLaws.{word}
use Rattle.ipt_lang.specs.declared.chain_rows.TargetRow.{TargetRow}
use Rattle.ipt_lang.specs.declared.documents.Rule.{Rule}
use Rattle.ipt_lang.specs.Documents.{IsRemark, IsRule, family_word, hook_word}
use Rattle.ipt_lang.specs.ReadingSteps.{hook_in, rule_in}
use Rattle.ipt_lang.specs.ScanSteps.{IsAny, IsChainName, Lacks, name_in, name_rows, policy_rows, remark_in, scanned_rule, target, target_at, target_in, target_rows}
use Rattle.ipt_lang.specs.Texts.{chain_name, chain_row, default_rows, default_word, jump_row, remark_rows, rule_row, rule_rows, rule_words, target_row}
use Rattle.ipt_lang.proofs.DocumentLaws.{no_hook, own_hook}
use Rattle.acl_rows.proofs.RowLaws.{words_there}
use Rattle.ipt_lang.proofs.FirstRowLaws.{Once, first_line_again, other_row, row_once}
use Rattle.ipt_lang.proofs.RuleReadingLaws.{rule_again}
use Rattle.ipt_lang.proofs.SafeRowLaws.{family_safe, hook_safe, name_safe, remark_safe, rule_safe}

-- ---- remarks

abbrev remark_words : List ℕ → List (List ℕ)
remark_words text = codes "#" ∷ words_in text

pub remark_row_safe : (text : List ℕ) → IsRemark text → IsRow (row 0 (remark_words text))
unfolding remark_rows
remark_row_safe text h = (remark_safe text h).0

pub remark_again : (text x more : List ℕ) → IsRemark x → text ≡ text_of_rows (remark_rows x) ++ more → remark_in text ≡ x
unfolding remark_rows
remark_again text x more h e =
    ap remark_in e ∙ ap (drop 2) (first_line_again (remark_words x) [] more (remark_row_safe x h))
    ∙ ap (drop 2) (sym (join_spaced (codes "#") (words_in x)) ∙ ap (λ t. codes "#" ++ t) (sym (free_spaced x)))

pub remark_once : Once IsRemark remark_rows
unfolding remark_rows
remark_once x y a b h k e =
    let same = row_once (remark_words x) (remark_words y) [] [] a b (remark_row_safe x h) (remark_row_safe y k) e in
    (text_of_words x ∙ ap (λ ws. join_with_byte 32 (drop 1 ws)) same.0 ∙ sym (text_of_words y), same.1)

-- ---- names

pub head_safe : (hook : Hook) (name : List ℕ) → IsChainName name → IsRow (chain_row hook name)
head_safe hook name h = record { start = refl; words = (word (codes "-N") refl refl, (name_safe hook name h, tt)) }

pub name_again : (hook : Hook) (text x more : List ℕ) → IsChainName x → text ≡ text_of_rows (name_rows hook x) ++ more → name_in text ≡ x
name_again hook text x more h e =
    ap name_in e ∙ ap (drop 5) (first_line_again (codes "-N" ∷ chain_name hook x ∷ []) [] more (head_safe hook x h))

pub name_once : (hook : Hook) → Once IsChainName (name_rows hook)
name_once hook x y a b h k e =
    let same = row_once (codes "-N" ∷ chain_name hook x ∷ []) (codes "-N" ∷ chain_name hook y ∷ []) [] [] a b (head_safe hook x h) (head_safe hook y k) e in
    (ap (λ ws. drop 2 (get_or ws 1 [])) same.0, same.1)

pub no_remark : (hook : Hook) (name more : List ℕ) → IsChainName name → Lacks IsRemark remark_rows (text_of_rows (name_rows hook name) ++ more)
unfolding remark_rows
no_remark hook name more n x behind h e =
    other_row (begins_with (codes "#")) (remark_words x) (codes "-N" ∷ chain_name hook name ∷ []) [] [] behind more
    (remark_row_safe x h) (head_safe hook name n) refl refl (sym e)

-- ---- rules

abbrev behind_name : Hook → List ℕ → List (List ℕ) → List (List ℕ)
behind_name hook name words = codes "-A" ∷ chain_name hook name ∷ words

rule_row_safe : (hook : Hook) (f : Family) (name : List ℕ) (r : Rule) → IsChainName name → IsRule f r → IsRow (rule_row hook name (rule_words f r))
rule_row_safe hook f name r n h = record { start = refl; words = (word (codes "-A") refl refl, (name_safe hook name n, rule_safe f r h)) }

pub scanned_again : (hook : Hook) (f : Family) (name text : List ℕ) (r : Rule) (more : List ℕ) → IsChainName name → IsRule f r
    → text ≡ text_of_rows (rule_rows hook f name r) ++ more → scanned_rule f text ≡ r
unfolding rule_rows
scanned_again hook f name text r more n h e =
    let words = behind_name hook name (rule_words f r) in
    let safe = rule_row_safe hook f name r n h in
    ap (scanned_rule f) e ∙ ap (λ l. rule_in f (drop 1 (drop 1 (words_in l)))) (first_line_again words [] more safe)
    ∙ ap (λ ws. rule_in f (drop 1 (drop 1 ws))) (words_there words safe) ∙ rule_again f r h

pub rule_once : (hook : Hook) (f : Family) (name : List ℕ) → IsChainName name → Once (IsRule f) (rule_rows hook f name)
unfolding rule_rows
rule_once hook f name n x y a b h k e =
    let same = row_once (behind_name hook name (rule_words f x)) (behind_name hook name (rule_words f y)) [] [] a b
    (rule_row_safe hook f name x n h) (rule_row_safe hook f name y n k) e in
    (sym (rule_again f x h) ∙ ap (λ ws. rule_in f (drop 1 (drop 1 ws))) same.0 ∙ rule_again f y k, same.1)

-- ---- jumps

abbrev pub jump_rows : Hook → List ℕ → List Row
jump_rows hook name = jump_row hook name ∷ []

abbrev jump_words : Hook → List ℕ → List (List ℕ)
jump_words hook name = codes "-A" ∷ hook_word hook ∷ codes "-j" ∷ chain_name hook name ∷ []

jump_safe : (hook : Hook) (name : List ℕ) → IsChainName name → IsRow (jump_row hook name)
jump_safe hook name n =
    record { start = refl; words = (word (codes "-A") refl refl, (hook_safe hook, (word (codes "-j") refl refl, (name_safe hook name n, tt)))) }

pub jump_once : (hook : Hook) (name other a b : List ℕ) → IsChainName name → IsChainName other
    → text_of_rows (jump_rows hook name) ++ a ≡ text_of_rows (jump_rows hook other) ++ b → a ≡ b
jump_once hook name other a b n o e =
    (row_once (jump_words hook name) (jump_words hook other) [] [] a b (jump_safe hook name n) (jump_safe hook other o) e).1

pub no_rule : (hook : Hook) (f : Family) (name more : List ℕ) → IsChainName name
    → Lacks (IsRule f) (rule_rows hook f name) (text_of_rows (jump_rows hook name) ++ more)
unfolding rule_rows
no_rule hook f name more n r behind h e =
    other_row (λ ws. bytes_eq (get_or ws 1 []) (hook_word hook)) (jump_words hook name) (behind_name hook name (rule_words f r)) [] [] more behind
    (jump_safe hook name n) (rule_row_safe hook f name r n h) (own_hook hook) (no_hook hook name) e

-- ---- targets and policies

pub target_safe : (hook : Hook) (f : Family) → IsRow (target_row hook f)
target_safe hook f = record {
  start = refl;
  words = (word (codes "##") refl refl, (word (codes "iptables") refl refl, (hook_safe hook, (family_safe f, tt))));
}

abbrev target_words : Hook → Family → List (List ℕ)
target_words hook f = codes "##" ∷ codes "iptables" ∷ hook_word hook ∷ family_word f ∷ []

abbrev target_line : Hook → Family → List ℕ
target_line hook f = join_with_byte 32 (target_words hook f)

line_again : (hook : Hook) (f : Family) → target_at (cut_at 32 (drop 12 (target_line hook f))) ≡ target hook f
unfolding hook_in family_in
line_again Input V4 = refl
line_again Input V6 = refl
line_again Output V4 = refl
line_again Output V6 = refl
line_again Forward V4 = refl
line_again Forward V6 = refl

pub target_again : (text : List ℕ) (t : TargetRow) (more : List ℕ) → IsAny t → text ≡ text_of_rows (target_rows t) ++ more → target_in text ≡ t
target_again text t more h e =
    ap target_in e
    ∙ ap (λ l. target_at (cut_at 32 (drop 12 l))) (first_line_again (target_words t.hook t.family) [] more (target_safe t.hook t.family))
    ∙ line_again t.hook t.family

policy_safe : (hook : Hook) (accept : Bool) → IsRow (row 0 (codes "-P" ∷ hook_word hook ∷ default_word accept ∷ []))
policy_safe hook true = record { start = refl; words = (word (codes "-P") refl refl, (hook_safe hook, (word (codes "ACCEPT") refl refl, tt))) }
policy_safe hook false = record { start = refl; words = (word (codes "-P") refl refl, (hook_safe hook, (word (codes "DROP") refl refl, tt))) }

abbrev pub policy_words : Hook → Bool → List (List ℕ)
policy_words hook accept = codes "-P" ∷ hook_word hook ∷ default_word accept ∷ []

policy_again : (accept : Bool) → bytes_eq (default_word accept) (codes "ACCEPT") ≡ accept
policy_again true = refl
policy_again false = refl

-- one policy at most is written
pub policy_once : (hook : Hook) (o p : Option Bool) (a b : List ℕ) → (o ≡ None → Lacks IsAny (policy_rows hook) a) → (p ≡ None → Lacks IsAny (policy_rows hook) b)
    → text_of_rows (default_rows hook o) ++ a ≡ text_of_rows (default_rows hook p) ++ b → (o ≡ p) × (a ≡ b)
unfolding default_rows
policy_once hook None None a b h k e = (refl, e)
policy_once hook None (Some y) a b h k e = absurd (h refl y b tt e)
policy_once hook (Some x) None a b h k e = absurd (k refl x a tt (sym e))
policy_once hook (Some x) (Some y) a b h k e =
    let same = row_once (policy_words hook x) (policy_words hook y) [] [] a b (policy_safe hook x) (policy_safe hook y) e in
    (ap (λ z. Some z) (sym (policy_again x) ∙ ap (λ ws. bytes_eq (get_or ws 2 []) (codes "ACCEPT")) same.0 ∙ policy_again y), same.1)

-- a policy begins no other row, and the text of none
pub no_policy : (hook : Hook) (ws : List (List ℕ)) (rows : List Row) (more : List ℕ) → IsRow (row 0 ws) → begins_with (codes "-P") ws ≡ false
    → Lacks IsAny (policy_rows hook) (text_of_rows (row 0 ws ∷ rows) ++ more)
unfolding default_rows
no_policy hook ws rows more safe other accept behind h e =
    other_row (begins_with (codes "-P")) (policy_words hook accept) ws [] rows behind more (policy_safe hook accept) safe refl other (sym e)

pub neither_policy : (hook : Hook) (text : List ℕ) → ((more : List ℕ) → text ≡ text_of_rows (policy_rows hook true) ++ more → ⊥)
    → ((more : List ℕ) → text ≡ text_of_rows (policy_rows hook false) ++ more → ⊥) → Lacks IsAny (policy_rows hook) text
neither_policy hook text accepts drops true more h e = accepts more e
neither_policy hook text accepts drops false more h e = drops more e

pub target_once : Once IsAny target_rows
target_once t u a b h k e =
    let same = row_once (target_words t.hook t.family) (target_words u.hook u.family) [] [] a b (target_safe t.hook t.family) (target_safe u.hook u.family) e in (
      sym (line_again t.hook t.family) ∙ ap (λ ws. target_at (cut_at 32 (drop 12 (join_with_byte 32 ws)))) same.0 ∙ line_again u.hook u.family,
      same.1,
    )
