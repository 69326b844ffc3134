-- The head of a section is read again from the lines at which it stands.
use Rattle.std.proofs.Common.{◌≡◌, ℕ, zero, suc, ◌^◌, ◌<◌, true, false, ℤ, Bool, List, [], ◌∷◌, ◌++◌, replicate, length, get_or, codes, refl, ap, sym, ◌∙◌, append_assoc, arith}
use Rattle.std.specs.Option.{option_map_or}
use Rattle.std.specs.List.{join_with_byte}
use Rattle.std.specs.Str.{bytes_eq}
use Rattle.acl_packet.specs.declared.addresses.Families.{Families}
use Rattle.acl_packet.specs.declared.filtering.Hook.{Hook}
use Rattle.acl_text.specs.Cuts.{has_byte}
use Rattle.acl_text.proofs.CutLaws.{cut-again}
use Rattle.acl_rows.specs.FamilyWords.{families_in}
use Rattle.acl_rows.specs.Rows.{Row, row, row_line, row_text, text_of_rows}
use Rattle.acl_rows.specs.RowSteps.{AreRows, AreWords}
use Rattle.nft_lang.specs.declared.chain_rows.TableHead.{TableHead}
use Rattle.nft_lang.specs.Documents.{fits_i32, table_name}
use Rattle.nft_lang.specs.ReadingSteps.{hook_in, priority_in, table_in, up_to}
use Rattle.nft_lang.specs.ScanSteps.{behind_byte, head_in, head_rows_of, name_in, part_at}
use Rattle.nft_lang.specs.Texts.{default_word, families_word, head_rows, hook_word, priority_word}
use Rattle.nft_lang.proofs.DocumentLaws.{default_again, families_again, hook_again, number_again, priority_again}
use Rattle.nft_lang.proofs.RuleReadingLaws.{up_to_none}
use Rattle.nft_lang.proofs.SafeRows.{head_safe}
use Rattle.acl_rows.proofs.RowLaws.{line_no_feed, row_first}

-- ---- parts

-- one part less stands before it
pub part_step : (byte left fewer : ℕ) (rest behind whole : List ℕ) → behind ≡ behind_byte byte rest → left ≡ suc fewer
    → part_at byte left rest ≡ whole → part_at byte fewer behind ≡ whole
part_step byte left fewer rest behind whole b e h = ap (part_at byte fewer) b ∙ ap (λ n. part_at byte n rest) (sym e) ∙ h

first_part : (byte : ℕ) (part rest : List ℕ) → has_byte byte part ≡ false → part_at byte 0 (part ++ byte ∷ rest) ≡ part
unfolding up_to
first_part byte part rest h =
    ap (λ o. option_map_or {U = List ℕ} (λ (p : List ℕ × List ℕ). p.0) o (part ++ byte ∷ rest)) (cut-again byte part rest h)

next_part : (byte place : ℕ) (part rest : List ℕ) → has_byte byte part ≡ false
    → part_at byte (suc place) (part ++ byte ∷ rest) ≡ part_at byte place rest
unfolding behind_byte
next_part byte place part rest h =
    ap (λ o. part_at byte place (option_map_or {U = List ℕ} (λ (p : List ℕ × List ℕ). p.1) o [])) (cut-again byte part rest h)

word_at : (place : ℕ) (words : List (List ℕ)) → AreWords words → place < length words → part_at 32 place (join_with_byte 32 words) ≡ get_or words place []
word_at place [] h l = absurd (omega arith)
word_at zero (w ∷ []) h l = up_to_none 32 w h.0.no_space
word_at zero (w ∷ v ∷ words) h l = first_part 32 w (join_with_byte 32 (v ∷ words)) h.0.no_space
word_at (suc place) (w ∷ []) h l = absurd (omega arith)
word_at (suc place) (w ∷ v ∷ words) h l =
    next_part 32 place w (join_with_byte 32 (v ∷ words)) h.0.no_space ∙ word_at place (v ∷ words) h.1 (omega arith)

first_line : (r : Row) (rows : List Row) (rest : List ℕ) → text_of_rows (r ∷ rows) ++ rest ≡ row_line r ++ 10 ∷ (text_of_rows rows ++ rest)
first_line r rows rest = append_assoc (row_text r) (text_of_rows rows) rest ∙ row_first r (text_of_rows rows ++ rest)

line_at : (place : ℕ) (rows : List Row) (rest : List ℕ) → AreRows rows → place < length rows
    → part_at 10 place (text_of_rows rows ++ rest) ≡ row_line (get_or rows place (row 0 []))
line_at place [] rest h l = absurd (omega arith)
line_at zero (r ∷ rows) rest h l =
    ap (part_at 10 0) (first_line r rows rest) ∙ first_part 10 (row_line r) (text_of_rows rows ++ rest) (line_no_feed r h.0)
line_at (suc place) (r ∷ rows) rest h l =
    ap (part_at 10 (suc place)) (first_line r rows rest) ∙ next_part 10 place (row_line r) (text_of_rows rows ++ rest) (line_no_feed r h.0)
    ∙ line_at place rows rest h.1 (omega arith)

behind_indent : (place : ℕ) (line : List ℕ) → part_at 32 (suc (suc (suc (suc (suc (suc (suc (suc place)))))))) (replicate 8 32 ++ line) ≡ part_at 32 place line
unfolding behind_byte
behind_indent place line = refl

-- ---- heads

abbrev made : Hook → Families → ℕ → ℤ → Bool → TableHead
made hook families number priority accept =
    record { hook = hook; families = families; number = number; priority = priority; accept = accept }

-- the words of a head
pub record HasHead (head : TableHead) (text : List ℕ) : Type 0 where
  pub hook : part_at 32 2 (part_at 10 0 text) ≡ hook_word head.hook
  pub families : part_at 32 3 (part_at 10 0 text) ≡ families_word head.families
  pub name : name_in text ≡ table_name head.number
  pub priority : part_at 32 13 (part_at 10 5 text) ≡ priority_word head.priority
  pub accept : part_at 32 15 (part_at 10 5 text) ≡ default_word head.accept

head_words : (head : TableHead) (rest : List ℕ) → head.number < 2 ^ 32 → fits_i32 head.priority ≡ true
    → HasHead head (text_of_rows (head_rows_of head) ++ rest)
unfolding head_rows name_in
head_words head rest small fits =
    let rows = head_rows_of head in
    let safe = head_safe head.hook head.families head.number head.priority head.accept small fits in
    let target = line_at 0 rows rest safe (omega arith) in
    let table = line_at 1 rows rest safe (omega arith) in
    let chain = line_at 5 rows rest safe (omega arith) in
    record {
      hook = ap (part_at 32 2) target ∙ word_at 2 (get_or rows 0 (row 0 [])).words safe.0.words (omega arith);
      families = ap (part_at 32 3) target ∙ word_at 3 (get_or rows 0 (row 0 [])).words safe.0.words (omega arith);
      name = ap (part_at 32 3) table ∙ word_at 3 (get_or rows 1 (row 0 [])).words safe.1.0.words (omega arith);
      priority = ap (part_at 32 13) chain ∙ behind_indent 5 _ ∙ word_at 5 (get_or rows 5 (row 0 [])).words safe.1.1.1.1.1.0.words (omega arith);
      accept = ap (part_at 32 15) chain ∙ behind_indent 7 _ ∙ word_at 7 (get_or rows 5 (row 0 [])).words safe.1.1.1.1.1.0.words (omega arith);
    }

read_head : (head : TableHead) (text : List ℕ) → head.number < 2 ^ 32 → fits_i32 head.priority ≡ true → HasHead head text → head_in text ≡ head
unfolding head_in
read_head head text small fits h =
    let hook : hook_in (part_at 32 2 (part_at 10 0 text)) ≡ head.hook = ap hook_in h.hook ∙ hook_again head.hook in
    let families : families_in (part_at 32 3 (part_at 10 0 text)) ≡ head.families = ap families_in h.families ∙ families_again head.families in
    let number : table_in (name_in text) ≡ head.number = ap table_in h.name ∙ number_again head.number small in
    let priority : priority_in (part_at 32 13 (part_at 10 5 text)) ≡ head.priority = ap priority_in h.priority ∙ priority_again head.priority fits in
    let accept : bytes_eq (part_at 32 15 (part_at 10 5 text)) (codes "accept;") ≡ head.accept =
    ap (λ w. bytes_eq w (codes "accept;")) h.accept ∙ default_again head.accept in
    same_head hook families number priority accept
  where
    same_head : {h k : Hook} {fs gs : Families} {m n : ℕ} {p q : ℤ} {a b : Bool} → h ≡ k → fs ≡ gs → m ≡ n → p ≡ q → a ≡ b → made h fs m p a ≡ made k gs n q b
    same_head {h} {k} {fs} {gs} {m} {n} {p} {q} {a} {b} e f g i j =
        ap (λ x. made x fs m p a) e ∙ ap (λ x. made k x m p a) f ∙ ap (λ x. made k gs x p a) g ∙ ap (λ x. made k gs n x a) i ∙ ap (λ x. made k gs n q x) j

pub head_again : (head : TableHead) (text rest : List ℕ) → head.number < 2 ^ 32 → fits_i32 head.priority ≡ true
    → text ≡ text_of_rows (head_rows_of head) ++ rest → (head_in text ≡ head) × (name_in text ≡ table_name head.number)
head_again head text rest small fits e =
    let words = head_words head rest small fits in (
      ap head_in e ∙ read_head head (text_of_rows (head_rows_of head) ++ rest) small fits words,
      ap name_in e ∙ words.name,
    )
