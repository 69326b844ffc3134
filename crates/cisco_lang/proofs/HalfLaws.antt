-- An entry's line is its parts, one behind the other.
use Rattle.std.proofs.Common.{◌≡◌, ℕ, List, [], ◌∷◌, ◌++◌, replicate, append-nil, ap, sym, ◌∙◌, append_assoc}
use Rattle.acl_packet.specs.declared.addresses.Family.{Family}
use Rattle.acl_rows.specs.RowHalves.{row_front}
use Rattle.acl_rows.specs.Rows.{row, row_text, spaced, text_of_rows}
use Rattle.acl_rows.proofs.RowLaws.{row_halves}
use Rattle.cisco_lang.specs.declared.documents.Entry.{Entry}
use Rattle.cisco_lang.specs.declared.documents.Item.TheVariants.{Entry as AnEntry}
use Rattle.cisco_lang.specs.EntryHalves.{back_words, entry_back, entry_source, entry_start, front_words}
use Rattle.cisco_lang.specs.Texts.{action_word, end_words, entry_words, item_rows, proto_word}

-- a front is its first two words, and those behind them
front_parts : (indent : ℕ) (first second : List ℕ) (rest : List (List ℕ))
    → row_front indent first (second ∷ rest) ≡ row_front indent first (second ∷ []) ++ spaced rest
unfolding row_front
front_parts indent first second rest =
    let start : List ℕ = replicate indent 32 ++ first in
    ap (λ t. start ++ (t ++ spaced rest)) (sym (append-nil (32 ∷ second)))
    ∙ sym (append_assoc start ((32 ∷ second) ++ []) (spaced rest))

pub entry_parts : (family : Family) (e : Entry) → text_of_rows (item_rows family (AnEntry e))
    ≡ (entry_start family e.permit e.proto ++ entry_source family e.src e.sport)
    ++ entry_back family e.dst e.dport e.itype e.icode e.flags e.log
unfolding item_rows entry_words front_words back_words
entry_parts family e =
    append-nil (row_text (row 1 (entry_words family e)))
    ∙ row_halves 1 (action_word e.permit) (front_words family e.proto e.src e.sport) (back_words family e.dst e.dport e.itype e.icode e.flags e.log)
    ∙ ap (λ t. t ++ entry_back family e.dst e.dport e.itype e.icode e.flags e.log)
    (front_parts 1 (action_word e.permit) (proto_word family e.proto) (end_words family e.src e.sport))
