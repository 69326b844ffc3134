-- A rule's line is its parts, one behind the other.
use Rattle.std.proofs.Common.{◌≡◌, ℕ, List, [], ◌∷◌, ◌++◌, map, codes, append_assoc, append-nil, ap, sym, ◌∙◌}
use Rattle.std.proofs.lemmas.Grind.{flat_map-append}
use Rattle.acl_packet.specs.declared.addresses.Family.{Family}
use Rattle.acl_packet.specs.declared.filtering.Hook.{Hook}
use Rattle.acl_rows.specs.RowHalves.{row_back}
use Rattle.acl_rows.specs.Rows.{row_text, spaced, text_of_rows}
use Rattle.acl_rows.proofs.RowLaws.{row_halves}
use Rattle.ipt_lang.specs.declared.documents.Rule.{Rule}
use Rattle.ipt_lang.specs.RuleLines.{destination_words, rule_back, rule_front, rule_source, source_words}
use Rattle.ipt_lang.specs.Texts.{address_words, back_words, chain_name, front_words, ports_words, proto_words, range_word, rule_row, rule_rows, rule_words}

-- the words of the ports of a rule
abbrev pub own_ports : Rule → List (List ℕ)
own_ports r = ports_words (map range_word r.sports) (map range_word r.dports)

-- the words from the destination on
abbrev pub own_back : Family → Rule → List (List ℕ)
own_back family r = destination_words family r.dst (own_ports r) r.itype r.icode r.flags r.state r.act

-- the words of a rule are those of its parts
pub words_of_parts : (family : Family) (r : Rule)
    → proto_words family r.proto ++ (source_words r.src ++ own_back family r) ≡ rule_words family r
unfolding destination_words front_words rule_words
words_of_parts family r =
    let proto = proto_words family r.proto in
    let src = source_words r.src in
    let dst = address_words (codes "-d") r.dst in
    let rest = own_ports r ++ back_words family r.itype r.icode r.flags r.state r.act in
    ap (λ t. proto ++ t) (sym (append_assoc src dst rest)) ∙ sym (append_assoc proto (src ++ dst) rest)

-- words, and behind them those that end a row
words_behind : (ws vs : List (List ℕ)) → row_back (ws ++ vs) ≡ spaced ws ++ row_back vs
unfolding row_back
words_behind ws vs =
    ap (λ t. t ++ 10 ∷ []) (flat_map-append (λ (w : List ℕ). 32 ∷ w) ws vs) ∙ append_assoc (spaced ws) (spaced vs) (10 ∷ [])

pub line_of_parts : (hook : Hook) (family : Family) (name : List ℕ) (r : Rule) → text_of_rows (rule_rows hook family name r)
    ≡ (rule_front hook name family r.proto ++ rule_source r.src)
    ++ rule_back family r.dst (own_ports r) r.itype r.icode r.flags r.state r.act
unfolding rule_rows
line_of_parts hook family name r =
    let front = rule_front hook name family r.proto in
    append-nil (row_text (rule_row hook name (rule_words family r)))
    ∙ ap (λ words. row_text (rule_row hook name words)) (sym (words_of_parts family r))
    ∙ row_halves 0 (codes "-A") (chain_name hook name ∷ proto_words family r.proto) (source_words r.src ++ own_back family r)
    ∙ ap (λ t. front ++ t) (words_behind (source_words r.src) (own_back family r))
    ∙ sym (append_assoc front (rule_source r.src) (row_back (own_back family r)))
