-- Headers, blocks and policies: the words of a text that stands are read as what it means.
use Rattle.std.proofs.Common.{◌≡◌, ℕ, ◌+◌, ◌<◌, ◌≤◌, ◌==◌, true, false, nat_le, if◌then◌else◌, List, [], ◌∷◌, ◌++◌, map, flat_map, length, Ok, Err, refl, ap, sym, subst, ◌∙◌, append_assoc, append-nil, length-append, codes, arith}
use Rattle.std.specs.List.{AllByRecursion, list_all, list_any, count_by}
use Rattle.std.proofs.lemmas.Bool.Decides.{nat_tests}
use Rattle.std.proofs.lemmas.List.{length-map}
use Rattle.acl_text.specs.declared.faults.Code.TheVariants as codes_of
use Rattle.acl_text.specs.declared.faults.Place.{Place}
use Rattle.acl_text.specs.Steps.{◌>>=◌}
use Rattle.acl_words.specs.declared.forms.Form.TheVariants as forms
use Rattle.acl_words.specs.Tokens.{Token}
use Rattle.acl_words.specs.Words.{word}
use Rattle.acl_target.specs.declared.targets.Kind.{Kind}
use Rattle.acl_target.specs.declared.targets.Target.{Target}
use Rattle.acl_target.specs.Clashes.{clash, same_kind}
use Rattle.acl_policy.specs.declared.blocks.Block.{Block}
use Rattle.acl_policy.specs.ReadingParts.{Header, InHeader, HeaderEnd, TermEnd}
use Rattle.acl_policy.specs.ReadingParts.{PolicyState}
use Rattle.acl_policy.specs.declared.values.Takes.TheVariants as takes
use Rattle.acl_policy.specs.Conditions.{Each, StandsBehind, NameIsNew, targets_of, terms_of}
use Rattle.acl_policy.specs.Policies.{start, with_number, with_target, behind_target, behind_header_keyword, behind_word, behind_keyword, behind_begin, behind_end, values_of, last_place, end_of, policy_of}
use Rattle.acl_text.specs.Refusals.{slip}
use Rattle.acl_policy.specs.Slips.{start_place, slip_of}
use Rattle.acl_policy.specs.Terms.{no_draft}
use Rattle.acl_policy.specs.Values.{is_value, some_values}
use Rattle.acl_policy.proofs.ClashLaws.{any_same, clash_same}
use Rattle.policy_grammar.specs.TargetTexts.{plain, LineText, TargetText, target_values, line_meant, target_meant}
use Rattle.policy_grammar.specs.TermTexts.{TermText, term_words, term_meant, TermStands}
use Rattle.policy_grammar.specs.PolicyTexts.{HeaderItem, header_item_words, header_item_targets, HeaderItemStands, BlockText, block_meant, BlockStands, text_words, blocks_meant, text_meant, TextStands}
use Rattle.policy_grammar.specs.ReadingLaws.{line_named}
use Rattle.policy_grammar.proofs.Outcomes.{if_false}
use Rattle.policy_grammar.proofs.Units.{walk, walk_word, walk_begin, walk_end, walk_keyword}
use Rattle.policy_grammar.proofs.ItemLaws.{all_read}
use Rattle.policy_grammar.proofs.TargetLineLaws.{line_reads, line_unmarked}
use Rattle.policy_grammar.proofs.TermLaws.{values_unmarked, TermMayStand, behind_terms, terms_read}

pub renumbered : (place : Place) (n m : ℕ) (l : LineText) → record (line_meant place n l) { number = m } ≡ line_meant place m l
renumbered place n m (LineText.CiscoLine name family) = refl
renumbered place n m (LineText.JuniperLine name family) = refl
renumbered place n m (LineText.IptablesLine at chain cs) = refl
renumbered place n m (LineText.NftablesLine from families at hook cs) = refl

pub clashes_same : (earlier : List Target) (place : Place) (n m : ℕ) (l : LineText)
    → list_any (λ e. clash e (line_meant place n l)) earlier ≡ list_any (λ e. clash e (line_meant place m l)) earlier
clashes_same earlier place n m l =
    any_same (λ e. clash e (line_meant place n l)) (λ e. clash e (record (line_meant place n l) { number = m })) earlier
    (λ e. sym (clash_same e (line_meant place n l) m))
    ∙ ap (λ t. list_any (λ e. clash e t) earlier) (renumbered place n m l)

pub number_same : (place : Place) (n : ℕ) (l : LineText) → n ≡ (line_meant place n l).number
number_same place n l = ap (λ (t : Target). t.number) (renumbered place 0 n l)

-- The number that a line is given is the one that its text has.
pub number_given : (earlier : List Target) (place : Place) (n : ℕ) (l : LineText)
    → n ≡ count_by (λ e. same_kind e.kind (line_meant place n l).kind) earlier + 1
    → with_number earlier (line_meant place 0 l) ≡ line_meant place n l
number_given earlier place n l h =
    let kinds : (line_meant place 0 l).kind ≡ (line_meant place n l).kind = ap (λ (t : Target). t.kind) (renumbered place 0 n l) in
    ap (λ (kind : Kind). record
    (line_meant place 0 l) { number = count_by (λ (e : Target). same_kind e.kind kind) earlier + 1 }) kinds
    ∙ ap (λ m. record (line_meant place 0 l) { number = m }) (sym h)
    ∙ renumbered place 0 n l

fewer : (n : ℕ) → n < 64 → nat_le 64 n ≡ false
fewer n h = grind (arith, nat_tests)

target_read : (s : PolicyState) (k : Token) (t : TargetText) → k.place ≡ t.place → StandsBehind s.earlier (target_meant t)
    → length s.earlier < 64
    → behind_target s k (line_named k.place t.line) ≡ Ok (with_target s (target_meant t))
unfolding behind_target
target_read s k t e h room = subst (λ p. (if list_any (λ x. clash x (line_meant p 0 t.line)) s.earlier
    then Err (slip codes_of.FilterTwice (line_named p t.line).place (line_meant p 0 t.line).name)
    else if nat_le 64 (length s.earlier) then Err (slip_of codes_of.TooMany k)
    else Ok (with_target s (with_number s.earlier (line_meant p 0 t.line)))) ≡ Ok (with_target s (target_meant t))) (sym e)
    (if_false (list_any (λ x. clash x (line_meant t.place 0 t.line)) s.earlier) _ _
    (clashes_same s.earlier t.place 0 t.number t.line ∙ h.clashes_not)
    ∙ if_false (nat_le 64 (length s.earlier)) _ _ (fewer (length s.earlier) room)
    ∙ ap (λ x. Ok (with_target s x))
    (number_given s.earlier t.place t.number t.line (number_same t.place t.number t.line ∙ h.number_is)))

abbrev pub with_targets : PolicyState → List Target → PolicyState
with_targets s ts = record s { earlier = s.earlier ++ ts; targets = s.targets ++ ts }

remark_read : (s : PolicyState) (k : Token) (first : Token) (more : List Token) → list_all (is_value takes.String) (first ∷ more) ≡ true
    → (some_values takes.String k (first ∷ more) >>= λ _. Ok s) ≡ Ok s
remark_read s k first more h = ap (λ r. r >>= λ _. Ok s) (all_read takes.String (first ∷ more) h)

header_item_read : (s : PolicyState) (i : HeaderItem) (more : List Target) (rest : List Token) → s.part ≡ InHeader → HeaderItemStands i
    → Each StandsBehind s.earlier (header_item_targets i ++ more) → length s.earlier + length (header_item_targets i) ≤ 64
    → values_of rest ≡ []
    → walk s (header_item_words i ++ rest) ≡ walk (with_targets s (header_item_targets i)) rest
unfolding behind_keyword behind_header_keyword
header_item_read s (HeaderItem.Remark place first ws) more rest p h each room e =
    let k : Token = word place forms.Keyword (codes "comment::") in
    walk_keyword s place (codes "comment::") (first ∷ ws) rest (values_unmarked takes.String (first ∷ ws) h) e
    ∙ ap (λ q. behind_keyword q s k (first ∷ ws) >>= λ t. walk t rest) p
    ∙ ap (λ r. r >>= λ t. walk t rest) (remark_read s k first ws h)
    ∙ (λ i. walk (record s { earlier = sym (append-nil s.earlier) i; targets = sym (append-nil s.targets) i }) rest)
header_item_read s (HeaderItem.Line t) more rest p h each room e =
    let k : Token = word t.place forms.Keyword (codes "target::") in
    walk_keyword s t.place (codes "target::") (target_values t) rest (line_unmarked t.platform t.line) e
    ∙ ap (λ q. behind_keyword q s k (target_values t) >>= λ u. walk u rest) p
    ∙ ap (λ r. (r >>= λ n. behind_target s k n) >>= λ u. walk u rest) (line_reads k t.platform t.line h)
    ∙ ap (λ r. r >>= λ u. walk u rest) (target_read s k t refl each.0 (omega arith))

no_values_before : (items : List HeaderItem) (rest : List Token) → values_of rest ≡ []
    → values_of (flat_map header_item_words items ++ rest) ≡ []
no_values_before [] rest e = e
no_values_before (HeaderItem.Remark place first ws ∷ is) rest e = refl
no_values_before (HeaderItem.Line t ∷ is) rest e = refl

-- Conditions on each item of a list, by its parts.
pub each_behind : {A : Type 0} (R : List A → A → Type 0) (before xs ys : List A) → Each R before (xs ++ ys)
    → Each R (before ++ xs) ys
each_behind R before [] ys h = subst (λ b. Each R b ys) (sym (append-nil before)) h
each_behind R before (x ∷ xs) ys h =
    subst (λ b. Each R b ys) (append_assoc before (x ∷ []) xs) (each_behind R (before ++ x ∷ []) xs ys h.1)

header_read : (s : PolicyState) (items : List HeaderItem) (more : List Target) (rest : List Token) → s.part ≡ InHeader
    → AllByRecursion HeaderItemStands items
    → Each StandsBehind s.earlier (flat_map header_item_targets items ++ more)
    → length s.earlier + length (flat_map header_item_targets items) ≤ 64 → values_of rest ≡ []
    → walk s (flat_map header_item_words items ++ rest) ≡ walk (with_targets s (flat_map header_item_targets items)) rest
header_read s [] more rest p h each room e =
    λ i. walk (record s { earlier = sym (append-nil s.earlier) i; targets = sym (append-nil s.targets) i }) rest
header_read s (i ∷ is) more rest p h each room e =
    let ts : List Target = header_item_targets i in
    let us : List Target = flat_map header_item_targets is in
    let whole : Each StandsBehind s.earlier (ts ++ (us ++ more)) =
    subst (Each StandsBehind s.earlier) (append_assoc ts us more) each in
    ap (walk s) (append_assoc (header_item_words i) (flat_map header_item_words is) rest)
    ∙ header_item_read s i (us ++ more) (flat_map header_item_words is ++ rest) p h.0 whole (omega (arith, length-append ts us))
    (no_values_before is rest e)
    ∙ header_read (with_targets s ts) is more rest p h.1 (each_behind StandsBehind s.earlier ts (us ++ more) whole)
    (omega (arith, length-append ts us, length-append s.earlier ts)) e
    ∙ (λ j. walk (record s { earlier = append_assoc s.earlier ts us j; targets = append_assoc s.targets ts us j }) rest)

-- The reader behind `header`, and behind the last term of a block.
abbrev pub at_header : List Block → List Target → ℕ → PolicyState
at_header blocks earlier count = record {
  blocks = blocks;
  earlier = earlier;
  targets = [];
  terms = [];
  term_count = count;
  part = Header;
  draft = no_draft;
}

abbrev pub at_block_end : List Block → List Target → Block → ℕ → PolicyState
at_block_end blocks earlier b count = record {
  blocks = blocks;
  earlier = earlier;
  targets = b.targets;
  terms = b.terms;
  term_count = count;
  part = TermEnd;
  draft = no_draft;
}

-- The words of a block behind `header`.
abbrev pub block_rest : BlockText → List Token
block_rest b =
    word b.begin forms.Begin (codes "{")
    ∷ (flat_map header_item_words b.items ++ word b.end forms.End (codes "}") ∷ []) ++ flat_map term_words b.terms

some_targets : (n : ℕ) → 0 < n → (n == 0) ≡ false
some_targets n h = grind (arith, nat_tests)

header_ended : (s : PolicyState) (m : Token) → 0 < length s.targets → behind_end InHeader s m ≡ Ok (record s { part = HeaderEnd })
unfolding behind_end
header_ended s m h = if_false (length s.targets == 0) _ _ (some_targets (length s.targets) h)

terms_may_stand : (s : PolicyState) → TermMayStand (record s { part = HeaderEnd })
unfolding behind_word
terms_may_stand s place = refl

block_terms_read : (s : PolicyState) (ts : List TermText) (rest : List Token) → 0 < length ts → TermMayStand s
    → AllByRecursion TermStands ts
    → Each NameIsNew s.terms (map term_meant ts) → s.term_count + length ts ≤ 1024
    → walk s (flat_map term_words ts ++ rest) ≡ walk (behind_terms s ts) rest
block_terms_read s [] rest some may h new few = absurd (omega (arith, some))
block_terms_read s (t ∷ ts) rest some may h new few = terms_read s t ts rest may h new few

block_read : (blocks : List Block) (earlier more : List Target) (count : ℕ) (b : BlockText) (rest : List Token) → BlockStands b
    → Each StandsBehind earlier ((block_meant b).targets ++ more) → length earlier + length (block_meant b).targets ≤ 64
    → count + length b.terms ≤ 1024
    → walk (at_header blocks earlier count) (block_rest b ++ rest)
    ≡ walk (at_block_end blocks (earlier ++ (block_meant b).targets) (block_meant b) (count + length b.terms)) rest
unfolding behind_begin
block_read blocks earlier more count b rest h each room few =
    let end : Token = word b.end forms.End (codes "}") in
    let items : List Token = flat_map header_item_words b.items in
    let terms : List Token = flat_map term_words b.terms in
    let s : PolicyState = record (at_header blocks earlier count) { part = InHeader } in
    let inside : PolicyState = with_targets s (block_meant b).targets in
    walk_begin (at_header blocks earlier count) b.begin (codes "{") (((items ++ end ∷ []) ++ terms) ++ rest)
    ∙ ap (walk s) (append_assoc (items ++ end ∷ []) terms rest ∙ append_assoc items (end ∷ []) (terms ++ rest))
    ∙ header_read s b.items more (end ∷ terms ++ rest) refl h.items_stand each room refl
    ∙ walk_end inside b.end (codes "}") (terms ++ rest)
    ∙ ap (λ r. r >>= λ t. walk t (terms ++ rest)) (header_ended inside end h.some_target)
    ∙ block_terms_read (record inside { part = HeaderEnd }) b.terms rest h.some_term
    (terms_may_stand inside) h.terms_stand h.names_differ few

-- The text of some blocks, behind the first one's `header`.
blocks_read : (blocks : List Block) (earlier : List Target) (count : ℕ) (b : BlockText) (bs : List BlockText) (place : Place)
    → AllByRecursion BlockStands (b ∷ bs) → Each StandsBehind earlier (targets_of (blocks_meant (b ∷ bs)))
    → length earlier + length (targets_of (blocks_meant (b ∷ bs))) ≤ 64
    → count + length (terms_of (blocks_meant (b ∷ bs))) ≤ 1024
    → (walk (at_header blocks earlier count) (block_rest b ++ text_words bs) >>= λ t. end_of t.part t place)
    ≡ Ok (record { blocks = blocks ++ blocks_meant (b ∷ bs) })
unfolding behind_word end_of
blocks_read blocks earlier count b [] place h each room few =
    let ts : List Target = (block_meant b).targets in
    let counts : count + length b.terms ≤ 1024 =
    omega (arith, few, length-append (map term_meant b.terms) [], length-map b.terms term_meant) in
    let rooms : length earlier + length ts ≤ 64 = omega (arith, room, length-append ts []) in
    ap (λ r. r >>= λ t. end_of t.part t place) (block_read blocks earlier [] count b [] h.0 each rooms counts)
blocks_read blocks earlier count b (c ∷ cs) place h each room few =
    let ts : List Target = (block_meant b).targets in
    let more : List Target = targets_of (blocks_meant (c ∷ cs)) in
    let counts : count + length b.terms + length (terms_of (blocks_meant (c ∷ cs))) ≤ 1024 =
    omega (arith, few, length-append (map term_meant b.terms) (terms_of (blocks_meant (c ∷ cs))), length-map b.terms term_meant) in
    let end : PolicyState = at_block_end blocks (earlier ++ ts) (block_meant b) (count + length b.terms) in
    ap (λ r. r >>= λ t. end_of t.part t place)
    (block_read blocks earlier more count b (text_words (c ∷ cs)) h.0 each (omega (arith, room, length-append ts more))
    (omega (arith, counts))
    ∙ walk_word end (plain c.place (codes "header")) (block_rest c ++ text_words cs) refl)
    ∙ blocks_read (blocks ++ block_meant b ∷ []) (earlier ++ ts) (count + length b.terms) c cs place h.1
    (each_behind StandsBehind earlier ts more each) (omega (arith, room, length-append ts more, length-append earlier ts)) counts
    ∙ ap (λ xs. Ok (record { blocks = xs })) (append_assoc blocks (block_meant b ∷ []) (blocks_meant (c ∷ cs)))

pub text_read : (blocks : List BlockText) → TextStands blocks → policy_of (text_words blocks) ≡ Ok (text_meant blocks)
unfolding policy_of behind_word
text_read [] h = absurd (omega (arith, h.some_block))
text_read (b ∷ bs) h =
    let ws : List Token = text_words (b ∷ bs) in
    ap (λ r. r >>= λ s. end_of s.part s (last_place start_place ws))
    (walk_word start (plain b.place (codes "header")) (block_rest b ++ text_words bs) refl)
    ∙ blocks_read [] [] 0 b bs (last_place start_place ws) h.blocks_stand h.targets_stand (omega (arith, h.few_targets))
    (omega (arith, h.few_terms))
