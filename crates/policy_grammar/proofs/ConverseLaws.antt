-- The converse: words that are read as a policy are those of a text that stands and means the policy.
use Rattle.std.proofs.Common.{◌≡◌, ℕ, ◌+◌, ◌<◌, ◌≤◌, ◌==◌, Bool, true, false, not, nat_le, if◌then◌else◌, List, [], ◌∷◌, ◌++◌, map, flat_map, length, Result, Ok, Err, IfOk, refl, ap, sym, subst, ◌∙◌, append_assoc, append-nil, length-append, codes, arith}
use Rattle.std.specs.List.{AllByRecursion, list_any, count_by}
use Rattle.std.specs.Str.{bytes_eq}
use Rattle.std.proofs.lemmas.Bool.Decides.{nat_tests}
use Rattle.std.proofs.lemmas.List.{length-map}
use Rattle.std.proofs.lemmas.Slice.Eq.{bytes_eq-Decides}
use Rattle.acl_text.specs.declared.faults.Place.{Place}
use Rattle.acl_text.specs.declared.faults.Slip.{Slip}
use Rattle.acl_text.specs.Names.{is_name}
use Rattle.acl_text.specs.Steps.{◌>>=◌}
use Rattle.acl_words.specs.declared.forms.Form.{Form}
use Rattle.acl_words.specs.declared.forms.Form.TheVariants as forms
use Rattle.acl_words.specs.Tokens.{Token}
use Rattle.acl_words.specs.Words.{word}
use Rattle.acl_target.specs.declared.targets.Kind.{Kind}
use Rattle.acl_target.specs.declared.targets.Target.{Target}
use Rattle.acl_target.specs.Clashes.{clash, same_kind}
use Rattle.acl_policy.specs.declared.blocks.Block.{Block}
use Rattle.acl_policy.specs.declared.keywords.Keyword.{Keyword}
use Rattle.acl_policy.specs.declared.keywords.Keyword.TheVariants as keywords
use Rattle.acl_policy.specs.RawTerms.{RawTerm}
use Rattle.acl_words.specs.declared.word_lists.Word.{Word}
use Rattle.acl_policy.specs.ReadingParts.{Part}
use Rattle.acl_policy.specs.ReadingParts.{Start, Header, InHeader, HeaderEnd, Term, Named, InTerm, TermEnd}
use Rattle.acl_policy.specs.ReadingParts.{PolicyState}
use Rattle.acl_policy.specs.ReadingParts.{NamedTarget}
use Rattle.acl_policy.specs.ReadingParts.{TermDraft}
use Rattle.acl_policy.specs.declared.values.Takes.TheVariants as takes
use Rattle.acl_policy.specs.Conditions.{Each, StandsBehind, NameIsNew, targets_of, terms_of}
use Rattle.acl_policy.specs.Policies.{start, with_number, with_target, behind_target, behind_header_keyword, behind_name, with_block, behind_word, behind_words, behind_keyword, behind_begin, behind_end, behind_mark, is_mark, values_of, behind_marks, behind_all, last_place, end_of, policy_of}
use Rattle.acl_policy.specs.Keywords.{entry}
use Rattle.acl_policy.specs.Slips.{start_place}
use Rattle.acl_policy.specs.Targets.{is_word, target_line}
use Rattle.acl_policy.specs.Terms.{no_draft, draft_behind}
use Rattle.acl_policy.specs.Values.{is_plain, is_value, word_of, some_values}
use Rattle.policy_grammar.specs.TargetTexts.{plain, LineText, TargetText, line_meant, target_meant}
use Rattle.policy_grammar.specs.TermTexts.{Item, item_words, values_at, ItemStands, TermText, items_words, term_words, term_meant, TermStands}
use Rattle.policy_grammar.specs.PolicyTexts.{HeaderItem, header_item_words, header_item_targets, HeaderItemStands, BlockText, header_words, block_words, block_meant, BlockStands, text_words, blocks_meant}
use Rattle.policy_grammar.specs.ReadingLaws.{IsLine, IsBraceText, HasText}
use Rattle.policy_grammar.proofs.Outcomes.{bind_ok, if_ok, and_left, and_right}
use Rattle.acl_policy.proofs.KeywordLaws.{keyword_known}
use Rattle.policy_grammar.proofs.ItemLaws.{draft_from, pushed, DayFits, checked, item_reads, AreValues, some_taken, checked_taken}
use Rattle.policy_grammar.proofs.TargetLineLaws.{line_read_is, plain_is, word_is}
use Rattle.policy_grammar.proofs.TermLaws.{values_push, day_fits}
use Rattle.policy_grammar.proofs.BlockLaws.{renumbered, clashes_same, number_same}
use Rattle.policy_grammar.proofs.TextsSoFar.{each_push, all_push, map_push, flat_push, flat_step, open_terms, Reads, start_reads, BlockOpen, AtHeaderItems, AtItems, AtTermEnd, BlocksKept, ReadsAt}

-- A word.
is_term_name : (w : Token) → not (is_value takes.Name w) ≡ false → (w ≡ plain w.place w.text) × (is_name w.text ≡ true)
is_term_name w h =
    let e : is_value takes.Name w ≡ true = not_false (is_value takes.Name w) h in
    (plain_is w (and_left (is_plain w.form) (is_name w.text) e), and_right (is_plain w.form) (is_name w.text) e)
  where
    not_false : (b : Bool) → not b ≡ false → b ≡ true
    not_false true h = refl
    not_false false h = cc

fewer_terms : (n : ℕ) → nat_le 1024 n ≡ false → n + 1 ≤ 1024
fewer_terms n h = grind (arith, nat_tests)

same_block : (s t : PolicyState) (b : BlockText) → t.targets ≡ s.targets → t.terms ≡ s.terms → BlockOpen s b → BlockOpen t b
same_block s t b e f o = record {
  items_stand = o.items_stand;
  targets_are = e ∙ o.targets_are;
  some_target = subst (λ (xs : List Target). 0 < length xs) (sym e) o.some_target;
  terms_are = f ∙ o.terms_are;
  terms_stand = o.terms_stand;
  names_differ = o.names_differ;
}

name_reads : (s : PolicyState) (ws : List Token) (w : Token) → ReadsAt Term s ws → IfOk (behind_name s w) (Reads (ws ++ w ∷ []))
unfolding behind_name
name_reads s ws w h = if_ok (Reads (ws ++ w ∷ [])) (not (is_value takes.Name w)) _ _ (λ _. tt)
    (λ n. if_ok (Reads (ws ++ w ∷ [])) (list_any (λ (t : RawTerm). bytes_eq t.name.text w.text) s.terms) _ _ (λ _. tt)
    (λ new. if_ok (Reads (ws ++ w ∷ [])) (nat_le 1024 s.term_count) _ _ (λ _. tt)
    (λ room. record {
      blocks = h.blocks;
      kept = record {
        blocks_are = h.kept.blocks_are;
        blocks_stand = h.kept.blocks_stand;
        earlier_is = h.kept.earlier_is;
        all_stand = h.kept.all_stand;
        few_targets = h.kept.few_targets;
        few_terms = fewer_terms s.term_count room;
      };
      counted = omega (arith, h.counted);
      is_open = record {
        block = h.is_open.block;
        place = h.is_open.place;
        name = word_of w;
        is_open = same_block s _ h.is_open.block refl refl h.is_open.is_open;
        name_is = (is_term_name w n).1;
        name_is_new = new;
        draft_is = refl;
        words_are =
            (λ i. h.is_open.words_are i ++ (is_term_name w n).0 i ∷ [])
            ∙ append_assoc (text_words h.blocks ++ block_words h.is_open.block) (plain h.is_open.place (codes "term") ∷ [])
            (plain w.place w.text ∷ []);
      };
    })))

-- The block that ends.
ended_block : (s : PolicyState) (b : BlockText) → BlockOpen s b → 0 < length b.terms → BlockStands b
ended_block s b o some = record {
  items_stand = o.items_stand;
  some_target = subst (λ (xs : List Target). 0 < length xs) o.targets_are o.some_target;
  terms_stand = o.terms_stand;
  some_term = some;
  names_differ = o.names_differ;
}

ended_blocks : (s : PolicyState) (bs : List BlockText) (b : BlockText) → BlocksKept s bs → BlockOpen s b
    → s.blocks ++ record { targets = s.targets; terms = s.terms } ∷ [] ≡ blocks_meant (bs ++ b ∷ [])
ended_blocks s bs b k o =
    (λ i. k.blocks_are i ++ record { targets = o.targets_are i; terms = o.terms_are i } ∷ [])
    ∙ sym (map_push block_meant bs b)

targets_more : (bs : List BlockText) (b : BlockText)
    → targets_of (blocks_meant (bs ++ b ∷ [])) ≡ targets_of (blocks_meant bs) ++ (block_meant b).targets
targets_more bs b = ap targets_of (map_push block_meant bs b)
    ∙ flat_push (λ (x : Block). x.targets) (blocks_meant bs) (block_meant b)

terms_more : (bs : List BlockText) (b : BlockText)
    → length (terms_of (blocks_meant (bs ++ b ∷ []))) ≡ length (terms_of (blocks_meant bs)) + length b.terms
terms_more bs b =
    ap (λ xs. length (terms_of xs)) (map_push block_meant bs b)
    ∙ ap length (flat_push (λ (x : Block). x.terms) (blocks_meant bs) (block_meant b))
    ∙ length-append (terms_of (blocks_meant bs)) (map term_meant b.terms)
    ∙ ap (λ n. length (terms_of (blocks_meant bs)) + n) (length-map b.terms term_meant)

words_more : (bs : List BlockText) (b : BlockText) → text_words (bs ++ b ∷ []) ≡ text_words bs ++ block_words b
words_more bs b = flat_push block_words bs b

block_kept : (s : PolicyState) (bs : List BlockText) (b : BlockText) → BlocksKept s bs → BlockOpen s b → 0 < length b.terms
    → BlocksKept (record (with_block s) { part = Header }) (bs ++ b ∷ [])
block_kept s bs b k o some = record {
  blocks_are = ended_blocks s bs b k o;
  blocks_stand = all_push BlockStands bs b k.blocks_stand (ended_block s b o some);
  earlier_is =
      k.earlier_is
      ∙ ap (λ xs. targets_of (blocks_meant bs) ++ xs) o.targets_are
      ∙ sym (targets_more bs b)
      ∙ sym (append-nil (targets_of (blocks_meant (bs ++ b ∷ []))));
  all_stand = k.all_stand;
  few_targets = k.few_targets;
  few_terms = k.few_terms;
}

same_kept : (s t : PolicyState) (bs : List BlockText) → t.blocks ≡ s.blocks → t.earlier ≡ s.earlier → t.targets ≡ s.targets
    → t.term_count ≡ s.term_count
    → BlocksKept s bs → BlocksKept t bs
same_kept s t bs a b c d k = record {
  blocks_are = a ∙ k.blocks_are;
  blocks_stand = k.blocks_stand;
  earlier_is = b ∙ k.earlier_is ∙ ap (λ xs. targets_of (blocks_meant bs) ++ xs) (sym c);
  all_stand = subst (Each StandsBehind []) (sym b) k.all_stand;
  few_targets = subst (λ (xs : List Target). length xs ≤ 64) (sym b) k.few_targets;
  few_terms = subst (λ n. n ≤ 1024) (sym d) k.few_terms;
}

term_word_reads : (p : Part) (s : PolicyState) (ws : List Token) (w : Token) (h : ReadsAt p s ws) (b : BlockText) → open_terms p ≡ 0
    → BlockOpen s b → ws ≡ text_words h.blocks ++ block_words b → is_word w (codes "term") ≡ true
    → Reads (ws ++ w ∷ []) (record s { part = Term })
term_word_reads p s ws w h b e o words c = record {
  blocks = h.blocks;
  kept = same_kept s (record s { part = Term }) h.blocks refl refl refl refl h.kept;
  counted = omega (arith, h.counted, e);
  is_open = record {
    block = b;
    place = w.place;
    is_open = same_block s (record s { part = Term }) b refl refl o;
    words_are = λ i. words i ++ word_is w (codes "term") c i ∷ [];
  };
}

word_reads : (p : Part) (s : PolicyState) (ws : List Token) (w : Token) → ReadsAt p s ws → IfOk (behind_word p s w) (Reads (ws ++ w ∷ []))
unfolding behind_word
word_reads Start s ws w h = if_ok (Reads (ws ++ w ∷ [])) (is_word w (codes "header")) _ _
    (λ c. record {
      blocks = h.blocks;
      kept = same_kept s (record s { part = Header }) h.blocks refl refl refl refl h.kept;
      counted = h.counted;
      is_open = record {
        place = w.place;
        words_are =
            (λ i. h.is_open.words_are i ++ word_is w (codes "header") c i ∷ [])
            ∙ ap (λ bs. text_words bs ++ plain w.place (codes "header") ∷ []) (sym h.is_open.none_yet);
        no_targets = h.is_open.no_targets;
        no_terms = h.is_open.no_terms;
      };
    })
    (λ _. tt)
word_reads HeaderEnd s ws w h = if_ok (Reads (ws ++ w ∷ [])) (is_word w (codes "term")) _ _
    (λ c. term_word_reads HeaderEnd s ws w h h.is_open.block refl h.is_open.is_open h.is_open.words_are c)
    (λ _. if_ok (Reads (ws ++ w ∷ [])) (is_word w (codes "header")) _ _ (λ _. tt) (λ _. tt))
word_reads Term s ws w h = name_reads s ws w h
word_reads TermEnd s ws w h = if_ok (Reads (ws ++ w ∷ [])) (is_word w (codes "term")) _ _
    (λ c. term_word_reads TermEnd s ws w h h.is_open.block refl h.is_open.is_open h.is_open.words_are c)
    (λ _. if_ok (Reads (ws ++ w ∷ [])) (is_word w (codes "header")) _ _
    (λ c. record {
      blocks = h.blocks ++ h.is_open.block ∷ [];
      kept = block_kept s h.blocks h.is_open.block h.kept h.is_open.is_open h.is_open.some_term;
      counted = omega (
        arith,
        h.counted,
        terms_more h.blocks h.is_open.block,
        ap
            (λ (xs : List RawTerm). length xs) h.is_open.is_open.terms_are,
        length-map h.is_open.block.terms term_meant,
      );
      is_open = record {
        place = w.place;
        words_are =
            (λ i. h.is_open.words_are i ++ word_is w (codes "header") c i ∷ [])
            ∙ ap (λ xs. xs ++ plain w.place (codes "header") ∷ []) (sym (words_more h.blocks h.is_open.block));
        no_targets = refl;
        no_terms = refl;
      };
    })
    (λ _. tt))
word_reads _ s ws w h = tt

words_read : (s : PolicyState) (before ws : List Token) → Reads before s → IfOk (behind_words s ws) (Reads (before ++ ws))
words_read s before [] h = subst (λ xs. Reads xs s) (sym (append-nil before)) h
words_read s before (w ∷ ws) h =
    bind_ok (Reads (before ++ w ∷ [])) (Reads (before ++ w ∷ ws)) (behind_word s.part s w) (λ t. behind_words t ws)
    (word_reads s.part s before w h)
    (λ t g. subst (λ xs. IfOk (behind_words t ws) (Reads xs)) (append_assoc before (w ∷ []) ws)
    (words_read t (before ++ w ∷ []) ws g))

-- A keyword of a header.
mark_is : (m : Token) (form : Form) (text : List ℕ) → m.form ≡ form → m.text ≡ text → m ≡ word m.place form text
mark_is m form text f t = λ i. record { place = m.place; form = f i; text = t i }

bytes_are : (a b : List ℕ) → bytes_eq a b ≡ true → a ≡ b
bytes_are a b h = (bytes_eq-Decides a b).0 h

fewer : (n : ℕ) → nat_le 64 n ≡ false → n + 1 ≤ 64
fewer n h = grind (arith, nat_tests)

item_more : (s : PolicyState) (ws : List Token) (h : ReadsAt InHeader s ws) (i : HeaderItem) (k : Token) (vs : List Token)
    → k ∷ vs ≡ header_item_words i
    → ws ++ k ∷ vs ≡ text_words h.blocks ++
    (plain h.is_open.place (codes "header") ∷ word h.is_open.begin forms.Begin (codes "{") ∷ flat_map header_item_words
    (h.is_open.items ++ i ∷ []))
item_more s ws h i k vs e =
    let front : List Token = plain h.is_open.place (codes "header") ∷ word h.is_open.begin forms.Begin (codes "{") ∷ [] in
    (λ j. h.is_open.words_are j ++ e j)
    ∙ append_assoc (text_words h.blocks) (front ++ flat_map header_item_words h.is_open.items) (header_item_words i)
    ∙ ap (λ xs. text_words h.blocks ++ xs) (sym (flat_step header_item_words h.is_open.items i front))

remark_reads : (s : PolicyState) (ws : List Token) (k : Token) (vs : List Token) → s.part ≡ InHeader → ReadsAt InHeader s ws
    → k.form ≡ forms.Keyword
    → k.text ≡ codes "comment::" → IfOk (some_values takes.String k vs >>= λ _. Ok s) (Reads (ws ++ k ∷ vs))
remark_reads s ws k vs p h f t =
    bind_ok (λ _. AreValues keywords.Comment (λ _. []) vs) (Reads (ws ++ k ∷ vs)) (some_values takes.String k vs) (λ _. Ok s)
    (some_taken keywords.Comment (λ _. []) k vs refl)
    (λ _ v. let i : HeaderItem = HeaderItem.Remark k.place v.first v.more in
    subst (λ q. ReadsAt q s (ws ++ k ∷ vs)) (sym p) (record {
      blocks = h.blocks;
      kept = h.kept;
      counted = h.counted;
      is_open = record {
        place = h.is_open.place;
        begin = h.is_open.begin;
        items = h.is_open.items ++ i ∷ [];
        items_stand = all_push HeaderItemStands h.is_open.items i h.is_open.items_stand v.values_are;
        targets_are = h.is_open.targets_are ∙ sym (append-nil (flat_map header_item_targets h.is_open.items))
            ∙ sym (flat_push header_item_targets h.is_open.items i);
        no_terms = h.is_open.no_terms;
        words_are = item_more s ws h i k vs (λ j. mark_is k forms.Keyword (codes "comment::") f t j ∷ v.words_are j);
      };
    }))

stands_behind : (earlier : List Target) (place : Place) (l : LineText) (n : ℕ)
    → list_any (λ e. clash e (line_meant place 0 l)) earlier ≡ false
    → n ≡ count_by (λ e. same_kind e.kind (line_meant place n l).kind) earlier + 1
    → StandsBehind earlier (line_meant place n l)
stands_behind earlier place l n c m = record {
  clashes_not = sym (clashes_same earlier place 0 n l) ∙ c;
  number_is = sym (number_same place n l) ∙ m;
}

abbrev count_of : List Target → Kind → ℕ
count_of earlier kind = count_by (λ (e : Target). same_kind e.kind kind) earlier + 1

target_reads : (s : PolicyState) (ws : List Token) (k : Token) (vs : List Token) → s.part ≡ InHeader → ReadsAt InHeader s ws
    → k.form ≡ forms.Keyword
    → k.text ≡ codes "target::" → IfOk (target_line k vs >>= λ n. behind_target s k n) (Reads (ws ++ k ∷ vs))
unfolding behind_target
target_reads s ws k vs p h f t =
    bind_ok (IsLine k.place vs) (Reads (ws ++ k ∷ vs)) (target_line k vs) (λ n. behind_target s k n) (line_read_is k vs)
    (λ n m. if_ok (Reads (ws ++ k ∷ vs)) (list_any (λ e. clash e n.target) s.earlier) _ _ (λ _. tt)
    (λ c. if_ok (Reads (ws ++ k ∷ vs)) (nat_le 64 (length s.earlier)) _ _ (λ _. tt)
    (λ room. subst (λ q. ReadsAt q (with_target s (with_number s.earlier n.target)) (ws ++ k ∷ vs)) (sym p) (taken n m c room))))
  where
    taken : (n : NamedTarget) → IsLine k.place vs n → list_any (λ e. clash e n.target) s.earlier ≡ false
        → nat_le 64 (length s.earlier) ≡ false
        → ReadsAt InHeader (with_target s (with_number s.earlier n.target)) (ws ++ k ∷ vs)
    taken n m c room =
        let l : LineText = m.line in
        let place : Place = k.place in
        let target_is : n.target ≡ line_meant place 0 l = ap (λ (x : NamedTarget). x.target) m.means in
        let number : ℕ = count_of s.earlier (line_meant place 0 l).kind in
        let t : TargetText = record { place = place; platform = m.platform; line = l; number = number } in
        let i : HeaderItem = HeaderItem.Line t in
        let kinds : (line_meant place 0 l).kind ≡ (line_meant place number l).kind =
        ap (λ (x : Target). x.kind) (renumbered place 0 number l) in
        let given : with_number s.earlier n.target ≡ target_meant t =
        ap (with_number s.earlier) target_is ∙ renumbered place 0 number l in
        let stands : StandsBehind s.earlier (target_meant t) =
        stands_behind s.earlier place l number (ap (λ x. list_any (λ e. clash e x) s.earlier) (sym target_is) ∙ c)
        (ap (count_of s.earlier) kinds) in
        record {
          blocks = h.blocks;
          kept = record {
            blocks_are = h.kept.blocks_are;
            blocks_stand = h.kept.blocks_stand;
            earlier_is =
                ap (λ xs. xs ++ with_number s.earlier n.target ∷ []) h.kept.earlier_is
                ∙ append_assoc (targets_of (blocks_meant h.blocks)) s.targets (with_number s.earlier n.target ∷ []);
            all_stand = each_push StandsBehind [] s.earlier (with_number s.earlier n.target) h.kept.all_stand
                (subst (StandsBehind s.earlier) (sym given) stands);
            few_targets = omega (
              arith,
              fewer (length s.earlier) room,
              length-append s.earlier
                  (with_number s.earlier n.target ∷ []),
            );
            few_terms = h.kept.few_terms;
          };
          counted = h.counted;
          is_open = record {
            place = h.is_open.place;
            begin = h.is_open.begin;
            items = h.is_open.items ++ i ∷ [];
            items_stand = all_push HeaderItemStands h.is_open.items i h.is_open.items_stand m.stands;
            targets_are =
                (λ j. h.is_open.targets_are j ++ given j ∷ [])
                ∙ sym (flat_push header_item_targets h.is_open.items i);
            no_terms = h.is_open.no_terms;
            words_are = item_more s ws h i k vs (λ j. mark_is k forms.Keyword (codes "target::") f t_text j ∷ m.words_are j);
          };
        }
      where
        t_text : k.text ≡ codes "target::"
        t_text = t

header_keyword_reads : (s : PolicyState) (ws : List Token) (k : Token) (vs : List Token) → s.part ≡ InHeader → ReadsAt InHeader s ws
    → k.form ≡ forms.Keyword
    → IfOk (behind_header_keyword s k vs) (Reads (ws ++ k ∷ vs))
unfolding behind_header_keyword
header_keyword_reads s ws k vs p h f = if_ok (Reads (ws ++ k ∷ vs)) (bytes_eq k.text (codes "comment::")) _ _
    (λ c. remark_reads s ws k vs p h f (bytes_are k.text (codes "comment::") c))
    (λ _. if_ok (Reads (ws ++ k ∷ vs)) (bytes_eq k.text (codes "target::")) _ _
    (λ c. target_reads s ws k vs p h f (bytes_are k.text (codes "target::") c)) (λ _. tt))

-- A keyword of a term.
record ItemRead (name : Word) (items : List Item) (k : Token) (vs : List Token) (d : TermDraft) : Type 0 where
  pub item : Item
  pub stands : ItemStands items item
  pub words_are : k ∷ vs ≡ item_words item
  pub draft_is : d ≡ draft_from name (values_at (items ++ item ∷ []))

item_of : (name : Word) (items : List Item) (k : Token) (vs : List Token) → DayFits (values_at items) → k.form ≡ forms.Keyword
    → IfOk (draft_behind (draft_from name (values_at items)) k vs) (ItemRead name items k vs)
item_of name items k vs days f = by_key (draft_behind d k vs) refl (keyword_known d k vs)
  where
    d : TermDraft
    d = draft_from name (values_at items)

    keyed : (key : Keyword) → k.text ≡ (entry key).text → IfOk (draft_behind d k vs) (ItemRead name items k vs)
    keyed key e = subst (λ r. IfOk r (ItemRead name items k vs)) (sym (item_reads name (values_at items) k key vs days e))
        (bind_ok (λ _. AreValues key (values_at items) vs) (ItemRead name items k vs) (checked key (values_at items) k vs) _
        (checked_taken key (values_at items) k vs)
        (λ _ v. let i : Item = record { place = k.place; key = key; first = v.first; more = v.more } in record {
          item = i;
          stands = record { values_are = v.values_are; one_value = v.one_value; first_time = v.first_time };
          words_are = λ j. mark_is k forms.Keyword (entry key).text f e j ∷ v.words_are j;
          draft_is =
              ap (λ ws. draft_from name (pushed (values_at items) key (map word_of ws))) v.words_are
              ∙ ap (draft_from name) (values_push items i);
        }))

    by_key : (r : Result TermDraft Slip) → draft_behind d k vs ≡ r → IfOk r (λ _. (key : Keyword) × (k.text ≡ (entry key).text))
        → IfOk (draft_behind d k vs) (ItemRead name items k vs)
    by_key (Ok x) e h = keyed h.0 h.1
    by_key (Err x) e h = subst (λ r. IfOk r (ItemRead name items k vs)) (sym e) tt

item_reads_on : (s : PolicyState) (ws : List Token) (k : Token) (vs : List Token) → s.part ≡ InTerm → ReadsAt InTerm s ws
    → k.form ≡ forms.Keyword
    → IfOk (draft_behind s.draft k vs >>= λ d. Ok (record s { draft = d })) (Reads (ws ++ k ∷ vs))
item_reads_on s ws k vs p h f =
    bind_ok (ItemRead h.is_open.name h.is_open.items k vs) (Reads (ws ++ k ∷ vs)) (draft_behind s.draft k vs)
    (λ d. Ok (record s { draft = d }))
    (subst (λ d. IfOk (draft_behind d k vs) (ItemRead h.is_open.name h.is_open.items k vs)) (sym h.is_open.draft_is)
    (item_of h.is_open.name h.is_open.items k vs h.is_open.days_fit f))
    (λ d r. subst (λ q. ReadsAt q (record s { draft = d }) (ws ++ k ∷ vs)) (sym p) (taken d r))
  where
    taken : (d : TermDraft) → ItemRead h.is_open.name h.is_open.items k vs d → ReadsAt InTerm (record s { draft = d }) (ws ++ k ∷ vs)
    taken d r =
        let o : AtItems s h.blocks ws = h.is_open in
        let front : List Token = plain o.place (codes "term") ∷ plain o.name.place o.name.text ∷ word o.begin forms.Begin
        (codes "{") ∷ [] in
        let outer : List Token = text_words h.blocks ++ block_words o.block in
        record {
          blocks = h.blocks;
          kept = same_kept s (record s { draft = d }) h.blocks refl refl refl refl h.kept;
          counted = h.counted;
          is_open = record {
            block = o.block;
            place = o.place;
            name = o.name;
            begin = o.begin;
            items = o.items ++ r.item ∷ [];
            is_open = same_block s (record s { draft = d }) o.block refl refl o.is_open;
            name_is = o.name_is;
            name_is_new = o.name_is_new;
            items_stand = each_push ItemStands [] o.items r.item o.items_stand r.stands;
            days_fit = day_fits o.items r.item r.stands o.days_fit;
            draft_is = r.draft_is;
            words_are =
                (λ j. o.words_are j ++ r.words_are j)
                ∙ append_assoc outer (front ++ items_words o.items) (item_words r.item)
                ∙ ap (λ xs. outer ++ xs) (sym (flat_step item_words o.items r.item front));
          };
        }

keyword_reads : (p : Part) (s : PolicyState) (ws : List Token) (k : Token) (vs : List Token) → s.part ≡ p → ReadsAt p s ws
    → k.form ≡ forms.Keyword
    → IfOk (behind_keyword p s k vs) (Reads (ws ++ k ∷ vs))
unfolding behind_keyword
keyword_reads InHeader s ws k vs e h f = header_keyword_reads s ws k vs e h f
keyword_reads InTerm s ws k vs e h f = item_reads_on s ws k vs e h f
keyword_reads _ s ws k vs e h f = tt

-- Braces.
begin_reads : (p : Part) (s : PolicyState) (ws : List Token) (m : Token) → ReadsAt p s ws → m ≡ word m.place forms.Begin (codes "{")
    → IfOk (behind_begin p s m) (Reads (ws ++ m ∷ []))
unfolding behind_begin
begin_reads Header s ws m h e = record {
  blocks = h.blocks;
  kept = same_kept s (record s { part = InHeader }) h.blocks refl refl refl refl h.kept;
  counted = h.counted;
  is_open = record {
    place = h.is_open.place;
    begin = m.place;
    items = [];
    items_stand = tt;
    targets_are = h.is_open.no_targets;
    no_terms = h.is_open.no_terms;
    words_are =
        (λ i. h.is_open.words_are i ++ e i ∷ [])
        ∙ append_assoc (text_words h.blocks) (plain h.is_open.place (codes "header") ∷ [])
        (word m.place forms.Begin (codes "{") ∷ []);
  };
}
begin_reads Named s ws m h e = record {
  blocks = h.blocks;
  kept = same_kept s (record s { part = InTerm }) h.blocks refl refl refl refl h.kept;
  counted = h.counted;
  is_open = record {
    block = h.is_open.block;
    place = h.is_open.place;
    name = h.is_open.name;
    begin = m.place;
    items = [];
    is_open = same_block s (record s { part = InTerm }) h.is_open.block refl refl h.is_open.is_open;
    name_is = h.is_open.name_is;
    name_is_new = h.is_open.name_is_new;
    items_stand = tt;
    days_fit = refl;
    draft_is = h.is_open.draft_is;
    words_are =
        (λ i. h.is_open.words_are i ++ e i ∷ [])
        ∙ append_assoc (text_words h.blocks ++ block_words h.is_open.block)
        (plain h.is_open.place (codes "term") ∷ plain h.is_open.name.place h.is_open.name.text ∷ [])
        (word m.place forms.Begin (codes "{") ∷ []);
  };
}
begin_reads _ s ws m h e = tt

some_is : (n : ℕ) → (n == 0) ≡ false → 0 < n
some_is n h = grind (arith, nat_tests)

header_closes : (s : PolicyState) (ws : List Token) (m : Token) → ReadsAt InHeader s ws → m ≡ word m.place forms.End (codes "}")
    → (length s.targets == 0) ≡ false
    → Reads (ws ++ m ∷ []) (record s { part = HeaderEnd })
header_closes s ws m h e c =
    let o : AtHeaderItems s h.blocks ws = h.is_open in
    let items : List Token = flat_map header_item_words o.items in
    let end : List Token = word m.place forms.End (codes "}") ∷ [] in
    let front : List Token = plain o.place (codes "header") ∷ word o.begin forms.Begin (codes "{") ∷ [] in
    record {
      blocks = h.blocks;
      kept = same_kept s (record s { part = HeaderEnd }) h.blocks refl refl refl refl h.kept;
      counted = h.counted;
      is_open = record {
        block = record { place = o.place; begin = o.begin; items = o.items; end = m.place; terms = [] };
        is_open = record {
          items_stand = o.items_stand;
          targets_are = o.targets_are;
          some_target = some_is (length s.targets) c;
          terms_are = o.no_terms;
          terms_stand = tt;
          names_differ = tt;
        };
        words_are =
            (λ i. o.words_are i ++ e i ∷ [])
            ∙ append_assoc (text_words h.blocks) (front ++ items) end
            ∙ ap (λ xs. text_words h.blocks ++ xs) (sym (append-nil (front ++ (items ++ end))));
      };
    }

term_closes : (s : PolicyState) (ws : List Token) (m : Token) → ReadsAt InTerm s ws → m ≡ word m.place forms.End (codes "}")
    → s.draft.has_action ≡ true
    → Reads (ws ++ m ∷ []) (record s { terms = s.terms ++ s.draft.term ∷ []; draft = no_draft; part = TermEnd })
term_closes s ws m h e acted =
    let o : AtItems s h.blocks ws = h.is_open in
    let b : BlockText = o.block in
    let t : TermText = record { place = o.place; name = o.name; begin = o.begin; items = o.items; end = m.place } in
    let end : List Token = word m.place forms.End (codes "}") ∷ [] in
    let front : List Token = plain o.place (codes "term") ∷ plain o.name.place o.name.text ∷ word o.begin forms.Begin
    (codes "{") ∷ [] in
    let outer : List Token = text_words h.blocks ++ block_words b in
    let next : PolicyState = record s { terms = s.terms ++ s.draft.term ∷ []; draft = no_draft; part = TermEnd } in
    let term_is : s.draft.term ≡ term_meant t = ap (λ (d : TermDraft). d.term) o.draft_is in
    let more : map term_meant (b.terms ++ t ∷ []) ≡ map term_meant b.terms ++ term_meant t ∷ [] = map_push term_meant b.terms t in
    let new : NameIsNew (map term_meant b.terms) (term_meant t) =
    subst (λ xs. NameIsNew xs (term_meant t)) o.is_open.terms_are o.name_is_new in
    record {
      blocks = h.blocks;
      kept = same_kept s next h.blocks refl refl refl refl h.kept;
      counted = omega (arith, h.counted, length-append s.terms (s.draft.term ∷ []));
      is_open = record {
        block = record b { terms = b.terms ++ t ∷ [] };
        is_open = record {
          items_stand = o.is_open.items_stand;
          targets_are = o.is_open.targets_are;
          some_target = o.is_open.some_target;
          terms_are = (λ i. o.is_open.terms_are i ++ term_is i ∷ []) ∙ sym more;
          terms_stand = all_push TermStands b.terms t o.is_open.terms_stand (record {
            name_is = o.name_is;
            items_stand = o.items_stand;
            has_action = ap (λ (d : TermDraft). d.has_action) (sym o.draft_is) ∙ acted;
          });
          names_differ = subst (Each NameIsNew []) (sym more)
              (each_push NameIsNew [] (map term_meant b.terms) (term_meant t) o.is_open.names_differ new);
        };
        some_term = omega (arith, length-append b.terms (t ∷ []));
        words_are =
            (λ i. o.words_are i ++ e i ∷ [])
            ∙ append_assoc outer (front ++ items_words o.items) end
            ∙ append_assoc (text_words h.blocks) (block_words b) (term_words t)
            ∙ ap (λ xs. text_words h.blocks ++ xs) (sym (flat_step term_words b.terms t (header_words b)));
      };
    }

end_reads : (p : Part) (s : PolicyState) (ws : List Token) (m : Token) → ReadsAt p s ws → m ≡ word m.place forms.End (codes "}")
    → IfOk (behind_end p s m) (Reads (ws ++ m ∷ []))
unfolding behind_end
end_reads InHeader s ws m h e = if_ok (Reads (ws ++ m ∷ [])) (length s.targets == 0) _ _ (λ _. tt) (λ c. header_closes s ws m h e c)
end_reads InTerm s ws m h e = if_ok (Reads (ws ++ m ∷ [])) s.draft.has_action _ _ (λ c. term_closes s ws m h e c) (λ _. tt)
end_reads _ s ws m h e = tt

-- A keyword or a brace, and the words behind it.
brace_reads : (ws : List Token) (m : Token) (vs : List Token) (r : Result PolicyState Slip) → IfOk r (Reads (ws ++ m ∷ []))
    → IfOk (r >>= λ t. behind_words t vs) (Reads (ws ++ m ∷ vs))
brace_reads ws m vs r h = bind_ok (Reads (ws ++ m ∷ [])) (Reads (ws ++ m ∷ vs)) r (λ t. behind_words t vs) h
    (λ t g. subst (λ xs. IfOk (behind_words t vs) (Reads xs)) (append_assoc ws (m ∷ []) vs) (words_read t (ws ++ m ∷ []) vs g))

mark_reads : (f : Form) (s : PolicyState) (ws : List Token) (m : Token) (vs : List Token) → Reads ws s → m.form ≡ f → is_mark f ≡ true
    → IsBraceText m
    → IfOk (behind_mark f s m vs) (Reads (ws ++ m ∷ vs))
unfolding behind_mark
mark_reads forms.Keyword s ws m vs h e k b = keyword_reads s.part s ws m vs refl h e
mark_reads forms.Begin s ws m vs h e k b =
    brace_reads ws m vs (behind_begin s.part s m)
    (begin_reads s.part s ws m h (mark_is m forms.Begin (codes "{") e (b.begin_is e)))
mark_reads forms.End s ws m vs h e k b =
    brace_reads ws m vs (behind_end s.part s m) (end_reads s.part s ws m h (mark_is m forms.End (codes "}") e (b.end_is e)))
mark_reads _ s ws m vs h e k b = cc

-- The words from the first keyword or brace on.
abbrev from_mark : List Token → List Token
from_mark [] = []
from_mark (w ∷ ws) = if is_mark w.form then w ∷ ws else from_mark ws

cut_words : (ws : List Token) → values_of ws ++ from_mark ws ≡ ws
cut_words [] = refl
cut_words (w ∷ ws) = by_mark (is_mark w.form) (cut_words ws)
  where
    by_mark : (b : Bool) → values_of ws ++ from_mark ws ≡ ws
        → (if b then [] else w ∷ values_of ws) ++ (if b then w ∷ ws else from_mark ws) ≡ w ∷ ws
    by_mark true e = refl
    by_mark false e = ap (λ xs. w ∷ xs) e

marks_read : (s : PolicyState) (before ws : List Token) → Reads before s → AllByRecursion IsBraceText ws
    → IfOk (behind_marks s ws) (Reads (before ++ from_mark ws))
marks_read s before [] h b = subst (λ xs. Reads xs s) (sym (append-nil before)) h
marks_read s before (w ∷ ws) h b = by_mark (is_mark w.form) refl (λ t ts g. marks_read t ts ws g b.1)
  where
    by_mark : (c : Bool) → is_mark w.form ≡ c
        → ((t : PolicyState) (ts : List Token) → Reads ts t → IfOk (behind_marks t ws) (Reads (ts ++ from_mark ws)))
        → IfOk (if c then (behind_mark w.form s w (values_of ws) >>= λ t. behind_marks t ws) else behind_marks s ws)
        (Reads (before ++ (if c then w ∷ ws else from_mark ws)))
    by_mark true e go = bind_ok (Reads (before ++ w ∷ values_of ws)) (Reads (before ++ w ∷ ws))
        (behind_mark w.form s w (values_of ws)) (λ t. behind_marks t ws)
        (mark_reads w.form s before w (values_of ws) h refl e b.0)
        (λ t g. subst (λ xs. IfOk (behind_marks t ws) (Reads xs))
        (append_assoc before (w ∷ values_of ws) (from_mark ws) ∙ ap (λ xs. before ++ w ∷ xs) (cut_words ws))
        (go t (before ++ w ∷ values_of ws) g))
    by_mark false e go = go s before h

all_read_words : (ws : List Token) → AllByRecursion IsBraceText ws → IfOk (behind_all ws) (Reads ws)
all_read_words ws b = bind_ok (Reads (values_of ws)) (Reads ws) (behind_words start (values_of ws)) (λ s. behind_marks s ws)
    (words_read start [] (values_of ws) start_reads)
    (λ s g. subst (λ xs. IfOk (behind_marks s ws) (Reads xs)) (cut_words ws) (marks_read s (values_of ws) ws g b))

ended_text : (s : PolicyState) (ws : List Token) → ReadsAt TermEnd s ws → HasText ws (record { blocks = (with_block s).blocks })
ended_text s ws h =
    let o : AtTermEnd s h.blocks ws = h.is_open in
    let k : BlocksKept (record (with_block s) { part = Header }) (h.blocks ++ o.block ∷ []) =
    block_kept s h.blocks o.block h.kept o.is_open o.some_term in
    let text : List BlockText = h.blocks ++ o.block ∷ [] in
    let all : s.earlier ≡ targets_of (blocks_meant text) = k.earlier_is ∙ append-nil (targets_of (blocks_meant text)) in
    record {
      text = text;
      stands = record {
        some_block = omega (arith, length-append h.blocks (o.block ∷ []));
        blocks_stand = k.blocks_stand;
        targets_stand = subst (Each StandsBehind []) all h.kept.all_stand;
        few_targets = subst (λ (xs : List Target). length xs ≤ 64) all h.kept.few_targets;
        few_terms = omega (
          arith,
          h.counted,
          h.kept.few_terms,
          terms_more h.blocks o.block,
          ap (λ (xs : List RawTerm). length xs) o.is_open.terms_are,
          length-map o.block.terms term_meant,
        );
      };
      words_are = o.words_are ∙ sym (words_more h.blocks o.block);
      means = ap (λ xs. record { blocks = xs }) (ended_blocks s h.blocks o.block h.kept o.is_open);
    }

end_has_text : (p : Part) (s : PolicyState) (ws : List Token) (place : Place) → ReadsAt p s ws → IfOk (end_of p s place) (HasText ws)
unfolding end_of
end_has_text TermEnd s ws place h = ended_text s ws h
end_has_text _ s ws place h = tt

pub read_has_text : (ws : List Token) → AllByRecursion IsBraceText ws → IfOk (policy_of ws) (HasText ws)
unfolding policy_of
read_has_text ws b = bind_ok (Reads ws) (HasText ws) (behind_all ws) (λ s. end_of s.part s (last_place start_place ws))
    (all_read_words ws b)
    (λ s g. end_has_text s.part s ws (last_place start_place ws) g)
