-- The words of a text that stands can be printed, but for comments and owners, so that the text has lines.
use Rattle.std.proofs.Common.{◌≡◌, ℕ, true, false, List, [], ◌∷◌, ◌++◌, map, flat_map, Option, None, Some, Ok, refl, ap, sym, ◌∙◌, codes}
use Rattle.std.specs.List.{AllByRecursion, list_all}
use Rattle.acl_packet.specs.declared.addresses.Families.{Families}
use Rattle.acl_packet.specs.declared.addresses.Families.TheVariants.{Inet, Inet6, Mixed}
use Rattle.acl_packet.specs.declared.filtering.Hook.{Hook}
use Rattle.acl_packet.specs.declared.filtering.Hook.TheVariants as hooks
use Rattle.acl_text.specs.declared.faults.Place.{Place}
use Rattle.acl_text.specs.declared.file_lines.Line.{Line}
use Rattle.acl_words.specs.declared.forms.Form.TheVariants as forms
use Rattle.acl_words.specs.Tokens.{Token}
use Rattle.acl_target.specs.declared.targets.Kind.{Kind}
use Rattle.acl_target.specs.declared.targets.Kind.TheVariants.{Cisco, Juniper, Iptables, Nftables}
use Rattle.acl_target.specs.declared.targets.Target.{Target}
use Rattle.acl_target.specs.TargetData.{chain_text, hook_text}
use Rattle.acl_target.specs.TargetTexts.{families_text}
use Rattle.acl_policy.specs.declared.keywords.Keyword.{Keyword}
use Rattle.acl_policy.specs.declared.keywords.Keyword.TheVariants as keywords
use Rattle.acl_policy.specs.declared.values.Takes.{Takes}
use Rattle.acl_policy.specs.declared.blocks.Block.{Block}
use Rattle.acl_policy.specs.RawTerms.{RawTerm}
use Rattle.acl_words.specs.declared.word_lists.Word.{Word}
use Rattle.acl_policy.specs.Conditions.{Each, terms_of}
use Rattle.acl_policy.specs.Keywords.{all_keywords, entry}
use Rattle.acl_policy.specs.Policies.{policy_of}
use Rattle.acl_policy.specs.Values.{is_value, form_fits}
use Rattle.policy_grammar.specs.TargetTexts.{Choice, choice_text, SaysNew, IsIptablesWord, IsNftablesWord, LineText, family_words, choice_words, line_values, LineStands}
use Rattle.policy_grammar.specs.TermTexts.{Item, item_values, item_words, ItemStands, TermText, items_words, term_words, TermStands}
use Rattle.policy_grammar.specs.PolicyTexts.{HeaderItem, header_item_words, HeaderItemStands, BlockText, header_words, block_words, BlockStands, text_words, TextStands}
use Rattle.policy_grammar.specs.PrintedWords.{IsPlainText, IsQuotedText, PrintedLine, printed_line, LineIsPrinted, printed_words}
use Rattle.policy_grammar.specs.WrittenTexts.{CanBePrinted, FreeWordsCanBePrinted, ItemIsWritable, TermIsWritable, HeaderItemIsWritable, BlockIsWritable, HasLines, WritableTextsHaveLines, FittingPoliciesAreReadFromLines}
use Rattle.policy_grammar.proofs.Outcomes.{and_left, and_right}
use Rattle.policy_grammar.proofs.FeedLaws.{split_free, split_lines, split_words_are}
use Rattle.policy_grammar.proofs.PrintingLaws.{printed_read}
use Rattle.policy_grammar.proofs.BlockLaws.{text_read}
use Rattle.policy_grammar.proofs.WrittenWords.{name_plain, filter_name_plain, signed_plain, literal, keyword_literal, value_printed, keyword_printed}
use Rattle.policy_grammar.proofs.FittingTerms.{token_for, item_with, items_with, comment_entry, entries, term_for}
use Rattle.policy_grammar.proofs.FittingPolicies.{item_for, block_for, text_stands, text_means}

can_on : (xs ys : List Token) → CanBePrinted xs → CanBePrinted ys → CanBePrinted (xs ++ ys)
can_on [] ys h k = k
can_on (x ∷ xs) ys h k = (h.0, can_on xs ys h.1 k)

-- Target lines.
family_plain : (kind : Kind) (f : Families) → IsPlainText (families_text kind f)
family_plain Cisco Inet = literal (codes "extended") refl
family_plain Juniper Inet = literal (codes "inet") refl
family_plain Iptables Inet = literal (codes "inet") refl
family_plain Nftables Inet = literal (codes "inet") refl
family_plain kind Inet6 = literal (codes "inet6") refl
family_plain kind Mixed = literal (codes "mixed") refl

family_printed : (kind : Kind) (o : Option (Place × Families)) → CanBePrinted (family_words kind o)
family_printed kind None = tt
family_printed kind (Some f) = (family_plain kind f.1, tt)

chain_plain : (chain : Hook) → IsPlainText (chain_text chain)
chain_plain hooks.Input = literal (codes "INPUT") refl
chain_plain hooks.Output = literal (codes "OUTPUT") refl
chain_plain hooks.Forward = literal (codes "FORWARD") refl

hook_plain : (hook : Hook) → IsPlainText (hook_text hook)
hook_plain hooks.Input = literal (codes "input") refl
hook_plain hooks.Output = literal (codes "output") refl
hook_plain hooks.Forward = literal (codes "forward") refl

iptables_plain : (c : Choice) → IsIptablesWord c → IsPlainText (choice_text c)
iptables_plain Choice.AcceptWord h = literal (codes "ACCEPT") refl
iptables_plain Choice.DropWord h = literal (codes "DROP") refl
iptables_plain Choice.NostateWord h = literal (codes "nostate") refl
iptables_plain Choice.NoverboseWord h = absurd h
iptables_plain Choice.InetWord h = literal (codes "inet") refl
iptables_plain Choice.Inet6Word h = literal (codes "inet6") refl
iptables_plain (Choice.PriorityWord text z) h = absurd h

nftables_plain : (c : Choice) → IsNftablesWord c → IsPlainText (choice_text c)
nftables_plain Choice.AcceptWord h = literal (codes "ACCEPT") refl
nftables_plain Choice.DropWord h = literal (codes "DROP") refl
nftables_plain Choice.NostateWord h = absurd h
nftables_plain Choice.NoverboseWord h = literal (codes "noverbose") refl
nftables_plain Choice.InetWord h = absurd h
nftables_plain Choice.Inet6Word h = absurd h
nftables_plain (Choice.PriorityWord text z) h = signed_plain text z h

choices_printed : (IsTaken : Choice → Type 0) → ((c : Choice) → IsTaken c → IsPlainText (choice_text c))
    → (before : List Choice) (cs : List (Place × Choice))
    → Each (λ b c. IsTaken c × SaysNew b c) before (map (λ c. c.1) cs) → CanBePrinted (choice_words cs)
choices_printed IsTaken plain before [] h = tt
choices_printed IsTaken plain before (c ∷ cs) h = (plain c.1 h.0.0, choices_printed IsTaken plain (before ++ c.1 ∷ []) cs h.1)

line_printed : (platform : Place) (l : LineText) → LineStands l → CanBePrinted (line_values platform l)
line_printed platform (LineText.CiscoLine name family) h =
    (literal (codes "cisco") refl, (filter_name_plain name.text h, family_printed Cisco family))
line_printed platform (LineText.JuniperLine name family) h =
    (literal (codes "juniper") refl, (filter_name_plain name.text h.0, family_printed Juniper family))
line_printed platform (LineText.IptablesLine place chain cs) h =
    (literal (codes "iptables") refl, (chain_plain chain, choices_printed IsIptablesWord iptables_plain [] cs h))
line_printed platform (LineText.NftablesLine from families place hook cs) h = (
  literal (codes "nftables") refl,
  (family_plain Nftables families, (hook_plain hook, choices_printed IsNftablesWord nftables_plain [] cs h)),
)

-- Items of terms.
others_printed : (kind : Takes) (ws : List Token) → form_fits kind forms.Quoted ≡ false → list_all (is_value kind) ws ≡ true
    → CanBePrinted ws
others_printed kind [] e h = tt
others_printed kind (w ∷ ws) e h = (
  value_printed kind w e (and_left (is_value kind w) (list_all (is_value kind) ws) h),
  others_printed kind ws e
      (and_right (is_value kind w) (list_all (is_value kind) ws) h),
)

values_printed : (key : Keyword) (ws : List Token) → list_all (is_value (entry key).takes) ws ≡ true → FreeWordsCanBePrinted key ws
    → CanBePrinted ws
values_printed keywords.Comment ws h f = f
values_printed keywords.Owner ws h f = f
values_printed key ws h f = others_printed (entry key).takes ws refl h

items_printed : (before items : List Item) → Each ItemStands before items → AllByRecursion ItemIsWritable items
    → CanBePrinted (items_words items)
items_printed before [] h w = tt
items_printed before (i ∷ is) h w =
    can_on (item_words i) (items_words is) (keyword_printed i.key, values_printed i.key (item_values i) h.0.values_are w.0)
    (items_printed (before ++ i ∷ []) is h.1 w.1)

term_printed : (t : TermText) → TermStands t → TermIsWritable t → CanBePrinted (term_words t)
term_printed t h w = (
  literal (codes "term") refl,
  (
    name_plain t.name.text h.name_is,
    (refl, can_on (items_words t.items) _ (items_printed [] t.items h.items_stand w) (refl, tt)),
  ),
)

terms_printed : (ts : List TermText) → AllByRecursion TermStands ts → AllByRecursion TermIsWritable ts
    → CanBePrinted (flat_map term_words ts)
terms_printed [] h w = tt
terms_printed (t ∷ ts) h w = can_on (term_words t) (flat_map term_words ts) (term_printed t h.0 w.0) (terms_printed ts h.1 w.1)

-- Headers, blocks and texts.
header_item_printed : (i : HeaderItem) → HeaderItemStands i → HeaderItemIsWritable i → CanBePrinted (header_item_words i)
header_item_printed (HeaderItem.Remark place first more) h w = (keyword_literal (codes "comment") refl refl, w)
header_item_printed (HeaderItem.Line t) h w = (keyword_literal (codes "target") refl refl, line_printed t.platform t.line h)

header_items_printed : (is : List HeaderItem) → AllByRecursion HeaderItemStands is → AllByRecursion HeaderItemIsWritable is
    → CanBePrinted (flat_map header_item_words is)
header_items_printed [] h w = tt
header_items_printed (i ∷ is) h w =
    can_on (header_item_words i) (flat_map header_item_words is) (header_item_printed i h.0 w.0) (header_items_printed is h.1 w.1)

block_printed : (b : BlockText) → BlockStands b → BlockIsWritable b → CanBePrinted (block_words b)
block_printed b h w = can_on (header_words b) (flat_map term_words b.terms) (
  literal (codes "header") refl,
  (refl, can_on (flat_map header_item_words b.items) _ (header_items_printed b.items h.items_stand w.items_are) (refl, tt)),
)
    (terms_printed b.terms h.terms_stand w.terms_are)

text_printed : (bs : List BlockText) → AllByRecursion BlockStands bs → AllByRecursion BlockIsWritable bs
    → CanBePrinted (text_words bs)
text_printed [] h w = tt
text_printed (b ∷ bs) h w = can_on (block_words b) (text_words bs) (block_printed b h.0 w.0) (text_printed bs h.1 w.1)

-- A line for each word.
lines_for : List Token → List PrintedLine
lines_for ws = map (λ w. record { place = w.place; words = record { gap = []; word = w } ∷ [] }) ws

lines_printed : (ws : List Token) → CanBePrinted ws → AllByRecursion LineIsPrinted (lines_for ws)
unfolding lines_for
lines_printed [] h = tt
lines_printed (w ∷ ws) h = (
  (record { is_printable = record { place_is = refl; text_is = h.0 }; gap_is = refl; some_gap = λ n. n }, tt),
  lines_printed ws h.1,
)

lines_words : (ws : List Token) → printed_words (lines_for ws) ≡ ws
unfolding lines_for
lines_words [] = refl
lines_words (w ∷ ws) = ap (λ xs. w ∷ xs) (lines_words ws)

pub texts_have_lines : WritableTextsHaveLines
texts_have_lines text h w =
    let printed : List PrintedLine = lines_for (text_words text) in
    let lines : List Line = map printed_line printed in
    record {
      lines = split_lines lines;
      are_lines = split_free lines;
      words_are = split_words_are lines
          ∙ printed_read printed (lines_printed (text_words text) (text_printed text h.blocks_stand w))
          ∙ lines_words (text_words text);
    }

-- The text of a policy whose comments have no quote.
comment_writable : (place : Place) (text : List ℕ) → IsQuotedText text
    → CanBePrinted (map (token_for (entry keywords.Comment).takes) (comment_entry place text))
comment_writable place [] h = tt
comment_writable place (b ∷ bs) h = (h, tt)

entry_writable : (t : RawTerm) → IsQuotedText t.comments → (key : Keyword)
    → FreeWordsCanBePrinted key (map (token_for (entry key).takes) (entries t key))
entry_writable t h keywords.Comment = comment_writable t.name.place t.comments h
entry_writable t h keywords.Owner = tt
entry_writable t h _ = tt

items_writable : (at : Keyword → List Word) (keys : List Keyword)
    → ((key : Keyword) → FreeWordsCanBePrinted key (map (token_for (entry key).takes) (at key)))
    → AllByRecursion ItemIsWritable (items_with at keys)
items_writable at [] h = tt
items_writable at (key ∷ keys) h = by_words (at key) (h key) (items_writable at keys h)
  where
    by_words : (ws : List Word) → FreeWordsCanBePrinted key (map (token_for (entry key).takes) ws)
        → AllByRecursion ItemIsWritable (items_with at keys)
        → AllByRecursion ItemIsWritable (item_with key ws ++ items_with at keys)
    by_words [] f go = go
    by_words (w ∷ ws) f go = (f, go)

terms_writable : (ts : List RawTerm) → AllByRecursion (λ (t : RawTerm). IsQuotedText t.comments) ts
    → AllByRecursion TermIsWritable (map term_for ts)
terms_writable [] h = tt
terms_writable (t ∷ ts) h = (items_writable (entries t) all_keywords (entry_writable t h.0), terms_writable ts h.1)

targets_writable : (ts : List Target) → AllByRecursion HeaderItemIsWritable (map item_for ts)
targets_writable [] = tt
targets_writable (t ∷ ts) = (tt, targets_writable ts)

all_front : {A : Type 0} (P : A → Type 0) (xs ys : List A) → AllByRecursion P (xs ++ ys) → AllByRecursion P xs
all_front P [] ys h = tt
all_front P (x ∷ xs) ys h = (h.0, all_front P xs ys h.1)

all_behind : {A : Type 0} (P : A → Type 0) (xs ys : List A) → AllByRecursion P (xs ++ ys) → AllByRecursion P ys
all_behind P [] ys h = h
all_behind P (x ∷ xs) ys h = all_behind P xs ys h.1

blocks_writable : (bs : List Block) → AllByRecursion (λ (t : RawTerm). IsQuotedText t.comments) (terms_of bs)
    → AllByRecursion BlockIsWritable (map block_for bs)
blocks_writable [] h = tt
blocks_writable (b ∷ bs) h = (
  record {
    items_are = targets_writable b.targets;
    terms_are = terms_writable b.terms (all_front (λ (t : RawTerm). IsQuotedText t.comments) b.terms (terms_of bs) h);
  },
  blocks_writable bs (all_behind (λ (t : RawTerm). IsQuotedText t.comments) b.terms (terms_of bs) h),
)

pub fitting_read_from_lines : FittingPoliciesAreReadFromLines
fitting_read_from_lines p some h quotes =
    let text : List BlockText = map block_for p.blocks in
    let stands : TextStands text = text_stands p some h in
    let l : HasLines text = texts_have_lines text stands (blocks_writable p.blocks quotes) in
    record {
      lines = l.lines;
      are_lines = l.are_lines;
      is_read = ap policy_of l.words_are ∙ text_read text stands ∙ ap Ok (sym (text_means p h));
    }
