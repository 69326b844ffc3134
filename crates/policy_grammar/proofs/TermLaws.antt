-- Terms: the words of a term that stands are read as what it means.
use Rattle.std.proofs.Common.{◌≡◌, ℕ, ◌+◌, ◌<◌, ◌≤◌, Bool, true, false, not, ◌||◌, nat_le, if◌then◌else◌, List, [], ◌∷◌, ◌++◌, map, flat_map, length, is_some, Ok, refl, ap, sym, subst, ◌∙◌, append_assoc, append-nil, codes, arith}
use Rattle.std.specs.List.{AllByRecursion, list_all, list_any}
use Rattle.std.specs.Str.{bytes_eq}
use Rattle.std.proofs.lemmas.Bool.Decides.{nat_tests}
use Rattle.std.proofs.lemmas.Grind.{flat_map-append}
use Rattle.acl_text.specs.declared.faults.Place.{Place}
use Rattle.acl_text.specs.Names.{is_name}
use Rattle.acl_text.specs.Steps.{◌>>=◌}
use Rattle.acl_words.specs.declared.forms.Form.{Form}
use Rattle.acl_words.specs.declared.forms.Form.TheVariants as forms
use Rattle.acl_words.specs.Tokens.{Token}
use Rattle.acl_words.specs.Words.{word}
use Rattle.acl_host.specs.NamedDays.{day_named}
use Rattle.acl_policy.specs.declared.keywords.Keyword.{Keyword}
use Rattle.acl_policy.specs.declared.keywords.Keyword.TheVariants as keywords
use Rattle.acl_policy.specs.RawTerms.{RawTerm}
use Rattle.acl_words.specs.declared.word_lists.Word.{Word}
use Rattle.acl_policy.specs.ReadingParts.{Term, Named, InTerm, TermEnd}
use Rattle.acl_policy.specs.ReadingParts.{PolicyState}
use Rattle.acl_policy.specs.ReadingParts.{TermDraft}
use Rattle.acl_policy.specs.declared.values.Takes.{Takes}
use Rattle.acl_policy.specs.declared.values.Takes.TheVariants as takes
use Rattle.acl_policy.specs.Conditions.{Each, NameIsNew}
use Rattle.acl_policy.specs.Keywords.{entry}
use Rattle.acl_policy.specs.Policies.{behind_word, behind_name, behind_keyword, behind_begin, behind_end, is_mark, values_of, with_term}
use Rattle.acl_policy.specs.Terms.{no_draft, draft_of, draft_behind}
use Rattle.acl_policy.specs.Values.{is_plain, is_quoted, is_value, word_of, form_fits, text_fits}
use Rattle.policy_grammar.specs.TargetTexts.{plain}
use Rattle.policy_grammar.specs.TermTexts.{same_keyword, Item, item_values, item_words, values_at, some_word, day_meant, ItemStands, TermText, items_words, term_words, term_meant, TermStands}
use Rattle.policy_grammar.proofs.Outcomes.{and_left, and_right, and_both, is_not, if_true, if_false}
use Rattle.policy_grammar.proofs.Units.{walk, no_marks, walk_word, walk_begin, walk_end, walk_keyword}
use Rattle.policy_grammar.proofs.ItemLaws.{draft_from, pushed, DayFits, item_reads, item_stands}

-- A value is no keyword and no brace.
plain_unmarked : (f : Form) → is_plain f ≡ true → is_mark f ≡ false
plain_unmarked forms.Plain h = refl
plain_unmarked _ h = cc

quoted_unmarked : (f : Form) → is_quoted f ≡ true → is_mark f ≡ false
quoted_unmarked forms.Quoted h = refl
quoted_unmarked _ h = cc

any_unmarked : (f : Form) → (is_plain f || is_quoted f) ≡ true → is_mark f ≡ false
any_unmarked forms.Plain h = refl
any_unmarked forms.Quoted h = refl
any_unmarked _ h = cc

form_unmarked : (kind : Takes) (f : Form) → form_fits kind f ≡ true → is_mark f ≡ false
form_unmarked takes.String f h = quoted_unmarked f h
form_unmarked takes.Any f h = any_unmarked f h
form_unmarked _ f h = plain_unmarked f h

pub values_unmarked : (kind : Takes) (ws : List Token) → list_all (is_value kind) ws ≡ true → no_marks ws ≡ true
values_unmarked kind [] h = refl
values_unmarked kind (w ∷ ws) h =
    and_both (not (is_mark w.form)) (no_marks ws)
    (is_not (is_mark w.form) (form_unmarked kind w.form
    (and_left (form_fits kind w.form) (text_fits kind w.text) (and_left (is_value kind w) (list_all (is_value kind) ws) h))))
    (values_unmarked kind ws (and_right (is_value kind w) (list_all (is_value kind) ws) h))

-- The values of each keyword with one more item.
value_behind : (before : List Item) (i : Item) (q : Keyword)
    → pushed (values_at before) i.key (map word_of (item_values i)) q ≡ values_at (before ++ i ∷ []) q
value_behind before i q =
    by_key (same_keyword q i.key) (values_at before q) (map word_of (item_values i))
    ∙ sym (flat_map-append (λ (j : Item). if same_keyword q j.key then map word_of (item_values j) else []) before (i ∷ []))
  where
    by_key : (b : Bool) (xs ys : List Word) → (if b then xs ++ ys else xs) ≡ xs ++ ((if b then ys else []) ++ [])
    by_key true xs ys = ap (λ zs. xs ++ zs) (sym (append-nil ys))
    by_key false xs ys = sym (append-nil xs)

pub values_push : (before : List Item) (i : Item)
    → pushed (values_at before) i.key (map word_of (item_values i)) ≡ values_at (before ++ i ∷ [])
values_push before i = λ j q. value_behind before i q j

-- A day that was read is one.
day_pushed : (key : Keyword) (at : Keyword → List Word) (first : Token) (more : List Token)
    → list_all (is_value (entry key).takes) (first ∷ more) ≡ true → ((entry key).once ≡ true → at key ≡ [])
    → DayFits at → DayFits (pushed at key (map word_of (first ∷ more)))
day_pushed keywords.Expiration at first more v new h =
    subst (λ xs. is_some (day_meant (xs ++ map word_of (first ∷ more))) ≡ some_word (xs ++ map word_of (first ∷ more)))
    (sym (new refl))
    (and_right (is_plain first.form) (is_some (day_named first.text))
    (and_left (is_value takes.Day first) (list_all (is_value takes.Day) more) v))
day_pushed _ at first more v new h = h

pub day_fits : (before : List Item) (i : Item) → ItemStands before i → DayFits (values_at before)
    → DayFits (values_at (before ++ i ∷ []))
day_fits before i h d = subst DayFits (values_push before i)
    (day_pushed i.key (values_at before) i.first i.more h.values_are h.first_time d)

-- The reader inside a term.
abbrev pub in_term : PolicyState → Word → (Keyword → List Word) → PolicyState
in_term s name at = record s { part = InTerm; draft = draft_from name at }

item_read : (s : PolicyState) (name : Word) (before : List Item) (i : Item) (rest : List Token) → ItemStands before i
    → DayFits (values_at before)
    → values_of rest ≡ []
    → walk (in_term s name (values_at before)) (item_words i ++ rest) ≡ walk (in_term s name (values_at (before ++ i ∷ []))) rest
unfolding behind_keyword
item_read s name before i rest h d e =
    let at : Keyword → List Word = values_at before in
    let k : Token = word i.place forms.Keyword (entry i.key).text in
    let next : TermDraft = draft_from name (pushed at i.key (map word_of (item_values i))) in
    let drafted : draft_behind (draft_from name at) k (item_values i) ≡ Ok next =
    item_reads name at k i.key (item_values i) d refl
    ∙ ap (λ r. r >>= λ _. Ok next) (item_stands i.key at k i.first i.more h.values_are h.one_value h.first_time) in
    walk_keyword (in_term s name at) i.place (entry i.key).text (item_values i) rest
    (values_unmarked (entry i.key).takes (item_values i) h.values_are) e
    ∙ ap (λ r. (r >>= λ t. Ok (record (in_term s name at) { draft = t })) >>= λ u. walk u rest) drafted
    ∙ ap (λ q. walk (in_term s name q) rest) (values_push before i)

no_values_before : (items : List Item) (rest : List Token) → values_of rest ≡ [] → values_of (items_words items ++ rest) ≡ []
no_values_before [] rest e = e
no_values_before (i ∷ is) rest e = refl

items_read : (s : PolicyState) (name : Word) (before items : List Item) (rest : List Token) → Each ItemStands before items
    → DayFits (values_at before)
    → values_of rest ≡ []
    → walk (in_term s name (values_at before)) (items_words items ++ rest) ≡ walk
    (in_term s name (values_at (before ++ items))) rest
items_read s name before [] rest h d e = ap (λ xs. walk (in_term s name (values_at xs)) rest) (sym (append-nil before))
items_read s name before (i ∷ is) rest h d e =
    ap (walk (in_term s name (values_at before))) (append_assoc (item_words i) (items_words is) rest)
    ∙ item_read s name before i (items_words is ++ rest) h.0 d (no_values_before is rest e)
    ∙ items_read s name (before ++ i ∷ []) is rest h.1 (day_fits before i h.0 d) e
    ∙ ap (λ xs. walk (in_term s name (values_at xs)) rest) (append_assoc before (i ∷ []) is)

-- `term` may stand there.
abbrev pub TermMayStand : PolicyState → Type 0
TermMayStand s = (place : Place) → behind_word s.part s (plain place (codes "term")) ≡ Ok (record s { part = Term })

abbrev pub behind_term : PolicyState → TermText → PolicyState
behind_term s t = record s {
  terms = s.terms ++ term_meant t ∷ [];
  term_count = s.term_count + 1;
  draft = no_draft;
  part = TermEnd;
}

few_terms : (n : ℕ) → n < 1024 → nat_le 1024 n ≡ false
few_terms n h = grind (arith, nat_tests)

name_read : (s : PolicyState) (name : Word) → is_name name.text ≡ true
    → list_any (λ (t : RawTerm). bytes_eq t.name.text name.text) s.terms ≡ false
    → s.term_count < 1024
    → behind_name s (plain name.place name.text) ≡ Ok
    (record s { draft = draft_of name; term_count = s.term_count + 1; part = Named })
unfolding behind_name
name_read s name n new few =
    if_false (not (is_name name.text)) _ _ (ap not n)
    ∙ if_false (list_any (λ (t : RawTerm). bytes_eq t.name.text name.text) s.terms) _ _ new
    ∙ if_false (nat_le 1024 s.term_count) _ _ (few_terms s.term_count few)

term_ended : (s : PolicyState) (t : TermText) → some_word (values_at t.items keywords.Action) ≡ true → (m : Token)
    → behind_end InTerm (in_term s t.name (values_at t.items)) m ≡ Ok (with_term (in_term s t.name (values_at t.items)))
unfolding behind_end
term_ended s t h m = if_true (some_word (values_at t.items keywords.Action)) _ _ h

term_read : (s : PolicyState) (t : TermText) (rest : List Token) → TermMayStand s → TermStands t → NameIsNew s.terms (term_meant t)
    → s.term_count < 1024 → walk s (term_words t ++ rest) ≡ walk (behind_term s t) rest
unfolding behind_word behind_begin
term_read s t rest may h new few =
    let end : Token = word t.end forms.End (codes "}") in
    let inside : List Token = (items_words t.items ++ end ∷ []) ++ rest in
    let begun : List Token = word t.begin forms.Begin (codes "{") ∷ inside in
    let named : PolicyState = record s { draft = draft_of t.name; term_count = s.term_count + 1; part = Named } in
    walk_word s (plain t.place (codes "term")) (plain t.name.place t.name.text ∷ begun) refl
    ∙ ap (λ r. r >>= λ u. walk u (plain t.name.place t.name.text ∷ begun)) (may t.place)
    ∙ walk_word (record s { part = Term }) (plain t.name.place t.name.text) begun refl
    ∙ ap (λ r. r >>= λ u. walk u begun) (name_read (record s { part = Term }) t.name h.name_is new few)
    ∙ walk_begin named t.begin (codes "{") inside
    ∙ ap (walk (in_term named t.name (values_at []))) (append_assoc (items_words t.items) (end ∷ []) rest)
    ∙ items_read named t.name [] t.items (end ∷ rest) h.items_stand refl refl
    ∙ walk_end (in_term named t.name (values_at t.items)) t.end (codes "}") rest
    ∙ ap (λ r. r >>= λ u. walk u rest) (term_ended named t h.has_action end)

-- Behind the terms of a block.
abbrev pub behind_terms : PolicyState → List TermText → PolicyState
behind_terms s ts = record s {
  terms = s.terms ++ map term_meant ts;
  term_count = s.term_count + length ts;
  draft = no_draft;
  part = TermEnd;
}

more_may_stand : (s : PolicyState) (t : TermText) → TermMayStand (behind_term s t)
unfolding behind_word
more_may_stand s t place = refl

behind_more : (s : PolicyState) (t u : TermText) (us : List TermText)
    → behind_terms (behind_term s t) (u ∷ us) ≡ behind_terms s (t ∷ u ∷ us)
behind_more s t u us =
    let count : s.term_count + 1 + length (u ∷ us) ≡ s.term_count + length (t ∷ u ∷ us) = omega arith in
    λ i. record s {
      terms = append_assoc s.terms (term_meant t ∷ []) (map term_meant (u ∷ us)) i;
      term_count = count i;
      draft = no_draft;
      part = TermEnd;
    }

pub terms_read : (s : PolicyState) (t : TermText) (ts : List TermText) (rest : List Token) → TermMayStand s
    → AllByRecursion TermStands (t ∷ ts)
    → Each NameIsNew s.terms (map term_meant (t ∷ ts)) → s.term_count + length (t ∷ ts) ≤ 1024
    → walk s (flat_map term_words (t ∷ ts) ++ rest) ≡ walk (behind_terms s (t ∷ ts)) rest
terms_read s t [] rest may h new few =
    ap (λ xs. walk s (xs ++ rest)) (append-nil (term_words t))
    ∙ term_read s t rest may h.0 new.0 (omega arith)
terms_read s t (u ∷ us) rest may h new few =
    ap (walk s) (append_assoc (term_words t) (flat_map term_words (u ∷ us)) rest)
    ∙ term_read s t (flat_map term_words (u ∷ us) ++ rest) may h.0 new.0 (omega arith)
    ∙ terms_read (behind_term s t) u us rest (more_may_stand s t) h.1 new.1 (omega arith)
    ∙ ap (λ x. walk x rest) (behind_more s t u us)
