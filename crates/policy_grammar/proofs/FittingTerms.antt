-- A term that fits is what the text of a term means.
use Rattle.std.proofs.Common.{◌≡◌, ℕ, Bool, true, false, not, ◌&&◌, ◌||◌, if◌then◌else◌, List, [], ◌∷◌, ◌++◌, map, flat_map, is_some, Option, None, Some, refl, ap, sym, subst, ◌∙◌, append-nil, codes}
use Rattle.std.specs.List.{All, AllByRecursion, list_all, list_any}
use Rattle.std.proofs.lemmas.Grind.{flat_map-append}
use Rattle.std.proofs.lemmas.List.Elements.{recursion_from_All}
use Rattle.acl_text.specs.declared.faults.Place.{Place}
use Rattle.acl_words.specs.declared.forms.Form.{Form}
use Rattle.acl_words.specs.declared.forms.Form.TheVariants as forms
use Rattle.acl_words.specs.Tokens.{Token}
use Rattle.acl_words.specs.Words.{word}
use Rattle.acl_host.specs.declared.days.Day.{Day}
use Rattle.acl_host.specs.DaySteps.{date_text}
use Rattle.acl_policy.specs.declared.keywords.Keyword.{Keyword}
use Rattle.acl_policy.specs.declared.keywords.Keyword.TheVariants as keywords
use Rattle.acl_policy.specs.declared.values.Takes.{Takes}
use Rattle.acl_policy.specs.declared.values.Takes.TheVariants as takes
use Rattle.acl_policy.specs.RawTerms.{RawTerm}
use Rattle.acl_words.specs.declared.word_lists.Word.{Word}
use Rattle.acl_policy.specs.Conditions.{Each, IsRawTerm}
use Rattle.acl_policy.specs.Keywords.{all_keywords, entry}
use Rattle.acl_policy.specs.Terms.{list_at}
use Rattle.acl_policy.specs.Values.{is_value, word_of, text_fits}
use Rattle.policy_grammar.specs.TermTexts.{same_keyword, Item, values_at, comment_text, some_word, day_meant, term_from, ItemStands, TermText, term_meant, TermStands}
use Rattle.policy_grammar.proofs.Outcomes.{and_left, and_right, and_both, not_true}
use Rattle.policy_grammar.proofs.DayTexts.{day_text_named}

-- A word that is written as a keyword takes it.
abbrev pub written_form : Takes → Form
written_form takes.String = forms.Quoted
written_form _ = forms.Plain

abbrev pub token_for : Takes → Word → Token
token_for kind w = word w.place (written_form kind) w.text

token_fits : (kind : Takes) (w : Word) → text_fits kind w.text ≡ true → is_value kind (token_for kind w) ≡ true
token_fits takes.String w h = refl
token_fits takes.Any w h = refl
token_fits takes.Name w h = h
token_fits takes.Action w h = h
token_fits takes.Protocol w h = h
token_fits takes.IcmpType w h = h
token_fits takes.IcmpCode w h = h
token_fits takes.Opt w h = h
token_fits takes.Logging w h = h
token_fits takes.Day w h = h

tokens_fit : (kind : Takes) (ws : List Word) → list_all (λ w. text_fits kind w.text) ws ≡ true
    → list_all (is_value kind) (map (token_for kind) ws) ≡ true
tokens_fit kind [] h = refl
tokens_fit kind (w ∷ ws) h =
    and_both (is_value kind (token_for kind w)) (list_all (is_value kind) (map (token_for kind) ws))
    (token_fits kind w (and_left (text_fits kind w.text) (list_all (λ v. text_fits kind v.text) ws) h))
    (tokens_fit kind ws (and_right (text_fits kind w.text) (list_all (λ v. text_fits kind v.text) ws) h))

words_again : (kind : Takes) (ws : List Word) → map word_of (map (token_for kind) ws) ≡ ws
words_again kind [] = refl
words_again kind (w ∷ ws) = ap (λ xs. w ∷ xs) (words_again kind ws)

-- An item for each keyword that has words.
abbrev pub item_with : Keyword → List Word → List Item
item_with key [] = []
item_with key (w ∷ ws) = record {
  place = w.place;
  key = key;
  first = token_for (entry key).takes w;
  more = map (token_for (entry key).takes) ws;
} ∷ []

abbrev pub items_with : (Keyword → List Word) → List Keyword → List Item
items_with at keys = flat_map (λ key. item_with key (at key)) keys

abbrev words_under : (Keyword → List Word) → List Keyword → Keyword → List Word
words_under at keys q = flat_map (λ key. if same_keyword q key then at key else []) keys

item_under : (q key : Keyword) (ws : List Word) (rest : List Item)
    → values_at (item_with key ws ++ rest) q ≡ (if same_keyword q key then ws else []) ++ values_at rest q
item_under q key [] rest = by_key (same_keyword q key)
  where
    by_key : (b : Bool) → values_at rest q ≡ (if b then [] else []) ++ values_at rest q
    by_key true = refl
    by_key false = refl
item_under q key (w ∷ ws) rest =
    ap (λ xs. (if same_keyword q key then w ∷ xs else []) ++ values_at rest q) (words_again (entry key).takes ws)

items_under : (at : Keyword → List Word) (keys : List Keyword) (q : Keyword) → values_at (items_with at keys) q ≡ words_under at keys q
items_under at [] q = refl
items_under at (key ∷ keys) q =
    item_under q key (at key) (items_with at keys)
    ∙ ap (λ xs. (if same_keyword q key then at key else []) ++ xs) (items_under at keys q)

-- No keyword stands twice.
none_under : (at : Keyword → List Word) (keys : List Keyword) (q : Keyword) → list_any (same_keyword q) keys ≡ false → words_under at keys q ≡ []
none_under at [] q h = refl
none_under at (key ∷ keys) q h = by_key (same_keyword q key) h (none_under at keys q)
  where
    by_key : (b : Bool) → (b || list_any (same_keyword q) keys) ≡ false
        → (list_any (same_keyword q) keys ≡ false → words_under at keys q ≡ [])
        → (if b then at key else []) ++ words_under at keys q ≡ []
    by_key true h go = cc
    by_key false h go = go h

abbrev rest_of : List Word → List Word
rest_of [] = []
rest_of (w ∷ ws) = ws

-- The words of each keyword are values of it.
record EntriesFit (at : Keyword → List Word) : Type 0 where
  fits : (key : Keyword) → list_all (λ w. text_fits (entry key).takes w.text) (at key) ≡ true
  once : (key : Keyword) → (entry key).once ≡ true → rest_of (at key) ≡ []

items_more : (at : Keyword → List Word) (before : List Keyword) (key : Keyword)
    → items_with at (before ++ key ∷ []) ≡ items_with at before ++ item_with key (at key)
items_more at before key =
    flat_map-append (λ k. item_with k (at k)) before (key ∷ [])
    ∙ ap (λ xs. items_with at before ++ xs) (append-nil (item_with key (at key)))

items_stand : (at : Keyword → List Word) (before keys : List Keyword) → EntriesFit at
    → Each (λ b key. list_any (same_keyword key) b ≡ false) before keys
    → Each ItemStands (items_with at before) (items_with at keys)
items_stand at before [] h d = tt
items_stand at before (key ∷ keys) h d =
    by_words (at key) refl (subst (λ xs. Each ItemStands xs (items_with at keys)) (items_more at before key)
    (items_stand at (before ++ key ∷ []) keys h d.1))
  where
    by_words : (ws : List Word) → at key ≡ ws
        → Each ItemStands (items_with at before ++ item_with key (at key)) (items_with at keys)
        → Each ItemStands (items_with at before) (item_with key ws ++ items_with at keys)
    by_words [] e go = subst (λ xs. Each ItemStands xs (items_with at keys))
        (ap (λ ws. items_with at before ++ item_with key ws) e ∙ append-nil (items_with at before)) go
    by_words (w ∷ ws) e go = (
      record {
        values_are = tokens_fit (entry key).takes (w ∷ ws)
            (subst (λ xs. list_all (λ v. text_fits (entry key).takes v.text) xs ≡ true) e (h.fits key));
        one_value = λ c. ap (map (token_for (entry key).takes)) (only c);
        first_time = λ c. items_under at before key ∙ none_under at before key d.0;
      },
      subst (λ xs. Each ItemStands (items_with at before ++ item_with key xs) (items_with at keys)) e go,
    )
      where
        only : (entry key).once ≡ true → ws ≡ []
        only c = ap rest_of (sym e) ∙ h.once key c

-- The words of each keyword of a term.
abbrev pub comment_entry : Place → List ℕ → List Word
comment_entry place [] = []
comment_entry place (b ∷ bs) = record { place = place; text = b ∷ bs } ∷ []

abbrev pub logging_entry : Place → Bool → List Word
logging_entry place true = record { place = place; text = codes "true" } ∷ []
logging_entry place false = []

abbrev pub day_entry : Place → Option Day → List Word
day_entry place None = []
day_entry place (Some d) = record { place = place; text = date_text d.number } ∷ []

abbrev pub entries : RawTerm → Keyword → List Word
entries t keywords.Comment = comment_entry t.name.place t.comments
entries t keywords.Owner = []
entries t keywords.Action = t.action ∷ []
entries t keywords.Logging = logging_entry t.name.place t.logging
entries t keywords.Expiration = day_entry t.name.place t.expires
entries t key = list_at t key

comment_again : (place : Place) (text : List ℕ) → comment_text (comment_entry place text) ≡ text
comment_again place [] = refl
comment_again place (b ∷ bs) = append-nil (b ∷ bs)

logging_again : (place : Place) (b : Bool) → some_word (logging_entry place b) ≡ b
logging_again place true = refl
logging_again place false = refl

day_again : (place : Place) (o : Option Day) → day_meant (day_entry place o) ≡ o
day_again place None = refl
day_again place (Some d) = day_text_named d

term_again : (t : RawTerm) → term_from t.name (entries t) ≡ t
term_again t = λ i. record t {
  comments = comment_again t.name.place t.comments i;
  logging = logging_again t.name.place t.logging i;
  expires = day_again t.name.place t.expires i;
}

abbrev differ_test : List Keyword → List Keyword → Bool
differ_test before [] = true
differ_test before (key ∷ keys) = not (list_any (same_keyword key) before) && differ_test (before ++ key ∷ []) keys

differ_if : (before keys : List Keyword) → differ_test before keys ≡ true
    → Each (λ b key. list_any (same_keyword key) b ≡ false) before keys
differ_if before [] h = tt
differ_if before (key ∷ keys) h = (
  not_true (list_any (same_keyword key) before)
      (and_left (not (list_any (same_keyword key) before)) (differ_test (before ++ key ∷ []) keys) h),
  differ_if (before ++ key ∷ []) keys
      (and_right (not (list_any (same_keyword key) before)) (differ_test (before ++ key ∷ []) keys) h),
)

keys_differ : Each (λ b key. list_any (same_keyword key) b ≡ false) [] all_keywords
keys_differ = differ_if [] all_keywords refl

under_all : (at : Keyword → List Word) (q : Keyword) → words_under at all_keywords q ≡ at q
under_all at keywords.Comment = append-nil (at keywords.Comment)
under_all at key = append-nil (at key)

-- A list of words that fits.
list_fits : (kind : Takes) (ws : List Word) → All (λ w. text_fits kind w.text ≡ true) ws
    → list_all (λ w. text_fits kind w.text) ws ≡ true
list_fits kind ws h = by_words ws (recursion_from_All (λ w. text_fits kind w.text ≡ true) ws h)
  where
    by_words : (ws : List Word) → AllByRecursion (λ w. text_fits kind w.text ≡ true) ws
        → list_all (λ w. text_fits kind w.text) ws ≡ true
    by_words [] h = refl
    by_words (w ∷ ws) h = and_both (text_fits kind w.text) (list_all (λ v. text_fits kind v.text) ws) h.0 (by_words ws h.1)

comment_fits : (place : Place) (text : List ℕ) → list_all (λ w. text_fits takes.String w.text) (comment_entry place text) ≡ true
comment_fits place [] = refl
comment_fits place (b ∷ bs) = refl

logging_fits : (place : Place) (b : Bool) → list_all (λ w. text_fits takes.Logging w.text) (logging_entry place b) ≡ true
logging_fits place true = refl
logging_fits place false = refl

day_fits : (place : Place) (o : Option Day) → list_all (λ w. text_fits takes.Day w.text) (day_entry place o) ≡ true
day_fits place None = refl
day_fits place (Some d) = ap (λ r. is_some r && true) (day_text_named d)

entry_fits : (t : RawTerm) → IsRawTerm t → (key : Keyword)
    → list_all (λ w. text_fits (entry key).takes w.text) (entries t key) ≡ true
entry_fits t h keywords.Comment = comment_fits t.name.place t.comments
entry_fits t h keywords.Owner = refl
entry_fits t h keywords.Action = ap (λ b. b && true) h.action_is
entry_fits t h keywords.Logging = logging_fits t.name.place t.logging
entry_fits t h keywords.Expiration = day_fits t.name.place t.expires
entry_fits t h key = list_fits (entry key).takes (list_at t key) (h.words_fit key)

one_entry : (t : RawTerm) (key : Keyword) → (entry key).once ≡ true → rest_of (entries t key) ≡ []
one_entry t keywords.Owner c = refl
one_entry t keywords.Action c = refl
one_entry t keywords.Logging c = by_flag t.logging
  where
    by_flag : (b : Bool) → rest_of (logging_entry t.name.place b) ≡ []
    by_flag true = refl
    by_flag false = refl
one_entry t keywords.Expiration c = by_day t.expires
  where
    by_day : (o : Option Day) → rest_of (day_entry t.name.place o) ≡ []
    by_day None = refl
    by_day (Some d) = refl
one_entry t _ c = cc

abbrev pub term_for : RawTerm → TermText
term_for t = record {
  place = t.name.place;
  name = t.name;
  begin = t.name.place;
  items = items_with (entries t) all_keywords;
  end = t.name.place;
}

values_again : (t : RawTerm) → values_at (items_with (entries t) all_keywords) ≡ entries t
values_again t = λ i q. (items_under (entries t) all_keywords q ∙ under_all (entries t) q) i

pub term_means : (t : RawTerm) → term_meant (term_for t) ≡ t
term_means t = ap (term_from t.name) (values_again t) ∙ term_again t

pub term_stands : (t : RawTerm) → IsRawTerm t → TermStands (term_for t)
term_stands t h = record {
  name_is = h.name_is;
  items_stand = items_stand (entries t) [] all_keywords
      (record { fits = entry_fits t h; once = one_entry t }) keys_differ;
  has_action = ap (λ at. some_word (at keywords.Action)) (values_again t);
}
