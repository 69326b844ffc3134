-- An item of a term: what the reader makes of its keyword and its values is what the page says, and it takes just the
-- items that stand.
use Rattle.std.proofs.Common.{◌≡◌, Bool, true, false, if◌then◌else◌, List, [], ◌∷◌, ◌++◌, map, flat_map, is_some, Result, Ok, Err, IfOk, refl, ap, sym, ◌∙◌, append_assoc, append-nil}
use Rattle.std.specs.List.{list_all}
use Rattle.std.proofs.lemmas.Grind.{flat_map-append}
use Rattle.acl_text.specs.declared.faults.Code.TheVariants.{Repeated, Value}
use Rattle.acl_text.specs.declared.faults.Slip.{Slip}
use Rattle.acl_text.specs.Steps.{◌>>=◌}
use Rattle.acl_words.specs.Tokens.{Token}
use Rattle.acl_words.specs.declared.word_lists.Word.{Word}
use Rattle.acl_policy.specs.declared.keywords.Keyword.{Keyword}
use Rattle.acl_policy.specs.declared.keywords.Keyword.TheVariants as keywords
use Rattle.acl_policy.specs.ReadingParts.{TermDraft}
use Rattle.acl_policy.specs.declared.values.Takes.{Takes}
use Rattle.acl_policy.specs.declared.values.Takes.TheVariants as takes
use Rattle.acl_policy.specs.Keywords.{entry, row_named, row_of}
use Rattle.acl_policy.specs.Slips.{slip_of, slip_for}
use Rattle.acl_policy.specs.Terms.{with_comments, comment_with, with_values, item_behind, row_behind, draft_behind}
use Rattle.acl_policy.specs.Values.{is_value, word_of, all_values, some_values, one_value}
use Rattle.acl_policy.proofs.KeywordLaws.{row_found}
use Rattle.policy_grammar.specs.TermTexts.{same_keyword, comment_text, first_word, some_word, day_meant, term_from}
use Rattle.policy_grammar.proofs.Outcomes.{if_ok, weaker_ok, and_left, and_right, and_both, if_true}

-- A term that is open, by the values of each keyword so far.
abbrev pub draft_from : Word → (Keyword → List Word) → TermDraft
draft_from name at = record {
  term = term_from name at;
  has_comment = some_word (at keywords.Comment);
  has_owner = some_word (at keywords.Owner);
  has_action = some_word (at keywords.Action);
}

-- The values with those of one more item.
abbrev pub pushed : (Keyword → List Word) → Keyword → List Word → Keyword → List Word
pushed at key ws q = if same_keyword q key then at q ++ ws else at q

-- A test that is passed.
abbrev pub passed : Result (Unit {0}) Slip
passed = Ok tt

-- What is tested of an item.
abbrev pub checked : Keyword → (Keyword → List Word) → Token → List Token → Result (Unit {0}) Slip
checked key at k ws =
    if (entry key).once
    then (if some_word (at key) then Err (slip_of Repeated k) else one_value (entry key).takes k ws)
    else some_values (entry key).takes k ws

-- A day that was read is one.
abbrev pub DayFits : (Keyword → List Word) → Type 0
DayFits at = is_some (day_meant (at keywords.Expiration)) ≡ some_word (at keywords.Expiration)

-- A keyword that stands once.
one_read : (kind : Takes) (k : Token) (ws : List Token) (next : List Token → TermDraft) (F : List Word → TermDraft)
    → ((w : Token) → next (w ∷ []) ≡ F (word_of w ∷ []))
    → (one_value kind k ws >>= λ _. Ok (next ws)) ≡ (one_value kind k ws >>= λ _. Ok (F (map word_of ws)))
one_read kind k [] next F h = refl
one_read kind k (w ∷ []) next F h = tested (is_value kind w)
  where
    tested : (b : Bool) → ((if b then passed else Err (slip_for Value w)) >>= λ _. Ok (next (w ∷ [])))
        ≡ ((if b then passed else Err (slip_for Value w)) >>= λ _. Ok (F (word_of w ∷ [])))
    tested true = ap Ok (h w)
    tested false = refl
one_read kind k (w ∷ v ∷ ws) next F h = tested (is_value kind w)
  where
    first : Result (Unit {0}) Slip
    first = Err (slip_for Value v)

    second : Result (Unit {0}) Slip
    second = Err (slip_for Value w)

    tested : (b : Bool) → ((if b then first else second) >>= λ _. Ok (next (w ∷ v ∷ ws)))
        ≡ ((if b then first else second) >>= λ _. Ok (F (map word_of (w ∷ v ∷ ws))))
    tested true = refl
    tested false = refl

once_read : (b : List Word) (kind : Takes) (k : Token) (ws : List Token) (next : List Token → TermDraft) (F : List Word → TermDraft)
    → ((w : Token) → next (w ∷ []) ≡ F (word_of w ∷ []))
    → ((if some_word b then Err (slip_of Repeated k) else one_value kind k ws) >>= λ _. Ok (next ws))
    ≡ ((if some_word b then Err (slip_of Repeated k) else one_value kind k ws) >>= λ _. Ok (F (b ++ map word_of ws)))
once_read [] kind k ws next F h = one_read kind k ws next F h
once_read (x ∷ xs) kind k ws next F h = refl

-- Comments.
some_behind : (b : List Word) (w : Word) → some_word (b ++ w ∷ []) ≡ true
some_behind [] w = refl
some_behind (x ∷ xs) w = refl

comment_behind : (b : List Word) (w : Word) → comment_text (b ++ w ∷ []) ≡ comment_with (some_word b) (comment_text b) w.text
comment_behind [] w = append-nil w.text
comment_behind (x ∷ xs) w =
    ap (λ t. x.text ++ t) (flat_map-append (λ (v : Word). 32 ∷ v.text) xs (w ∷ []))
    ∙ ap (λ t. x.text ++ (flat_map (λ (v : Word). 32 ∷ v.text) xs ++ 32 ∷ t)) (append-nil w.text)
    ∙ sym (append_assoc x.text (flat_map (λ (v : Word). 32 ∷ v.text) xs) (32 ∷ w.text))
    ∙ sym (append_assoc (x.text ++ flat_map (λ (v : Word). 32 ∷ v.text) xs) (32 ∷ []) w.text)

abbrev commented : TermDraft → List Word → TermDraft
commented d b = record d { term = record d.term { comments = comment_text b }; has_comment = some_word b }

comments_read : (d : TermDraft) (b : List Word) (ws : List Token) → with_comments (commented d b) ws ≡ commented d (b ++ map word_of ws)
comments_read d b [] = ap (commented d) (sym (append-nil b))
comments_read d b (w ∷ ws) =
    (λ i. with_comments (record d {
      term = record d.term { comments = sym (comment_behind b (word_of w)) i };
      has_comment = sym (some_behind b (word_of w)) i;
    }) ws)
    ∙ comments_read d (b ++ word_of w ∷ []) ws
    ∙ ap (commented d) (append_assoc b (word_of w ∷ []) (map word_of ws))

abbrev KeyReads : Keyword → Type 0
KeyReads key = (name : Word) (at : Keyword → List Word) (k : Token) (ws : List Token) → DayFits at
    → item_behind (row_of key) (draft_from name at) k ws
    ≡ (checked key at k ws >>= λ _. Ok (draft_from name (pushed at key (map word_of ws))))

comment_reads : KeyReads keywords.Comment
unfolding item_behind
comment_reads name at k ws h =
    ap (λ d. some_values takes.String k ws >>= λ _. Ok d) (comments_read (draft_from name at) (at keywords.Comment) ws)

owner_reads : KeyReads keywords.Owner
unfolding item_behind
owner_reads name at k ws h =
    once_read (at keywords.Owner) takes.Any k ws (λ ws. with_values (draft_from name at) keywords.Owner ws)
    (λ b. record (draft_from name at) { has_owner = some_word b }) (λ _. refl)

action_reads : KeyReads keywords.Action
unfolding item_behind
action_reads name at k ws h =
    once_read (at keywords.Action) takes.Action k ws (λ ws. with_values (draft_from name at) keywords.Action ws)
    (λ b. record (draft_from name at) { term = record (term_from name at) { action = first_word b }; has_action = some_word b })
    (λ _. refl)

logging_reads : KeyReads keywords.Logging
unfolding item_behind
logging_reads name at k ws h =
    once_read (at keywords.Logging) takes.Logging k ws (λ ws. with_values (draft_from name at) keywords.Logging ws)
    (λ b. record (draft_from name at) { term = record (term_from name at) { logging = some_word b } }) (λ _. refl)

expiration_reads : KeyReads keywords.Expiration
unfolding item_behind
expiration_reads name at k ws h =
    let next : List Token → TermDraft = λ ws. with_values (draft_from name at) keywords.Expiration ws in
    ap (λ b. (if b then Err (slip_of Repeated k) else one_value takes.Day k ws) >>= λ _. Ok (next ws)) h
    ∙ once_read (at keywords.Expiration) takes.Day k ws next
    (λ b. record (draft_from name at) { term = record (term_from name at) { expires = day_meant b } }) (λ _. refl)

-- Each keyword. Those of lists are read alike.
key_reads : (key : Keyword) → KeyReads key
unfolding item_behind
key_reads keywords.Comment name at k ws h = comment_reads name at k ws h
key_reads keywords.Owner name at k ws h = owner_reads name at k ws h
key_reads keywords.Action name at k ws h = action_reads name at k ws h
key_reads keywords.Logging name at k ws h = logging_reads name at k ws h
key_reads keywords.Expiration name at k ws h = expiration_reads name at k ws h
key_reads _ name at k ws h = refl

pub item_reads : (name : Word) (at : Keyword → List Word) (k : Token) (key : Keyword) (ws : List Token) → DayFits at
    → k.text ≡ (entry key).text
    → draft_behind (draft_from name at) k ws
    ≡ (checked key at k ws >>= λ _. Ok (draft_from name (pushed at key (map word_of ws))))
unfolding draft_behind
item_reads name at k key ws h e =
    ap (λ o. row_behind o (draft_from name at) k ws) (ap row_named e ∙ row_found key) ∙ key_reads key name at k ws h

-- The words of an item's values, as they are tested.
all_taken : (kind : Takes) (ws : List Token) → IfOk (all_values kind ws) (λ _. list_all (is_value kind) ws ≡ true)
all_taken kind [] = refl
all_taken kind (w ∷ ws) = if_ok (λ _. list_all (is_value kind) (w ∷ ws) ≡ true) (is_value kind w) _ _
    (λ c. weaker_ok (λ _. list_all (is_value kind) ws ≡ true) (λ _. list_all (is_value kind) (w ∷ ws) ≡ true) (all_values kind ws)
    (all_taken kind ws) (λ _ h. and_both (is_value kind w) (list_all (is_value kind) ws) c h))
    (λ _. tt)

pub all_read : (kind : Takes) (ws : List Token) → list_all (is_value kind) ws ≡ true → all_values kind ws ≡ passed
all_read kind [] h = refl
all_read kind (w ∷ ws) h =
    if_true (is_value kind w) _ _ (and_left (is_value kind w) (list_all (is_value kind) ws) h)
    ∙ all_read kind ws (and_right (is_value kind w) (list_all (is_value kind) ws) h)

-- The words are the values of an item that stands.
pub record AreValues (key : Keyword) (at : Keyword → List Word) (ws : List Token) : Type 0 where
  pub first : Token
  pub more : List Token
  pub words_are : ws ≡ first ∷ more
  pub values_are : list_all (is_value (entry key).takes) (first ∷ more) ≡ true
  pub one_value : (entry key).once ≡ true → more ≡ []
  pub first_time : (entry key).once ≡ true → at key ≡ []

none_yet : (b : List Word) → some_word b ≡ false → b ≡ []
none_yet [] h = refl
none_yet (x ∷ xs) h = cc

one_taken : (key : Keyword) (at : Keyword → List Word) (k : Token) (ws : List Token) → at key ≡ []
    → IfOk (one_value (entry key).takes k ws) (λ _. AreValues key at ws)
one_taken key at k [] e = tt
one_taken key at k (w ∷ []) e = if_ok (λ _. AreValues key at (w ∷ [])) (is_value (entry key).takes w) _ _
    (λ c. record {
      first = w;
      more = [];
      words_are = refl;
      values_are = and_both (is_value (entry key).takes w) true c refl;
      one_value = λ _. refl;
      first_time = λ _. e;
    })
    (λ _. tt)
one_taken key at k (w ∷ v ∷ ws) e = if_ok (λ _. AreValues key at (w ∷ v ∷ ws)) (is_value (entry key).takes w) _ _ (λ _. tt) (λ _. tt)

pub some_taken : (key : Keyword) (at : Keyword → List Word) (k : Token) (ws : List Token) → (entry key).once ≡ false
    → IfOk (some_values (entry key).takes k ws) (λ _. AreValues key at ws)
some_taken key at k [] e = tt
some_taken key at k (w ∷ ws) e =
    weaker_ok (λ _. list_all (is_value (entry key).takes) (w ∷ ws) ≡ true) (λ _. AreValues key at (w ∷ ws))
    (all_values (entry key).takes (w ∷ ws)) (all_taken (entry key).takes (w ∷ ws))
    (λ _ h. record {
      first = w;
      more = ws;
      words_are = refl;
      values_are = h;
      one_value = λ c. absurd (not_both c);
      first_time = λ c. absurd (not_both c);
    })
  where
    not_both : (entry key).once ≡ true → ⊥
    not_both c = cc

pub checked_taken : (key : Keyword) (at : Keyword → List Word) (k : Token) (ws : List Token)
    → IfOk (checked key at k ws) (λ _. AreValues key at ws)
checked_taken key at k ws = if_ok (λ _. AreValues key at ws) (entry key).once _ _
    (λ _. if_ok (λ _. AreValues key at ws) (some_word (at key)) _ _ (λ _. tt)
    (λ e. one_taken key at k ws (none_yet (at key) e)))
    (λ e. some_taken key at k ws e)

-- An item that stands is read.
one_checked : (kind : Takes) (k first : Token) (more : List Token) → more ≡ [] → is_value kind first ≡ true
    → one_value kind k (first ∷ more) ≡ passed
one_checked kind k first more e h =
    ap (λ ws. one_value kind k (first ∷ ws)) e ∙ ap (λ b. if b then passed else Err (slip_for Value first)) h

pub item_stands : (key : Keyword) (at : Keyword → List Word) (k first : Token) (more : List Token)
    → list_all (is_value (entry key).takes) (first ∷ more) ≡ true
    → ((entry key).once ≡ true → more ≡ []) → ((entry key).once ≡ true → at key ≡ [])
    → checked key at k (first ∷ more) ≡ passed
item_stands key at k first more h one new = by_kind (entry key).once one new
  where
    once : Result (Unit {0}) Slip
    once = if some_word (at key) then Err (slip_of Repeated k) else one_value (entry key).takes k (first ∷ more)

    by_kind : (b : Bool) → (b ≡ true → more ≡ []) → (b ≡ true → at key ≡ [])
        → (if b then once else some_values (entry key).takes k (first ∷ more)) ≡ passed
    by_kind true one new =
        ap (λ ws. if some_word ws then Err (slip_of Repeated k) else one_value (entry key).takes k (first ∷ more)) (new refl)
        ∙ one_checked (entry key).takes k first more (one refl)
        (and_left (is_value (entry key).takes first) (list_all (is_value (entry key).takes) more) h)
    by_kind false one new = all_read (entry key).takes (first ∷ more) h
