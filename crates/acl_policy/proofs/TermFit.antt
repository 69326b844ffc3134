-- A term that is read has words that its keywords take, and they stand where its words do.
use Rattle.std.proofs.Common.{◌≡◌, ℕ, ◌<◌, Bool, true, false, List, [], ◌∷◌, ◌++◌, map, length, Option, None, Some, IfSome, refl, ap, subst, sym, ◌∙◌, arith}
use Rattle.std.specs.List.{All, AllByRecursion}
use Rattle.std.proofs.lemmas.List.Elements.{All-nil, All-cons, All-append, recursion_from_All}
use Rattle.acl_text.specs.declared.faults.Code.TheVariants as codes_of
use Rattle.acl_text.specs.declared.faults.Place.{Place}
use Rattle.acl_words.specs.Tokens.{Token}
use Rattle.acl_words.specs.declared.word_lists.Word.{Word}
use Rattle.acl_host.specs.declared.days.Day.{Day}
use Rattle.acl_policy.specs.declared.keywords.Keyword.{Keyword}
use Rattle.acl_policy.specs.declared.keywords.Keyword.TheVariants as keywords
use Rattle.acl_policy.specs.declared.keywords.KeywordRow.{KeywordRow}
use Rattle.acl_policy.specs.RawTerms.{RawTerm}
use Rattle.acl_policy.specs.declared.term_drafts.TermDraft.{TermDraft}
use Rattle.acl_policy.specs.declared.values.Takes.{Takes}
use Rattle.acl_policy.specs.declared.values.Takes.TheVariants as takes
use Rattle.acl_policy.specs.Keywords.{entry, row_of, row_named}
use Rattle.acl_policy.specs.Terms.{empty_term, draft_of, comment_with, with_comment, with_comments, list_at, with_list, first_word, first_day, with_values, has_stood, item_checked, item_behind, row_behind, draft_behind}
use Rattle.acl_policy.specs.Values.{text_fits, form_fits, is_value, word_of, all_values, some_values, one_value}
use Rattle.acl_policy.proofs.KeywordLaws.{named_row}
use Rattle.acl_policy.proofs.Outcomes.{Has, ToldAt, answered_for, bind_has, if_has, weaker, and_right}

-- The words stand at such places.
abbrev pub Stand : (Place → Type 0) → List Token → Type 0
Stand At ws = AllByRecursion (λ (w : Token). At w.place) ws

-- The word is one that the keyword takes, and stands at such a place.
abbrev pub Fits : (Place → Type 0) → Takes → Word → Type 0
Fits At kind w = (text_fits kind w.text ≡ true) × At w.place

abbrev pub ListsFit : (Place → Type 0) → RawTerm → Type 0
ListsFit At t = (key : Keyword) → All (Fits At (entry key).takes) (list_at t key)

-- A draft of that name, whose lists fit, and whose action does where there is one.
pub record Sound (At : Place → Type 0) (name : Word) (d : TermDraft) : Type 0 where
  pub name_is : d.term.name ≡ name
  pub action_fits : d.has_action ≡ true → Fits At takes.Action d.term.action
  pub lists : ListsFit At d.term

value_fits : (kind : Takes) (w : Token) → is_value kind w ≡ true → text_fits kind w.text ≡ true
value_fits kind w h = and_right (form_fits kind w.form) (text_fits kind w.text) h

-- What is put under a keyword stands there, and under no other.
list_put : (P : Keyword → List Word → Type 0) (t : RawTerm) (key q : Keyword) (xs : List Word) → P key xs → P q (list_at t q)
    → P q (list_at (with_list t key xs) q)
list_put P t keywords.SourceAddress keywords.SourceAddress xs h k = h
list_put P t keywords.SourceExclude keywords.SourceExclude xs h k = h
list_put P t keywords.DestinationAddress keywords.DestinationAddress xs h k = h
list_put P t keywords.DestinationExclude keywords.DestinationExclude xs h k = h
list_put P t keywords.Address keywords.Address xs h k = h
list_put P t keywords.Protocol keywords.Protocol xs h k = h
list_put P t keywords.SourcePort keywords.SourcePort xs h k = h
list_put P t keywords.DestinationPort keywords.DestinationPort xs h k = h
list_put P t keywords.Port keywords.Port xs h k = h
list_put P t keywords.IcmpType keywords.IcmpType xs h k = h
list_put P t keywords.IcmpCode keywords.IcmpCode xs h k = h
list_put P t keywords.Opt keywords.Opt xs h k = h
list_put P t keywords.Platform keywords.Platform xs h k = h
list_put P t keywords.PlatformExclude keywords.PlatformExclude xs h k = h
list_put P t _ _ xs h k = k

-- The other fields are none of the lists.
other_fields : (t : RawTerm) (comments : List ℕ) (action : Word) (logging : Bool) (expires : Option Day) (key : Keyword)
    → list_at (record t { comments = comments; action = action; logging = logging; expires = expires }) key ≡ list_at t key
other_fields t comments action logging expires keywords.Comment = refl
other_fields t comments action logging expires _ = refl

empty_at : (name : Word) (key : Keyword) → list_at (empty_term name) key ≡ []
empty_at name keywords.Comment = refl
empty_at name _ = refl

module _ (At : Place → Type 0) where
  all_fit : (kind : Takes) (ws : List Token) → Stand At ws
      → Has (ToldAt At) (λ _. All (Fits At kind) (map word_of ws)) (all_values kind ws)
  all_fit kind [] h = All-nil (Fits At kind)
  all_fit kind (w ∷ ws) h = if_has (ToldAt At) (λ _. All (Fits At kind) (map word_of (w ∷ ws))) (is_value kind w) _ _
      (λ c. weaker (ToldAt At) (λ _. All (Fits At kind) (map word_of ws)) (λ _. All (Fits At kind) (map word_of (w ∷ ws)))
      (all_values kind ws) (all_fit kind ws h.1)
      (λ _ g. All-cons (Fits At kind) (word_of w) (map word_of ws) (value_fits kind w c, h.0) g))
      (λ _. (h.0, answered_for w.form codes_of.Value tt))

  pub some_fit : (kind : Takes) (k : Token) (ws : List Token) → At k.place → Stand At ws
      → Has (ToldAt At) (λ _. All (Fits At kind) (map word_of ws)) (some_values kind k ws)
  some_fit kind k [] p h = (p, tt)
  some_fit kind k (w ∷ ws) p h = all_fit kind (w ∷ ws) h

  -- the values fit, and there is one
  abbrev Given : Takes → List Token → Type 0
  Given kind ws = All (Fits At kind) (map word_of ws) × (0 < length ws)

  one_given : (kind : Takes) (k : Token) (ws : List Token) → At k.place → Stand At ws
      → Has (ToldAt At) (λ _. Given kind ws) (one_value kind k ws)
  one_given kind k [] p h = (p, tt)
  one_given kind k (w ∷ []) p h = if_has (ToldAt At) (λ _. Given kind (w ∷ [])) (is_value kind w) _ _
      (λ c. (All-cons (Fits At kind) (word_of w) [] (value_fits kind w c, h.0) (All-nil (Fits At kind)), omega arith))
      (λ _. (h.0, answered_for w.form codes_of.Value tt))
  one_given kind k (w ∷ v ∷ ws) p h = if_has (ToldAt At) (λ _. Given kind (w ∷ v ∷ ws)) (is_value kind w) _ _
      (λ _. (h.1.0, answered_for v.form codes_of.Value tt)) (λ _. (h.0, answered_for w.form codes_of.Value tt))

  some_given : (kind : Takes) (k : Token) (ws : List Token) → At k.place → Stand At ws
      → Has (ToldAt At) (λ _. Given kind ws) (some_values kind k ws)
  some_given kind k [] p h = (p, tt)
  some_given kind k (w ∷ ws) p h = weaker (ToldAt At) (λ _. All (Fits At kind) (map word_of (w ∷ ws)))
      (λ _. Given kind (w ∷ ws)) (all_values kind (w ∷ ws)) (all_fit kind (w ∷ ws) h) (λ _ g. (g, omega arith))

  item_given : (r : KeywordRow) (d : TermDraft) (k : Token) (ws : List Token) → At k.place → Stand At ws
      → Has (ToldAt At) (λ _. Given r.takes ws) (item_checked r d k ws)
  item_given r d k ws p h = if_has (ToldAt At) (λ _. Given r.takes ws) r.once _ _
      (λ _. if_has (ToldAt At) (λ _. Given r.takes ws) (has_stood d r.keyword) _ _ (λ _. (p, tt)) (λ _. one_given r.takes k ws p h))
      (λ _. some_given r.takes k ws p h)

  first_fits : (kind : Takes) (ws : List Token) → Given kind ws → Fits At kind (first_word ws)
  first_fits kind [] h = absurd (omega (arith, h.1))
  first_fits kind (w ∷ ws) h = (recursion_from_All (Fits At kind) (map word_of (w ∷ ws)) h.0).0

  pub draft_sound : (name : Word) → Sound At name (draft_of name)
  draft_sound name = record { name_is = refl; action_fits = λ h. no_action h; lists = λ key. no_words key }
    where
      no_action : {P : Type 0} → false ≡ true → P
      no_action h = cc

      no_words : (key : Keyword) → All (Fits At (entry key).takes) (list_at (empty_term name) key)
      no_words key = subst (All (Fits At (entry key).takes)) (sym (empty_at name key)) (All-nil (Fits At (entry key).takes))

  -- the lists are as they were
  same_sound : (n : Word) (d e : TermDraft) → Sound At n d → e.term.name ≡ d.term.name
      → (e.has_action ≡ true → Fits At takes.Action e.term.action)
      → ((key : Keyword) → list_at e.term key ≡ list_at d.term key) → Sound At n e
  same_sound n d e h name acts same = record {
    name_is = name ∙ h.name_is;
    action_fits = acts;
    lists = λ key. subst (All (Fits At (entry key).takes)) (sym (same key)) (h.lists key);
  }

  comments_sound : (n : Word) (d : TermDraft) (ws : List Token) → Sound At n d → Sound At n (with_comments d ws)
  comments_sound n d [] h = h
  comments_sound n d (w ∷ ws) h = comments_sound n (with_comment d w.text) ws
      (same_sound n d (with_comment d w.text) h refl h.action_fits
      (other_fields d.term (comment_with d.has_comment d.term.comments w.text) d.term.action d.term.logging d.term.expires))

  -- a keyword of lists
  list_sound : (n : Word) (d : TermDraft) (key : Keyword) (ws : List Token) → Sound At n d → Given (entry key).takes ws
      → (with_list d.term key (list_at d.term key ++ map word_of ws)).name ≡ d.term.name
      → (with_list d.term key (list_at d.term key ++ map word_of ws)).action ≡ d.term.action
      → Sound At n (record d { term = with_list d.term key (list_at d.term key ++ map word_of ws) })
  list_sound n d key ws h g name action = record {
    name_is = name ∙ h.name_is;
    action_fits = λ e. subst (Fits At takes.Action) (sym action) (h.action_fits e);
    lists = λ q. list_put (λ q xs. All (Fits At (entry q).takes) xs) d.term key q (list_at d.term key ++ map word_of ws)
        (All-append (Fits At (entry key).takes) (list_at d.term key) (map word_of ws) (h.lists key) g.0) (h.lists q);
  }

  values_sound : (n : Word) (d : TermDraft) (key : Keyword) (ws : List Token) → Sound At n d → Given (entry key).takes ws
      → Sound At n (with_values d key ws)
  values_sound n d keywords.Comment ws h g = comments_sound n d ws h
  values_sound n d keywords.Owner ws h g = record { name_is = h.name_is; action_fits = h.action_fits; lists = h.lists }
  values_sound n d keywords.Action ws h g = same_sound n d (with_values d keywords.Action ws) h refl
      (λ _. first_fits takes.Action ws g) (other_fields d.term d.term.comments (first_word ws) d.term.logging d.term.expires)
  values_sound n d keywords.Logging ws h g = same_sound n d (with_values d keywords.Logging ws) h refl h.action_fits
      (other_fields d.term d.term.comments d.term.action true d.term.expires)
  values_sound n d keywords.Expiration ws h g = same_sound n d (with_values d keywords.Expiration ws) h refl h.action_fits
      (other_fields d.term d.term.comments d.term.action d.term.logging (first_day ws))
  values_sound n d key ws h g = list_sound n d key ws h g refl refl

  row_sound : (n : Word) (o : Option KeywordRow) (d : TermDraft) (k : Token) (ws : List Token) → IfSome o (λ r. r ≡ row_of r.keyword)
      → Sound At n d → At k.place → Stand At ws → Has (ToldAt At) (Sound At n) (row_behind o d k ws)
  unfolding item_behind
  row_sound n None d k ws is h p s = (p, tt)
  row_sound n (Some r) d k ws is h p s = bind_has (ToldAt At) (λ _. Given r.takes ws) (Sound At n) (item_checked r d k ws) _
      (item_given r d k ws p s)
      (λ _ g. values_sound n d r.keyword ws h (subst (λ kind. Given kind ws) (ap (λ (x : KeywordRow). x.takes) is) g))

  pub term_sound : (n : Word) (d : TermDraft) (k : Token) (ws : List Token) → Sound At n d → At k.place → Stand At ws
      → Has (ToldAt At) (Sound At n) (draft_behind d k ws)
  unfolding draft_behind
  term_sound n d k ws h p s = row_sound n (row_named k.text) d k ws (named_row k.text) h p s
