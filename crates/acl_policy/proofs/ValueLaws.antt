-- The values of a keyword that takes words are plain words.
use Rattle.std.proofs.Common.{◌≡◌, ℕ, true, List, [], ◌∷◌, Ok, refl, ap, subst, sym, ◌∙◌}
use Rattle.std.specs.List.{All}
use Rattle.std.proofs.lemmas.Bool.{and_parts}
use Rattle.std.proofs.lemmas.List.Elements.{All-nil, All-cons}
use Rattle.acl_text.specs.declared.faults.Slip.{Slip}
use Rattle.acl_words.specs.LineTexts.{HasNoFeed}
use Rattle.acl_words.specs.declared.forms.Form.{Form}
use Rattle.acl_words.specs.declared.forms.Form.TheVariants as forms
use Rattle.acl_words.specs.Tokens.{IsRun, Token}
use Rattle.acl_policy.specs.declared.values.Takes.{Takes}
use Rattle.acl_policy.specs.declared.values.Takes.TheVariants as takes
use Rattle.acl_policy.specs.declared.keywords.KeywordRow.{KeywordRow}
use Rattle.acl_policy.specs.declared.term_drafts.TermDraft.{TermDraft}
use Rattle.acl_policy.specs.Keywords.{entry, row_of}
use Rattle.acl_policy.specs.Terms.{has_stood, item_checked}
use Rattle.acl_policy.specs.Values.{all_values, form_fits, is_plain, is_value, one_value, some_values, takes_words, text_fits}
use Rattle.acl_policy.proofs.Outcomes.{Has, if_has, weaker}

-- The word is no string, keyword or brace.
abbrev pub IsPlainWord : Token → Type 0
IsPlainWord w = w.form ≡ forms.Plain

pub run_plain : (form : Form) (text : List ℕ) → form ≡ forms.Plain → IsRun form text → HasNoFeed text
run_plain form text is h = subst (λ f. IsRun f text) is h

plain_is : (form : Form) → is_plain form ≡ true → form ≡ forms.Plain
plain_is forms.Plain h = refl
plain_is _ h = cc

word_form : (kind : Takes) (form : Form) → takes_words kind ≡ true → form_fits kind form ≡ is_plain form
word_form takes.String form h = cc
word_form takes.Any form h = cc
word_form _ form h = refl

plain_word : (kind : Takes) (w : Token) → takes_words kind ≡ true → is_value kind w ≡ true → IsPlainWord w
plain_word kind w takes h =
    plain_is w.form (sym (word_form kind w.form takes) ∙ (and_parts (form_fits kind w.form) (text_fits kind w.text) h).0)

-- Any slip.
abbrev pub Anywhere : Slip → Type 0
Anywhere slip = Unit {0}

all_plain : (kind : Takes) (ws : List Token) → takes_words kind ≡ true
    → Has Anywhere (λ _. All IsPlainWord ws) (all_values kind ws)
all_plain kind [] takes = All-nil IsPlainWord
all_plain kind (w ∷ ws) takes = if_has Anywhere (λ _. All IsPlainWord (w ∷ ws)) (is_value kind w) _ _
    (λ c. weaker Anywhere (λ _. All IsPlainWord ws) (λ _. All IsPlainWord (w ∷ ws)) (all_values kind ws)
    (all_plain kind ws takes) (λ _ g. All-cons IsPlainWord w ws (plain_word kind w takes c) g))
    (λ _. tt)

some_plain : (kind : Takes) (k : Token) (ws : List Token) → takes_words kind ≡ true
    → Has Anywhere (λ _. All IsPlainWord ws) (some_values kind k ws)
some_plain kind k [] takes = tt
some_plain kind k (w ∷ ws) takes = all_plain kind (w ∷ ws) takes

one_plain : (kind : Takes) (k : Token) (ws : List Token) → takes_words kind ≡ true
    → Has Anywhere (λ _. All IsPlainWord ws) (one_value kind k ws)
one_plain kind k [] takes = tt
one_plain kind k (w ∷ []) takes = if_has Anywhere (λ _. All IsPlainWord (w ∷ [])) (is_value kind w) _ _
    (λ c. All-cons IsPlainWord w [] (plain_word kind w takes c) (All-nil IsPlainWord)) (λ _. tt)
one_plain kind k (w ∷ v ∷ ws) takes =
    if_has Anywhere (λ _. All IsPlainWord (w ∷ v ∷ ws)) (is_value kind w) _ _ (λ _. tt) (λ _. tt)

item_plain : (r : KeywordRow) (d : TermDraft) (k : Token) (ws : List Token) → takes_words r.takes ≡ true
    → Has Anywhere (λ _. All IsPlainWord ws) (item_checked r d k ws)
item_plain r d k ws takes = if_has Anywhere (λ _. All IsPlainWord ws) r.once _ _
    (λ _. if_has Anywhere (λ _. All IsPlainWord ws) (has_stood d r.keyword) _ _ (λ _. tt) (λ _. one_plain r.takes k ws takes))
    (λ _. some_plain r.takes k ws takes)

pub checked_plain : (r : KeywordRow) (d : TermDraft) (k : Token) (ws : List Token) → r ≡ row_of r.keyword
    → item_checked r d k ws ≡ Ok tt → takes_words (entry r.keyword).takes ≡ true → All IsPlainWord ws
checked_plain r d k ws is e takes = subst (Has Anywhere (λ _. All IsPlainWord ws)) e
    (item_plain r d k ws (ap (λ (x : KeywordRow). takes_words x.takes) is ∙ takes))
