-- The rows of the table of keywords, as they are found by their texts.
use Rattle.std.proofs.Common.{◌≡◌, ℕ, List, [], ◌∷◌, map, Option, None, Some, IfSome, Result, Ok, Err, IfOk, refl}
use Rattle.std.specs.Str.{bytes_eq}
use Rattle.std.proofs.lemmas.Slice.Eq.{bytes_eq-Decides}
use Rattle.acl_text.specs.declared.faults.Slip.{Slip}
use Rattle.acl_words.specs.Tokens.{Token}
use Rattle.acl_policy.specs.declared.keywords.Keyword.{Keyword}
use Rattle.acl_policy.specs.declared.keywords.Keyword.TheVariants as keywords
use Rattle.acl_policy.specs.declared.keywords.KeywordRow.{KeywordRow}
use Rattle.acl_policy.specs.declared.term_drafts.TermDraft.{TermDraft}
use Rattle.acl_policy.specs.Keywords.{all_keywords, entry, line, row_in, row_named, row_of}
use Rattle.acl_policy.specs.Terms.{item_behind, row_behind, draft_behind}
use Rattle.acl_policy.proofs.Outcomes.{some_if, weaker_some}

-- The row is that of its keyword, which is written so.
pub record IsRowOf (text : List ℕ) (r : KeywordRow) : Type 0 where
  pub row_is : r ≡ row_of r.keyword
  pub text_is : text ≡ (entry r.keyword).text

rows_are : (ks : List Keyword) (text : List ℕ) → IfSome (row_in (map line ks) text) (IsRowOf text)
rows_are [] text = tt
rows_are (k ∷ ks) text = some_if (IsRowOf text) (bytes_eq text (entry k).text) _ _
    (λ c. record { row_is = refl; text_is = (bytes_eq-Decides text (entry k).text).0 c })
    (λ _. rows_are ks text)

pub row_is_of : (text : List ℕ) → IfSome (row_named text) (IsRowOf text)
unfolding row_named
row_is_of text = rows_are all_keywords text

pub named_row : (text : List ℕ) → IfSome (row_named text) (λ r. r ≡ row_of r.keyword)
named_row text = weaker_some (IsRowOf text) (λ r. r ≡ row_of r.keyword) (row_named text) (row_is_of text) (λ r h. h.row_is)

pub row_found : (key : Keyword) → row_named (entry key).text ≡ Some (row_of key)
unfolding row_named
row_found keywords.Comment = refl
row_found _ = refl

-- A keyword that a term takes is one of the table.
abbrev pub IsKeyword : List ℕ → Type 0
IsKeyword text = (key : Keyword) × (text ≡ (entry key).text)

row_known : (o : Option KeywordRow) (d : TermDraft) (k : Token) (ws : List Token) → IfSome o (IsRowOf k.text)
    → IfOk (row_behind o d k ws) (λ _. IsKeyword k.text)
row_known None d k ws h = tt
row_known (Some r) d k ws h = always_known (item_behind r d k ws)
  where
    always_known : (x : Result TermDraft Slip) → IfOk x (λ _. IsKeyword k.text)
    always_known (Ok e) = (r.keyword, h.text_is)
    always_known (Err e) = tt

pub keyword_known : (d : TermDraft) (k : Token) (ws : List Token) → IfOk (draft_behind d k ws) (λ _. IsKeyword k.text)
unfolding draft_behind
keyword_known d k ws = row_known (row_named k.text) d k ws (row_is_of k.text)
