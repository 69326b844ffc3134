-- What is wrong with naming files has a code that `aclgen` answers.
use Rattle.std.proofs.Common.{ℕ, ◌+◌, Bool, false, not, nat_le, is_some, List, [], ◌∷◌, ◌++◌, length, Option, None, Some, inl, inr, sym, subst}
use Rattle.std.specs.Option.{option_map_or}
use Rattle.acl_text.specs.AnsweredCodes.{EndsAnswered, IsAnswered}
use Rattle.acl_text.specs.Cursors.{lines_of, words_of}
use Rattle.acl_text.specs.Cuts.{cut_at}
use Rattle.acl_text.specs.Names.{is_name}
use Rattle.acl_text.specs.declared.faults.Place.{Place}
use Rattle.acl_text.specs.declared.faults.Slip.{Slip}
use Rattle.acl_text.proofs.AnsweredLaws.{either, steps_end}
use Rattle.acl_naming.specs.declared.item_words.NamingKind.{NamingKind}
use Rattle.acl_naming.specs.declared.naming_items.Item.{Item}
use Rattle.acl_naming.specs.declared.naming_items.Reference.{Reference}
use Rattle.acl_naming.specs.Checking.{IsCycleSlip, IsSlipBy, IsSlipOf, undefined_of}
use Rattle.acl_naming.specs.Definitions.{Definition, Naming, index_of, items_count}
use Rattle.acl_naming.specs.ItemWords.{item_in}
use Rattle.acl_naming.specs.NamingFiles.{TableOrSlip, bad_byte, file_added, item_added, item_put, items_added, line_added, lines_added, most, opens, split_added, trimmed, with_definition, with_items, without_comment}

abbrev Good : TableOrSlip → Type 0
Good o = EndsAnswered o

item_put_good : (place : Place) (ds : List Definition) (word : List ℕ) (o : Option Item) → Good (item_put place ds word o)
item_put_good place ds word None = tt
item_put_good place ds word (Some item) = either Good (nat_le most (items_count ds)) _ _ tt tt

item_good : (kind : NamingKind) (place : Place) (ds : List Definition) (word : List ℕ) → Good (item_added kind place ds word)
unfolding item_added
item_good kind place ds word = item_put_good place ds word (item_in kind place word)

items_good : (kind : NamingKind) (place : Place) (ds : List Definition) (words : List (List ℕ)) → Good (items_added kind place ds words)
items_good kind place ds [] = tt
items_good kind place ds (word ∷ words) = steps_end (item_added kind place ds word) (λ more. items_added kind place more words)
    (item_good kind place ds word) (λ more. items_good kind place more words)

definition_good : (kind : NamingKind) (place : Place) (ds : List Definition) (name rest : List ℕ) → Good (with_definition kind place ds name rest)
unfolding with_definition
definition_good kind place ds name rest = either Good (not (is_name name)) _ _ tt
    (either Good (is_some (index_of ds name)) _ _ tt
    (either Good (nat_le most (length ds)) _ _ tt
    (items_good kind place (ds ++ record { name = name; place = place; items = [] } ∷ []) (words_of rest))))

with_items_good : (kind : NamingKind) (place : Place) (is_open : Bool) (ds : List Definition) (words : List (List ℕ)) → Good (with_items kind place is_open ds words)
with_items_good kind place is_open ds [] = tt
with_items_good kind place is_open ds (word ∷ words) = either Good is_open _ _ (items_good kind place ds (word ∷ words)) tt

-- what is made of a part that is there, or else
map_or_good : {A : Type 0} (f : A → TableOrSlip) (o : Option A) (other : TableOrSlip) → ((x : A) → Good (f x)) → Good other → Good (option_map_or {U = TableOrSlip} f o other)
map_or_good f None other h k = k
map_or_good f (Some x) other h k = h x

split_good : (kind : NamingKind) (place : Place) (is_open : Bool) (ds : List Definition) (text : List ℕ) → Good (split_added kind place is_open ds text)
split_good kind place is_open ds text =
    map_or_good (λ (p : List ℕ × List ℕ). with_definition kind place ds (trimmed p.0) p.1) (cut_at 61 text) _
    (λ p. definition_good kind place ds (trimmed p.0) p.1) (with_items_good kind place is_open ds (words_of text))

line_good : (kind : NamingKind) (place : Place) (is_open : Bool) (ds : List Definition) (text : List ℕ) → Good (line_added kind place is_open ds text)
line_good kind place is_open ds text = map_or_good _ (bad_byte text) _ (λ _. tt) (split_good kind place is_open ds text)

lines_good : (kind : NamingKind) (file n : ℕ) (is_open : Bool) (ds : List Definition) (lines : List (List ℕ)) → Good (lines_added kind file n is_open ds lines)
lines_good kind file n is_open ds [] = tt
lines_good kind file n is_open ds (line ∷ lines) =
    steps_end (line_added kind (record { file = file; line = n }) is_open ds (without_comment line))
    (λ more. lines_added kind file (n + 1) (opens is_open (without_comment line)) more lines)
    (line_good kind (record { file = file; line = n }) is_open ds (without_comment line))
    (λ more. lines_good kind file (n + 1) (opens is_open (without_comment line)) more lines)

pub file_answered : (kind : NamingKind) (file : ℕ) (ds : List Definition) (bytes : List ℕ) → EndsAnswered (file_added kind file ds bytes)
unfolding file_added
file_answered kind file ds bytes = lines_good kind file 1 false ds (lines_of bytes)

cycle_answered : (base : List Definition) (s : Slip) → IsCycleSlip base s → IsAnswered s.code
cycle_answered base s h = subst (λ (x : Slip). IsAnswered x.code) (sym h.2) tt

by_answered : (o : Option Reference) (n : Naming) (s : Slip) → IsSlipBy o n s → IsAnswered s.code
by_answered (Some r) n s h = subst (λ (x : Slip). IsAnswered x.code) (sym h) tt
by_answered None n s (inl h) = cycle_answered n.networks s h
by_answered None n s (inr h) = cycle_answered n.services s h.1

pub names_answered : (n : Naming) (s : Slip) → IsSlipOf n s → IsAnswered s.code
names_answered n s h = by_answered (undefined_of n) n s h
