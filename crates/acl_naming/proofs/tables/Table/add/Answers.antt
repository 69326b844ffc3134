use Rattle.std.proofs.Common.{◌≡◌, ℕ, Bool, true, false, not, List, [], ◌∷◌, ◌++◌, length, is_some, inl, inr, ap, sym, subst, ◌∙◌}
use Rattle.std.specs.Str.{bytes_eq}
use Rattle.std.proofs.lemmas.Bool.{cases_Bool}
use Rattle.indexmap.specs.IndexMap.{IndexMap, get, insert_entry}
use Rattle.indexmap.proofs.CallerLemmas.{insert_entry-new}
use Rattle.indexmap.proofs.MapLemmas.{some_index}
use Rattle.acl_naming.specs.declared.naming_items.Item.{Item}
use Rattle.acl_naming.specs.declared.tables.TableEntry.{TableEntry}
use Rattle.acl_naming.specs.Definitions.{Definition, index_of}
use Rattle.acl_naming.specs.TableViewSteps.{AreLaid, Kept, definitions_of}
use Rattle.acl_naming.proofs.TableLaws.{index_keys, laid_more, none_found, one_laid}
use Rattle.acl_naming.proofs.tables.Table.add.Goals as goal

not_true : (b : Bool) → not b ≡ true → b ≡ false
not_true true h = sym h
not_true false h = cc

-- a key is found where a definition has its name
found_same : {S : Type 0} (kept : IndexMap (List ℕ) TableEntry S) (items : List Item) (table : List Definition) (name : List ℕ)
    → definitions_of kept.entries items ≡ table → is_some (get bytes_eq kept name) ≡ is_some (index_of table name)
found_same kept items table name is =
    sym (some_index (bytes_eq name) kept.entries)
    ∙ ap is_some (index_keys name kept.entries items ∙ ap (λ (ds : List Definition). index_of ds name) is)

-- an entry of a name that is in no other stands behind them
with_new : {S : Type 0} (kept : IndexMap (List ℕ) TableEntry S) (name : List ℕ) (entry : TableEntry) (after : List Kept)
    → not (is_some (get bytes_eq kept name)) ≡ true → after ≡ insert_entry bytes_eq kept.entries name entry
    → after ≡ kept.entries ++ (name, entry) ∷ []
with_new kept name entry after new grown =
    grown ∙ insert_entry-new bytes_eq kept name entry (none_found (get bytes_eq kept name) (not_true (is_some (get bytes_eq kept name)) new))

pub invariant_of-self : goal.invariant_of-self
invariant_of-self c =
    subst (λ (es : List Kept). AreLaid es c.self.inside.items) (sym c.in_err-is_new.ensures.err) c.self.invariant

pub invariant_of-self-2 : goal.invariant_of-self-2
invariant_of-self-2 c =
    let kept = c.self.inside.kept in
    let items = c.self.inside.items in
    let entry : TableEntry = record { place = c.args.place; from = length c.as_slice-from.result.now } in
    elim (cases_Bool c.in_ok-is_new.is_new) [
      | inl t ↦ let grown = with_new kept c.args.name entry c.enter.new.kept.entries (sym c.in_ok-is_new.ensures.told ∙ t) (c.in_ok-is_new.ensures.added t) in
          laid_more kept.entries c.enter.new.kept.entries (c.args.name, entry) items grown (ap (λ (t : List Item). length t) c.as_slice-from.ensures) c.self.invariant
      | inr f ↦ subst (λ (es : List Kept). AreLaid es items) (sym (c.in_ok-is_new.ensures.same f)) c.self.invariant
    ]

pub returns-clause-told : goal.returns-clause-told
returns-clause-told c = c.in_ok-is_new.ensures.told ∙ ap not (found_same c.self.inside.kept c.self.inside.items c.args.self.now c.args.name c.self.view_is)

pub returns-clause-added : goal.returns-clause-added
returns-clause-added c = λ t.
    let kept = c.self.inside.kept in
    let items = c.self.inside.items in
    let entry : TableEntry = record { place = c.args.place; from = length c.as_slice-from.result.now } in
    let grown = with_new kept c.args.name entry c.enter.new.kept.entries (sym c.in_ok-is_new.ensures.told ∙ t) (c.in_ok-is_new.ensures.added t) in
    ap (λ (es : List Kept). definitions_of es items) grown
    ∙ one_laid kept.entries (c.args.name, entry) items (ap (λ (t : List Item). length t) c.as_slice-from.ensures)
    ∙ ap (λ (ds : List Definition). ds ++ record { name = c.args.name; place = c.args.place; items = [] } ∷ []) c.self.view_is
