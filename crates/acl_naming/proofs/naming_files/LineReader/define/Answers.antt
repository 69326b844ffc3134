use Rattle.std.proofs.Common.{◌≡◌, ℕ, Bool, true, false, not, nat_le, IfNone, IfSome, is_some, if◌then◌else◌, List, [], ◌∷◌, ◌++◌, length, Err, refl, ap, sym, subst, ◌∙◌}
use Rattle.std.proofs.lemmas.Bool.{cond-false, cond-true}
use Rattle.acl_text.specs.declared.faults.Code.TheVariants as codes
use Rattle.acl_text.specs.declared.faults.Place.{Place}
use Rattle.acl_text.specs.Answers.{Leaves, slip_told}
use Rattle.acl_text.specs.Cursors.{words_of}
use Rattle.acl_text.specs.Names.{is_name}
use Rattle.acl_text.specs.Refusals.{IsRefusalBy, slip}
use Rattle.acl_naming.specs.declared.item_words.NamingKind.{NamingKind}
use Rattle.acl_naming.specs.Definitions.{Definition, index_of}
use Rattle.acl_naming.specs.Fronts.{shown}
use Rattle.acl_naming.specs.NamingFiles.{TableOrSlip, items_added, most, with_definition}
use Rattle.acl_naming.proofs.ReadLaws.{refuses_slip}
use Rattle.acl_naming.proofs.naming_files.LineReader.define.Goals as goal

module _ (kind : NamingKind) (place : Place) (ds : List Definition) (name rest : List ℕ) where
  unnamed : is_name name ≡ false → with_definition kind place ds name rest ≡ Err (slip codes.BadName place name)
  unfolding with_definition
  unnamed h = cond-true (not (is_name name)) _ _ (ap not h)

  full : is_name name ≡ true → nat_le most (length ds) ≡ true → with_definition kind place ds name rest
      ≡ Err (slip (if is_some (index_of ds name) then codes.Twice else codes.TooMany) place name)
  unfolding with_definition
  full h k = cond-false (not (is_name name)) _ _ (ap not h) ∙ by (is_some (index_of ds name)) _ k
    where
      by : (b : Bool) (o : TableOrSlip) → nat_le most (length ds) ≡ true
          → (if b then Err (slip codes.Twice place name)
          else if nat_le most (length ds) then Err (slip codes.TooMany place name) else o)
          ≡ Err (slip (if b then codes.Twice else codes.TooMany) place name)
      by true o k = refl
      by false o k = cond-true (nat_le most (length ds)) _ _ k

  twice : is_name name ≡ true → is_some (index_of ds name) ≡ true → with_definition kind place ds name rest
      ≡ Err (slip codes.Twice place name)
  unfolding with_definition
  twice h k = cond-false (not (is_name name)) _ _ (ap not h) ∙ cond-true (is_some (index_of ds name)) _ _ k

  defined : is_name name ≡ true → is_some (index_of ds name) ≡ false → nat_le most (length ds) ≡ false
      → with_definition kind place ds name rest
      ≡ items_added kind place (ds ++ record { name = name; place = place; items = [] } ∷ []) (words_of rest)
  unfolding with_definition
  defined h k l = cond-false (not (is_name name)) _ _ (ap not h) ∙ cond-false (is_some (index_of ds name)) _ _ k
      ∙ cond-false (nat_le most (length ds)) _ _ l

is_not : (b c : Bool) → c ≡ not b → (added : Bool) → c ≡ added → b ≡ not added
is_not true c e added f = ap not (sym e ∙ f)
is_not false c e added f = ap not (sym e ∙ f)

-- whether a definition has the name that was read
told_of : (ds : List Definition) (text name : List ℕ) (added new : Bool) → text ≡ name → added ≡ not (is_some (index_of ds text)) → added ≡ new
    → is_some (index_of ds name) ≡ not new
told_of ds text name added new same told e =
    is_not (is_some (index_of ds name)) added (told ∙ ap (λ n. not (is_some (index_of ds n))) same) new e

pub returns-in_default-clause-gives : goal.returns-in_default-clause-gives
returns-in_default-clause-gives c =
    let a = c.args in
    refuses_slip (slip codes.BadName a.self.place (shown a.name)) c.refusal.result _
    (subst (λ (n : List ℕ). IsRefusalBy (slip codes.BadName a.self.place n) c.refusal.result) c.as_slice.ensures c.refusal.ensures)
    (unnamed a.self.kind a.self.place a.table.now (shown a.name) (shown a.rest) (subst (λ o. IfNone o (is_name (shown a.name) ≡ false)) c.in_default.is c.in_ok-text.ensures.none))

pub returns-then-is_full-clause-gives : goal.returns-then-is_full-clause-gives
returns-then-is_full-clause-gives c =
    let a = c.args in
    let read = subst (λ o. IfSome o (λ n. (n ≡ (shown a.name)) × (is_name (shown a.name) ≡ true))) c.in-Some.is c.in_ok-text.ensures.some in
    refuses_slip _ c.no_room.result _
    (subst (λ (n : List ℕ). IsRefusalBy (slip (if is_some (index_of a.table.now n) then codes.Twice else codes.TooMany) a.self.place n) c.no_room.result)
    c.as_slice-then-is_full.ensures c.no_room.ensures)
    (full a.self.kind a.self.place a.table.now (shown a.name) (shown a.rest) read.1 (sym c.is_full.ensures ∙ c.if-is_full.true))

pub returns-then-not-branch-clause-gives : goal.returns-then-not-branch-clause-gives
returns-then-not-branch-clause-gives c =
    let a = c.args in
    let read = subst (λ o. IfSome o (λ n. (n ≡ (shown a.name)) × (is_name (shown a.name) ≡ true))) c.in-Some.is c.in_ok-text.ensures.some in
    refuses_slip (slip codes.Twice a.self.place (shown a.name)) c.refusal-then-not-branch.result _
    (subst (λ (n : List ℕ). IsRefusalBy (slip codes.Twice a.self.place n) c.refusal-then-not-branch.result) c.as_slice-then-not-branch.ensures
    c.refusal-then-not-branch.ensures)
    (twice a.self.kind a.self.place a.table.now (shown a.name) (shown a.rest) read.1
    (told_of a.table.now c.in-Some.text (shown a.name) _ false read.0 c.in_ok-add.ensures.told c.if-not-branch.true))

pub returns-clause-gives : goal.returns-clause-gives
returns-clause-gives c =
    let a = c.args in
    let read = subst (λ o. IfSome o (λ n. (n ≡ (shown a.name)) × (is_name (shown a.name) ≡ true))) c.in-Some.is c.in_ok-text.ensures.some in
    subst (λ o. Leaves slip_told c.add_items.new.table c.add_items.result o)
    (ap (λ ds. items_added a.self.kind a.self.place ds (words_of (shown a.rest))) (c.in_ok-add.ensures.added c.if-not-branch.false
    ∙ ap (λ (n : List ℕ). a.table.now ++ record { name = n; place = a.self.place; items = [] } ∷ []) read.0)
    ∙ sym (defined a.self.kind a.self.place a.table.now (shown a.name) (shown a.rest) read.1
    (told_of a.table.now c.in-Some.text (shown a.name) _ true read.0 c.in_ok-add.ensures.told c.if-not-branch.false)
    (sym c.is_full.ensures ∙ c.if-is_full.false)))
    c.add_items.ensures.gives
