-- Ports lie in order: a naming file of services keeps this, and a name that reaches ports so reaches some port.
use Rattle.std.proofs.Common.{◌≡◌, ℕ, zero, suc, ◌+◌, ◌≤◌, Bool, true, false, not, ◌&&◌, ◌==◌, nat_le, if◌then◌else◌, List, [], ◌∷◌, ◌++◌, length, is_some, Option, None, Some, Ok, Err, IfOk, option_map, inl, inr, refl, ap, sym, subst, ◌∙◌, arith}
use Rattle.std.specs.List.{All, list_any}
use Rattle.std.specs.Option.{option_map_or}
use Rattle.std.proofs.lemmas.Bool.{and_from, false≢true, or_cases, or_left, or_right}
use Rattle.std.proofs.lemmas.List.Elements.{All-cons, All-head, All-nil, All-push, All-tail}
use Rattle.std.proofs.lemmas.Option.{none-some}
use Rattle.acl_packet.specs.NumberWords.{protocol_in}
use Rattle.acl_text.specs.declared.faults.Place.{Place}
use Rattle.acl_text.specs.Cursors.{lines_of, words_of}
use Rattle.acl_text.specs.Cuts.{cut_at, has_byte}
use Rattle.acl_text.specs.Names.{is_name}
use Rattle.acl_text.specs.PortRanges.{ports_in}
use Rattle.acl_text.specs.Steps.{◌>>=◌}
use Rattle.acl_text.proofs.OptionStepLaws.{bound, by_Some, mapped}
use Rattle.acl_text.proofs.PortLaws.{ports_some}
use Rattle.acl_sets.specs.Ranges.{holds}
use Rattle.acl_sets.proofs.RangeLaws.{in_range}
use Rattle.acl_naming.specs.declared.item_words.NamingKind.TheVariants.{Services}
use Rattle.acl_naming.specs.declared.naming_items.Item.{Item}
use Rattle.acl_naming.specs.declared.naming_items.Item.TheVariants.{Name, Network, Service}
use Rattle.acl_naming.specs.Definitions.{Definition, index_of, items_at, items_count, items_in, items_of}
use Rattle.acl_naming.specs.ItemWords.{item_in, name_in, service_in, service_ports_in}
use Rattle.acl_naming.specs.NamingFiles.{TableOrSlip, bad_byte, file_added, item_added, item_put, items_added, line_added, lines_added, most, opens, split_added, trimmed, with_definition, with_items, without_comment}
use Rattle.acl_naming.specs.PortLaws.{AreInOrder, IsInOrder, OrderedPortsAreSome, PortOrderIsKept, PortsAreOrdered}
use Rattle.acl_naming.specs.Ports.{Ports, has_port, top_port}
use Rattle.acl_naming.specs.Reach.{holds_port, is_service_of}
use Rattle.acl_naming.specs.Tables.{with_item}
use Rattle.acl_naming.proofs.ComputedReachLaws.{ports_computed}

-- ---- the words of items

ports-ordered : (word : List ℕ) (p : Ports) → service_ports_in word ≡ Some p → AreInOrder p
unfolding service_ports_in
ports-ordered word p e =
    let halves = bound (cut_at 47 word) _ p e in
    let ends = bound (ports_in 45 halves.0.0) _ p halves.2 in
    let proto = bound (protocol_in halves.0.1) _ p ends.2 in
    let is = ports_some 45 halves.0.0 (Some ends.0) (sym ends.1) in
    by_Some AreInOrder (record { proto = proto.0; low = ends.0.0; high = ends.0.1 }) p proto.2
    (record { ordered = is.ordered; fit = omega (arith, is.fit) })

name-ordered : (place : Place) (word : List ℕ) (item : Item) → name_in place word ≡ Some item → IsInOrder item
name-ordered place word item = by (is_name word)
  where
    named : Item
    named = Name (record { place = place; name = word })

    by : (b : Bool) → (if b then Some named else None) ≡ Some item → IsInOrder item
    by true e = by_Some IsInOrder named item e tt
    by false e = absurd (none-some item e)

item-ordered : (place : Place) (word : List ℕ) (item : Item) → item_in Services place word ≡ Some item → IsInOrder item
unfolding item_in service_in
item-ordered place word item = by (has_byte 47 word)
  where
    by : (b : Bool) → (if b then option_map Service (service_ports_in word) else name_in place word) ≡ Some item → IsInOrder item
    by true e = let p = mapped Service (service_ports_in word) item e in subst IsInOrder p.2 (ports-ordered word p.0 p.1)
    by false e = name-ordered place word item e

-- ---- outcomes

-- Where definitions come out, their ports lie in order.
abbrev Kept : TableOrSlip → Type 0
Kept r = IfOk r PortsAreOrdered

behind : (r : TableOrSlip) (next : List Definition → TableOrSlip) → Kept r → ((ds : List Definition) → PortsAreOrdered ds → Kept (next ds))
    → Kept (r >>= next)
behind (Ok ds) next h more = more ds h
behind (Err s) next h more = tt

chosen : (b : Bool) (x y : TableOrSlip) → Kept x → Kept y → Kept (if b then x else y)
chosen true x y h k = h
chosen false x y h k = k

mapped-or : {A : Type 0} (o : Option A) (f : A → TableOrSlip) (x : TableOrSlip) → ((a : A) → Kept (f a)) → Kept x
    → Kept (option_map_or {U = TableOrSlip} f o x)
mapped-or None f x h k = k
mapped-or (Some a) f x h k = h a

-- ---- the lines of a file

item-kept : (ds : List Definition) (item : Item) → PortsAreOrdered ds → IsInOrder item → PortsAreOrdered (with_item ds item)
item-kept [] item h i = h
item-kept (d ∷ []) item h i =
    let P : Definition → Type 0 = λ d. All IsInOrder d.items in
    All-cons P (record { name = d.name; place = d.place; items = d.items ++ item ∷ [] }) []
    (All-push IsInOrder d.items item (All-head P d [] h) i) (All-nil P)
item-kept (d ∷ e ∷ ds) item h i =
    let P : Definition → Type 0 = λ d. All IsInOrder d.items in
    All-cons P d (with_item (e ∷ ds) item) (All-head P d (e ∷ ds) h) (item-kept (e ∷ ds) item (All-tail P d (e ∷ ds) h) i)

put-kept : (place : Place) (ds : List Definition) (word : List ℕ) (o : Option Item) → ((item : Item) → o ≡ Some item → IsInOrder item)
    → PortsAreOrdered ds → Kept (item_put place ds word o)
put-kept place ds word None fits h = tt
put-kept place ds word (Some item) fits h = chosen (nat_le most (items_count ds)) _ _ tt (item-kept ds item h (fits item refl))

word-kept : (place : Place) (ds : List Definition) (word : List ℕ) → PortsAreOrdered ds → Kept (item_added Services place ds word)
unfolding item_added
word-kept place ds word h = put-kept place ds word (item_in Services place word) (item-ordered place word) h

words-kept : (place : Place) (ds : List Definition) (words : List (List ℕ)) → PortsAreOrdered ds → Kept (items_added Services place ds words)
words-kept place ds [] h = h
words-kept place ds (word ∷ words) h =
    behind (item_added Services place ds word) _ (word-kept place ds word h) (λ more k. words-kept place more words k)

definition-kept : (place : Place) (ds : List Definition) (name rest : List ℕ) → PortsAreOrdered ds
    → Kept (with_definition Services place ds name rest)
unfolding with_definition
definition-kept place ds name rest h =
    let new : Definition = record { name = name; place = place; items = [] } in
    chosen (not (is_name name)) _ _ tt (chosen (is_some (index_of ds name)) _ _ tt (chosen (nat_le most (length ds)) _ _ tt
    (words-kept place (ds ++ new ∷ []) (words_of rest)
    (All-push (λ (d : Definition). All IsInOrder d.items) ds new h (All-nil IsInOrder)))))

more-kept : (place : Place) (is_open : Bool) (ds : List Definition) (words : List (List ℕ)) → PortsAreOrdered ds
    → Kept (with_items Services place is_open ds words)
more-kept place is_open ds [] h = h
more-kept place is_open ds (word ∷ words) h = chosen is_open _ _ (words-kept place ds (word ∷ words) h) tt

split-kept : (place : Place) (is_open : Bool) (ds : List Definition) (text : List ℕ) → PortsAreOrdered ds
    → Kept (split_added Services place is_open ds text)
split-kept place is_open ds text h =
    mapped-or (cut_at 61 text) _ _ (λ p. definition-kept place ds (trimmed p.0) p.1 h) (more-kept place is_open ds (words_of text) h)

line-kept : (place : Place) (is_open : Bool) (ds : List Definition) (text : List ℕ) → PortsAreOrdered ds
    → Kept (line_added Services place is_open ds text)
line-kept place is_open ds text h = mapped-or (bad_byte text) _ _ (λ b. tt) (split-kept place is_open ds text h)

lines-kept : (file n : ℕ) (is_open : Bool) (ds : List Definition) (lines : List (List ℕ)) → PortsAreOrdered ds
    → Kept (lines_added Services file n is_open ds lines)
lines-kept file n is_open ds [] h = h
lines-kept file n is_open ds (line ∷ lines) h =
    behind (line_added Services (record { file = file; line = n }) is_open ds (without_comment line)) _
    (line-kept (record { file = file; line = n }) is_open ds (without_comment line) h)
    (λ more k. lines-kept file (n + 1) (opens is_open (without_comment line)) more lines k)

pub order-kept : PortOrderIsKept
unfolding file_added
order-kept file old bytes h = lines-kept file 1 false old (lines_of bytes) h

-- ---- what a name reaches

at-ordered : (ds : List Definition) (i : ℕ) → PortsAreOrdered ds → All IsInOrder (items_at ds i)
at-ordered [] i h = All-nil IsInOrder
at-ordered (d ∷ ds) zero h = All-head (λ (d : Definition). All IsInOrder d.items) d ds h
at-ordered (d ∷ ds) (suc i) h = at-ordered ds i (All-tail (λ (d : Definition). All IsInOrder d.items) d ds h)

in-ordered : (ds : List Definition) (o : Option ℕ) → PortsAreOrdered ds → All IsInOrder (items_in ds o)
in-ordered ds None h = All-nil IsInOrder
in-ordered ds (Some i) h = at-ordered ds i h

-- The low end of an item is a port that it holds.
port-held : (q : ℕ) (items : List Item) → All IsInOrder items → list_any (is_service_of q) items ≡ true
    → (x : ℕ) × (x ≤ top_port) × (list_any (holds_port q x) items ≡ true)
port-held q [] h e = absurd (false≢true e)
port-held q (Name r ∷ items) h e = port-held q items (All-tail IsInOrder (Name r) items h) e
port-held q (Network p ∷ items) h e = port-held q items (All-tail IsInOrder (Network p) items h) e
port-held q (Service p ∷ items) h e =
    elim (or_cases (q == p.proto) (list_any (is_service_of q) items) e) [
      | inl a ↦ let is : AreInOrder p = All-head IsInOrder (Service p) items h in
          let has : has_port p p.low ≡ true = in_range p.low p.high p.low (omega arith) is.ordered in (
            p.low,
            omega (arith, is.ordered, is.fit),
            or_left (q == p.proto && has_port p p.low) (list_any (holds_port q p.low) items)
                (and_from (q == p.proto) (has_port p p.low) a has),
          )
      | inr b ↦ let r = port-held q items (All-tail IsInOrder (Service p) items h) b in
          (r.0, r.1, or_right (q == p.proto && has_port p r.0) (list_any (holds_port q r.0) items) r.2)
    ]

pub ordered-some : OrderedPortsAreSome
ordered-some services h q name r =
    let port = port-held q (items_of services r.1) (in-ordered services (index_of services r.1) h) r.4 in
    let held = ((ports_computed services q name).1 port.0 port.1).1 (r.0, r.1, r.2, r.3, port.2) in
    λ none. false≢true (sym (ap (λ rs. holds rs port.0) none) ∙ held)
