-- A term's `from` part is there where it has a condition, and a condition where it has a value.
use Rattle.std.proofs.Common.{◌≡◌, ℕ, true, false, List, [], ◌∷◌, ◌++◌, map, codes, refl, sym}
use Rattle.std.proofs.lemmas.Bool.{false≢true}
use Rattle.std.specs.Fmt.{decimal}
use Rattle.acl_packet.specs.declared.addresses.Family.{Family}
use Rattle.acl_packet.specs.declared.addresses.Prefix.{Prefix}
use Rattle.acl_rows.specs.RuleParts.{is_empty}
use Rattle.junos_lang.specs.declared.documents.JTerm.{JTerm}
use Rattle.acl_rows.specs.Rows.{Row, row}
use Rattle.acl_rows.specs.declared.rule_parts.End.{End}
use Rattle.junos_lang.specs.declared.conditions.Condition.{Condition}
use Rattle.junos_lang.specs.Texts.{address_rows, closing, condition_rows, from_rows, list_row, list_rows, range_word}
use Rattle.junos_lang.specs.ConditionSteps.{value_rows}

pub no_addresses : (s : End) (ps : List Prefix) → is_empty (address_rows s ps) ≡ is_empty ps
unfolding address_rows
no_addresses s [] = refl
no_addresses s (p ∷ ps) = refl

pub no_values : (c : Condition) (values : List (List ℕ)) → is_empty (list_rows c values) ≡ is_empty values
unfolding list_rows
no_values c [] = refl
no_values c (v ∷ values) = refl

pub no_list : (c : Condition) (values : List (List ℕ)) → is_empty values ≡ true → [] ≡ list_rows c values
unfolding list_rows
no_list c [] h = refl
no_list c (v ∷ values) h = absurd (false≢true h)

pub a_list : (c : Condition) (values : List (List ℕ)) → is_empty values ≡ false → list_row c values ∷ [] ≡ list_rows c values
unfolding list_rows
a_list c [] h = absurd (false≢true (sym h))
a_list c (v ∷ values) h = refl

pub no_block : (rows : List Row) → is_empty rows ≡ true → [] ≡ from_rows rows
unfolding from_rows
no_block [] h = refl
no_block (r ∷ rows) h = absurd (false≢true h)

pub a_block : (rows : List Row) → is_empty rows ≡ false → row 16 (codes "from" ∷ codes "{" ∷ []) ∷ (rows ++ closing 16 ∷ []) ≡ from_rows rows
unfolding from_rows
a_block [] h = absurd (false≢true (sym h))
a_block (r ∷ rows) h = refl

pub conditions_are : (f : Family) (t : JTerm)
    → value_rows f t.src t.dst (map decimal t.protos) (map range_word t.sports) (map range_word t.dports) (map decimal t.itypes) (map decimal t.icodes) t.test
    ≡ condition_rows f t
unfolding condition_rows
conditions_are f t = refl

-- rows that end with some are some
pub ends_with_some : (rows more : List Row) → is_empty more ≡ false → is_empty (rows ++ more) ≡ false
ends_with_some [] more some = some
ends_with_some (r ∷ rows) more some = refl
