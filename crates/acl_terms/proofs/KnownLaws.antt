-- Addresses depend on the texts of words alone; what is known is found again, and more of it is kept.
use Rattle.std.proofs.Common.{◌≡◌, ◌≢◌, ℕ, Bool, true, false, ◌&&◌, List, [], ◌∷◌, Option, None, Some, length, drop, get_or, inl, inr, refl, ap, sym, subst, ◌∙◌, arith}
use Rattle.std.specs.Map.{lookup}
use Rattle.std.specs.Option.{option_or}
use Rattle.std.specs.Str.{bytes_eq}
use Rattle.std.proofs.lemmas.Bool.{and_parts, cond-false, cond-true, le-leb}
use Rattle.std.proofs.lemmas.Option.{none-some, same_Some}
use Rattle.indexmap.specs.IndexMap.{insert_entry}
use Rattle.acl_packet.specs.Addresses.{top_address}
use Rattle.acl_packet.specs.declared.addresses.Family.{Family}
use Rattle.acl_packet.specs.declared.addresses.Family.TheVariants.{V4, V6}
use Rattle.acl_packet.proofs.ChoiceLaws.{chosen}
use Rattle.acl_sets.specs.Ranges.{Numbers}
use Rattle.acl_text.specs.Cursors.{lines_of}
use Rattle.acl_text.specs.Refusals.{first_in}
use Rattle.acl_text.specs.declared.faults.Slip.{Slip}
use Rattle.acl_text.proofs.OptionStepLaws.{same_bytes}
use Rattle.acl_words.specs.declared.word_lists.Word.{Word}
use Rattle.acl_naming.specs.Definitions.{Naming}
use Rattle.acl_naming.specs.Reach.{ReachesAddress}
use Rattle.acl_terms.specs.declared.addresses.Addresses.{Addresses}
use Rattle.acl_text.specs.declared.text_keys.TextKey.{TextKey}
use Rattle.acl_terms.specs.KnownAddresses.{AreAddresses, AreKnown, AreKnownFor, texts}
use Rattle.acl_terms.specs.Matching.{Admits, AnyOf, IsAddress, IsNamedAddress, NamesAddress}
use Rattle.acl_terms.specs.RangeSteps.{HoldsAll}
use Rattle.acl_terms.specs.Sets.{IsSetOf}
use Rattle.acl_terms.specs.Slips.{network_slip}
use Rattle.acl_terms.proofs.DistinctLaws.{AsksText, asks-network}
use Rattle.acl_terms.proofs.SetLaws.{same-set}
use Rattle.acl_terms.proofs.WordLaws.{parts}

-- ---- words of the same texts

to-texts : (Q : List ℕ → Type 0) (ws : List Word) → AnyOf (λ w. Q w.text) ws → AnyOf Q (texts ws)
to-texts Q [] a = a
to-texts Q (w ∷ ws) (inl q) = inl q
to-texts Q (w ∷ ws) (inr r) = inr (to-texts Q ws r)

from-texts : (Q : List ℕ → Type 0) (ws : List Word) → AnyOf Q (texts ws) → AnyOf (λ w. Q w.text) ws
from-texts Q [] a = a
from-texts Q (w ∷ ws) (inl q) = inl q
from-texts Q (w ∷ ws) (inr r) = inr (from-texts Q ws r)

any-same : (Q : List ℕ → Type 0) (vs ws : List Word) → texts vs ≡ texts ws → AnyOf (λ v. Q v.text) vs
    → AnyOf (λ w. Q w.text) ws
any-same Q vs ws is a = from-texts Q ws (subst (AnyOf Q) is (to-texts Q vs a))

admits-same : (Q : List ℕ → Type 0) (vs ws : List Word) → texts vs ≡ texts ws → Admits (λ v. Q v.text) vs
    → Admits (λ w. Q w.text) ws
admits-same Q [] [] is a = tt
admits-same Q [] (w ∷ ws) is a = absurd (omega (arith, ap length is))
admits-same Q (v ∷ vs) [] is a = tt
admits-same Q (v ∷ vs) (w ∷ ws) is a = any-same Q (v ∷ vs) (w ∷ ws) is a

pub none-both : {X : Type 0} (a b : Option X) → a ≡ None → b ≡ None → option_or a b ≡ None
none-both a b e f = ap (λ o. option_or o b) e ∙ f

slip-same : (question : Word → Option Slip) → AsksText question → (vs ws : List Word) → texts vs ≡ texts ws
    → first_in question vs ≡ None → first_in question ws ≡ None
slip-same question only vs [] is h = refl
slip-same question only [] (w ∷ ws) is h = absurd (omega (arith, ap length is))
slip-same question only (v ∷ vs) (w ∷ ws) is h =
    let p = parts (question v) (first_in question vs) h in
    none-both (question w) (first_in question ws) (only v w (ap (λ l. get_or l 0 []) is) p.0)
    (slip-same question only vs ws (ap (drop 1) is) p.1)

address-same : (n : Naming) (f : Family) (vs es ws ds : List Word) (x : ℕ) → texts vs ≡ texts ws → texts es ≡ texts ds
    → IsAddress n f vs es x → IsAddress n f ws ds x
address-same n f vs es ws ds x is less h =
    let Q : List ℕ → Type 0 = λ text. ReachesAddress n.networks text f x in
    (admits-same Q vs ws is h.0, λ a. h.1 (any-same Q ds es (sym less) a))

set-same : (n : Naming) (f : Family) (vs es ws ds : List Word) (s : Numbers) → texts vs ≡ texts ws → texts es ≡ texts ds
    → IsSetOf (IsAddress n f vs es) (top_address f) s → IsSetOf (IsAddress n f ws ds) (top_address f) s
set-same n f vs es ws ds s is less h =
    same-set (IsAddress n f vs es) (IsAddress n f ws ds) (top_address f) s
    (λ x. (address-same n f vs es ws ds x is less, address-same n f ws ds vs es x (sym is) (sym less))) h

addresses-same : (n : Naming) (vs es ws ds : List Word) (a : Addresses) → texts vs ≡ texts ws → texts es ≡ texts ds
    → AreAddresses n vs es a → AreAddresses n ws ds a
addresses-same n vs es ws ds a is less h =
    let question : Word → Option Slip = network_slip n.networks in
    let p = parts (first_in question vs) (first_in question es) h.are_defined in
    record {
      are_defined = none-both (first_in question ws) (first_in question ds)
          (slip-same question (asks-network n.networks) vs ws is p.0)
          (slip-same question (asks-network n.networks) es ds less p.1);
      ipv4 = set-same n V4 vs es ws ds a.v4 is less h.ipv4;
      ipv6 = set-same n V6 vs es ws ds a.v6 is less h.ipv6;
    }

-- The addresses of words are known for all words of the same texts.
pub known-for : (n : Naming) (named excluded : List ℕ) (words excludes : List Word) (a : Addresses)
    → lines_of named ≡ texts words → lines_of excluded ≡ texts excludes → AreAddresses n words excludes a
    → AreKnownFor n named excluded a
known-for n named excluded words excludes a e f h =
    λ ws ds is less. addresses-same n words excludes ws ds a (sym e ∙ is) (sym f ∙ less) h

named-only : (n : Naming) (f : Family) (words : List Word) (s : Numbers)
    → IsSetOf (IsAddress n f words []) (top_address f) s → IsSetOf (IsNamedAddress n f words) (top_address f) s
named-only n f words s h =
    same-set (IsAddress n f words []) (IsNamedAddress n f words) (top_address f) s (λ x. (λ p. p.0, λ p. (p, λ a. a))) h

only-named : (n : Naming) (f : Family) (words : List Word) (s : Numbers)
    → IsSetOf (IsNamedAddress n f words) (top_address f) s → IsSetOf (IsAddress n f words []) (top_address f) s
only-named n f words s h =
    same-set (IsNamedAddress n f words) (IsAddress n f words []) (top_address f) s (λ x. (λ p. (p, λ a. a), λ p. p.0)) h

-- Where nothing is excluded, the addresses are those that the words name.
pub of-named : (n : Naming) (words : List Word) (a : Addresses) → AreAddresses n words [] a
    → (first_in (network_slip n.networks) words ≡ None)
    × IsSetOf (IsNamedAddress n V4 words) (top_address V4) a.v4
    × IsSetOf (IsNamedAddress n V6 words) (top_address V6) a.v6
of-named n words a h = (
  (parts (first_in (network_slip n.networks) words) None h.are_defined).0,
  named-only n V4 words a.v4 h.ipv4,
  named-only n V6 words a.v6 h.ipv6,
)

pub as-named : (n : Naming) (words : List Word) (a : Addresses) → first_in (network_slip n.networks) words ≡ None
    → IsSetOf (IsNamedAddress n V4 words) (top_address V4) a.v4
    → IsSetOf (IsNamedAddress n V6 words) (top_address V6) a.v6 → AreAddresses n words [] a
as-named n words a none four six = record {
  are_defined = none-both (first_in (network_slip n.networks) words) None none refl;
  ipv4 = only-named n V4 words a.v4 four;
  ipv6 = only-named n V6 words a.v6 six;
}

-- The addresses of some words, where any are written, and all where none are.
pub written-named : (n : Naming) (f : Family) (words : List Word) (s : Numbers) → words ≢ []
    → IsSetOf (λ x. AnyOf (NamesAddress n f x) words) (top_address f) s → IsSetOf (IsNamedAddress n f words) (top_address f) s
written-named n f [] s some h = absurd (some refl)
written-named n f (w ∷ ws) s some h = h

pub all-named : (n : Naming) (f : Family) (words : List Word) (s : Numbers) → words ≡ [] → HoldsAll (top_address f) s
    → IsSetOf (IsNamedAddress n f words) (top_address f) s
all-named n f [] s none h = record {
  top_is = h.top_is;
  normal = h.normal;
  exact = λ x le. (λ _. tt, λ _. h.all x ∙ le-leb x (top_address f) le);
}
all-named n f (w ∷ ws) s none h = absurd (omega (arith, ap length none))

-- ---- what is found and kept

-- The two texts under which addresses are known.
abbrev pub Key : Type 0
Key = TextKey × TextKey

abbrev pub same_key : Key → Key → Bool
same_key x y = bytes_eq x.0.text.now y.0.text.now && bytes_eq x.1.text.now y.1.text.now

known-under : (n : Naming) (x y : Key) (a : Addresses) → same_key x y ≡ true → AreKnownFor n x.0.text.now x.1.text.now a
    → AreKnownFor n y.0.text.now y.1.text.now a
known-under n x y a same known =
    let p = and_parts (bytes_eq x.0.text.now y.0.text.now) (bytes_eq x.1.text.now y.1.text.now) same in
    λ ws ds is less. known ws ds (ap lines_of (same_bytes x.0.text.now y.0.text.now p.0) ∙ is)
    (ap lines_of (same_bytes x.1.text.now y.1.text.now p.1) ∙ less)

known-back : (n : Naming) (x y : Key) (a : Addresses) → same_key x y ≡ true → AreKnownFor n y.0.text.now y.1.text.now a
    → AreKnownFor n x.0.text.now x.1.text.now a
known-back n x y a same known =
    let p = and_parts (bytes_eq x.0.text.now y.0.text.now) (bytes_eq x.1.text.now y.1.text.now) same in
    λ ws ds is less. known ws ds (ap lines_of (sym (same_bytes x.0.text.now y.0.text.now p.0)) ∙ is)
    (ap lines_of (sym (same_bytes x.1.text.now y.1.text.now p.1)) ∙ less)

pub found : (n : Naming) (key : Key) (known : List (Key × Addresses)) (a : Addresses) → AreKnown n known
    → lookup (same_key key) known ≡ Some a → AreKnownFor n key.0.text.now key.1.text.now a
found n key [] a all is = absurd (none-some a is)
found n key (e ∷ es) a all is =
    elim (chosen (same_key key e.0) (Some e.1) (lookup (same_key key) es) (Some a) is) [
      | inl h ↦ subst (AreKnownFor n key.0.text.now key.1.text.now) (same_Some e.1 a h.1)
          (known-back n key e.0 e.1 h.0 all.0)
      | inr h ↦ found n key es a all.1 h.1
    ]

pub kept : (n : Naming) (key : Key) (known : List (Key × Addresses)) (a : Addresses) → AreKnown n known
    → AreKnownFor n key.0.text.now key.1.text.now a → AreKnown n (insert_entry same_key known key a)
kept n key [] a all more = (more, tt)
kept n key (e ∷ es) a all more = by (same_key key e.0) refl (kept n key es a all.1 more)
  where
    by : (b : Bool) → same_key key e.0 ≡ b → AreKnown n (insert_entry same_key es key a)
        → AreKnown n (insert_entry same_key (e ∷ es) key a)
    by true same rest = subst (AreKnown n) (sym (cond-true (same_key key e.0) _ _ same))
        (known-under n key e.0 a same more, all.1)
    by false same rest = subst (AreKnown n) (sym (cond-false (same_key key e.0) _ _ same)) (all.0, rest)
