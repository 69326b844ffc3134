-- Terms as they are written, and what they mean. A term is
--
--   term NAME { item .. }
--
-- and an item is a keyword and its values. The table of keywords says what the values of each are, and which stand once;
-- the order of the items is free but for the order of the values of one keyword.
use Rattle.std.specs.Prelude.{◌≡◌, ℕ, Bool, true, false, if◌then◌else◌, List, [], ◌∷◌, ◌++◌, map, flat_map, Option, None, codes}
use Rattle.std.specs.List.{list_all}
use Rattle.std.specs.Str.{bytes_eq}
use Rattle.acl_text.specs.declared.faults.Place.{Place}
use Rattle.acl_text.specs.Names.{is_name}
use Rattle.acl_words.specs.declared.forms.Form.TheVariants as forms
use Rattle.acl_words.specs.Tokens.{Token}
use Rattle.acl_words.specs.Words.{word}
use Rattle.acl_host.specs.declared.days.Day.{Day}
use Rattle.acl_host.specs.NamedDays.{day_named}
use Rattle.acl_policy.specs.RawTerms.{RawTerm}
use Rattle.acl_words.specs.declared.word_lists.Word.{Word}
use Rattle.acl_policy.specs.declared.keywords.Keyword.{Keyword}
use Rattle.acl_policy.specs.declared.keywords.Keyword.TheVariants as keywords
use Rattle.acl_policy.specs.Conditions.{Each}
use Rattle.acl_policy.specs.Keywords.{entry}
use Rattle.acl_policy.specs.Terms.{no_word}
use Rattle.acl_policy.specs.Values.{is_value, word_of}
use Rattle.policy_grammar.specs.TargetTexts.{plain}

-- Two keywords are the same where their texts are.
abbrev pub same_keyword : Keyword → Keyword → Bool
same_keyword a b = bytes_eq (entry a).text (entry b).text

-- A keyword and its values, of which there is one at least.
pub record Item : Type 0 where
  pub place : Place
  pub key : Keyword
  pub first : Token
  pub more : List Token

abbrev pub item_values : Item → List Token
item_values i = i.first ∷ i.more

abbrev pub item_words : Item → List Token
item_words i = word i.place forms.Keyword (entry i.key).text ∷ item_values i

-- The values of all items of a keyword, in order.
abbrev pub values_at : List Item → Keyword → List Word
values_at items key =
    flat_map (λ i. if same_keyword key i.key then map word_of (item_values i) else []) items

-- The strings of a comment have a space between any two.
abbrev pub comment_text : List Word → List ℕ
comment_text [] = []
comment_text (w ∷ ws) = w.text ++ flat_map (λ v. 32 ∷ v.text) ws

abbrev pub first_word : List Word → Word
first_word [] = no_word
first_word (w ∷ ws) = w

abbrev pub some_word : List Word → Bool
some_word [] = false
some_word (w ∷ ws) = true

abbrev pub day_meant : List Word → Option Day
day_meant [] = None
day_meant (w ∷ ws) = day_named w.text

-- What a term of the name means, by the values of each keyword. The owner is not kept.
abbrev pub term_from : Word → (Keyword → List Word) → RawTerm
term_from name at = record {
  name = name;
  comments = comment_text (at keywords.Comment);
  action = first_word (at keywords.Action);
  sources = at keywords.SourceAddress;
  source_excludes = at keywords.SourceExclude;
  destinations = at keywords.DestinationAddress;
  destination_excludes = at keywords.DestinationExclude;
  addresses = at keywords.Address;
  protocols = at keywords.Protocol;
  source_ports = at keywords.SourcePort;
  destination_ports = at keywords.DestinationPort;
  ports = at keywords.Port;
  icmp_types = at keywords.IcmpType;
  icmp_codes = at keywords.IcmpCode;
  options = at keywords.Opt;
  logging = some_word (at keywords.Logging);
  expires = day_meant (at keywords.Expiration);
  platforms = at keywords.Platform;
  not_platforms = at keywords.PlatformExclude;
}

-- When an item stands behind those before it.
pub record ItemStands (before : List Item) (i : Item) : Type 0 where
  pub values_are : list_all (is_value (entry i.key).takes) (item_values i) ≡ true
  pub one_value : (entry i.key).once ≡ true → i.more ≡ []
  pub first_time : (entry i.key).once ≡ true → values_at before i.key ≡ []

-- A term: the places of `term` and of the braces, its name, and its items.
pub record TermText : Type 0 where
  pub place : Place
  pub name : Word
  pub begin : Place
  pub items : List Item
  pub end : Place

abbrev pub items_words : List Item → List Token
items_words items = flat_map item_words items

abbrev pub term_words : TermText → List Token
term_words t =
    plain t.place (codes "term") ∷ plain t.name.place t.name.text ∷ word t.begin forms.Begin (codes "{")
    ∷ items_words t.items ++ word t.end forms.End (codes "}") ∷ []

abbrev pub term_meant : TermText → RawTerm
term_meant t = term_from t.name (values_at t.items)

-- A term has a name and an action.
pub record TermStands (t : TermText) : Type 0 where
  pub name_is : is_name t.name.text ≡ true
  pub items_stand : Each ItemStands [] t.items
  pub has_action : some_word (values_at t.items keywords.Action) ≡ true
