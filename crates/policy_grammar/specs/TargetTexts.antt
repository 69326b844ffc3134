-- Target lines as they are written, and what they mean. Behind `target::` stands one of
--
--   cisco NAME [extended | inet6 | mixed]
--   juniper NAME [inet | inet6]
--   iptables CHAIN word ..
--   nftables (inet | inet6 | mixed) HOOK word ..
--
-- A family that is left out is IPv4's. The words of an iptables line are `ACCEPT` or `DROP`, `nostate`, and `inet` or
-- `inet6`; those of an nftables line are `ACCEPT` or `DROP`, a priority, and `noverbose`. They stand in any order, and no
-- two of them say the same thing.
use Rattle.std.specs.Prelude.{◌≡◌, ℕ, ℤ, pos, Bool, true, false, not, List, [], ◌∷◌, map, Option, None, Some, unwrap_or, codes}
use Rattle.std.specs.List.{list_any}
use Rattle.std.specs.Option.{option_or}
use Rattle.acl_packet.specs.declared.addresses.Families.{Families}
use Rattle.acl_packet.specs.declared.addresses.Families.TheVariants.{Inet, Inet6}
use Rattle.acl_packet.specs.declared.filtering.Hook.{Hook}
use Rattle.acl_packet.specs.declared.filtering.Hook.TheVariants as hooks
use Rattle.acl_text.specs.declared.faults.Place.{Place}
use Rattle.acl_text.specs.Names.{is_filter_name}
use Rattle.acl_text.specs.SignedNumbers.{IsSignedWord}
use Rattle.acl_words.specs.declared.forms.Form.TheVariants as forms
use Rattle.acl_words.specs.Tokens.{Token}
use Rattle.acl_words.specs.Words.{word}
use Rattle.acl_target.specs.declared.targets.Ending.{Ending}
use Rattle.acl_target.specs.declared.targets.Ending.TheVariants as endings
use Rattle.acl_target.specs.declared.targets.Kind.{Kind}
use Rattle.acl_target.specs.declared.targets.Kind.TheVariants.{Cisco, Juniper, Iptables, Nftables}
use Rattle.acl_target.specs.declared.targets.Target.{Target}
use Rattle.acl_target.specs.Clashes.{is_mixed}
use Rattle.acl_target.specs.TargetData.{chain_text, hook_text}
use Rattle.acl_target.specs.TargetTexts.{kind_text, families_text}
use Rattle.acl_words.specs.declared.word_lists.Word.{Word}
use Rattle.acl_policy.specs.Conditions.{Each}

abbrev pub plain : Place → List ℕ → Token
plain place text = word place forms.Plain text

-- The words that may stand behind the chain or the hook. A priority is written as a number.
pub data Choice : Type 0 where
  AcceptWord : Choice
  DropWord : Choice
  NostateWord : Choice
  NoverboseWord : Choice
  InetWord : Choice
  Inet6Word : Choice
  PriorityWord : List ℕ → ℤ → Choice

abbrev pub choice_text : Choice → List ℕ
choice_text AcceptWord = codes "ACCEPT"
choice_text DropWord = codes "DROP"
choice_text NostateWord = codes "nostate"
choice_text NoverboseWord = codes "noverbose"
choice_text InetWord = codes "inet"
choice_text Inet6Word = codes "inet6"
choice_text (PriorityWord text number) = text

-- What a word says of a packet that no term decides: whether it is accepted.
abbrev pub policy_said : Choice → Option Bool
policy_said AcceptWord = Some true
policy_said DropWord = Some false
policy_said _ = None

abbrev pub family_said : Choice → Option Families
family_said InetWord = Some Inet
family_said Inet6Word = Some Inet6
family_said _ = None

abbrev pub priority_said : Choice → Option ℤ
priority_said (PriorityWord text number) = Some number
priority_said _ = None

abbrev pub is_nostate : Choice → Bool
is_nostate NostateWord = true
is_nostate _ = false

abbrev pub is_noverbose : Choice → Bool
is_noverbose NoverboseWord = true
is_noverbose _ = false

-- What the words of a line say: what the first one of them says that says anything.
abbrev pub said : {A : Type 0} → (Choice → Option A) → List Choice → Option A
said says [] = None
said says (c ∷ cs) = option_or (says c) (said says cs)

-- No word before it says the same thing.
abbrev pub SaysNew : List Choice → Choice → Type 0
SaysNew before AcceptWord = said policy_said before ≡ None
SaysNew before DropWord = said policy_said before ≡ None
SaysNew before NostateWord = list_any is_nostate before ≡ false
SaysNew before NoverboseWord = list_any is_noverbose before ≡ false
SaysNew before InetWord = said family_said before ≡ None
SaysNew before Inet6Word = said family_said before ≡ None
SaysNew before (PriorityWord text number) = said priority_said before ≡ None

-- The words that an iptables line has, and those that an nftables line has: a priority lies between -32768 and 32767.
abbrev pub IsIptablesWord : Choice → Type 0
IsIptablesWord NoverboseWord = ⊥
IsIptablesWord (PriorityWord text number) = ⊥
IsIptablesWord _ = Unit {0}

abbrev pub IsNftablesWord : Choice → Type 0
IsNftablesWord NostateWord = ⊥
IsNftablesWord InetWord = ⊥
IsNftablesWord Inet6Word = ⊥
IsNftablesWord (PriorityWord text number) = IsSignedWord 32768 32767 text number
IsNftablesWord _ = Unit {0}

abbrev pub ChoicesStand : (Choice → Type 0) → List (Place × Choice) → Type 0
ChoicesStand IsTaken cs = Each (λ before c. IsTaken c × SaysNew before c) [] (map (λ c. c.1) cs)

-- What stands behind the platform's word, each word with its place.
pub data LineText : Type 0 where
  CiscoLine : Word → Option (Place × Families) → LineText
  JuniperLine : Word → Option (Place × Families) → LineText
  IptablesLine : Place → Hook → List (Place × Choice) → LineText
  NftablesLine : Place → Families → Place → Hook → List (Place × Choice) → LineText

-- A target line: where `target::` stands, where the platform's word does, what follows, and the line's number among
-- the target lines of its platform.
pub record TargetText : Type 0 where
  pub place : Place
  pub platform : Place
  pub line : LineText
  pub number : ℕ

abbrev pub line_kind : LineText → Kind
line_kind (CiscoLine name family) = Cisco
line_kind (JuniperLine name family) = Juniper
line_kind (IptablesLine place chain cs) = Iptables
line_kind (NftablesLine from families place hook cs) = Nftables

-- The words of a line.
abbrev pub family_words : Kind → Option (Place × Families) → List Token
family_words kind None = []
family_words kind (Some f) = plain f.0 (families_text kind f.1) ∷ []

abbrev pub choice_words : List (Place × Choice) → List Token
choice_words cs = map (λ c. plain c.0 (choice_text c.1)) cs

abbrev pub line_words : LineText → List Token
line_words (CiscoLine name family) = plain name.place name.text ∷ family_words Cisco family
line_words (JuniperLine name family) = plain name.place name.text ∷ family_words Juniper family
line_words (IptablesLine place chain cs) = plain place (chain_text chain) ∷ choice_words cs
line_words (NftablesLine from families place hook cs) =
    plain from (families_text Nftables families) ∷ plain place (hook_text hook) ∷ choice_words cs

-- What stands behind `target::`.
abbrev pub line_values : Place → LineText → List Token
line_values platform l = plain platform (kind_text (line_kind l)) ∷ line_words l

abbrev pub target_values : TargetText → List Token
target_values t = line_values t.platform t.line

abbrev pub target_words : TargetText → List Token
target_words t = word t.place forms.Keyword (codes "target::") ∷ target_values t

-- What a line means.
abbrev pub family_meant : Option (Place × Families) → Families
family_meant None = Inet
family_meant (Some f) = f.1

abbrev pub ending_meant : Ending → Option Bool → Ending
ending_meant without None = without
ending_meant without (Some true) = endings.Accept
ending_meant without (Some false) = endings.Deny

-- A target of Cisco or Junos.
abbrev pub device_meant : Place → ℕ → Kind → Ending → Word → Option (Place × Families) → Target
device_meant place number kind ending name family = record {
  place = place;
  kind = kind;
  name = name.text;
  families = family_meant family;
  hook = hooks.Input;
  stateful = false;
  ending = ending;
  priority = pos 0;
  verbose = true;
  number = number;
}

abbrev pub chain_meant : Place → ℕ → Hook → List Choice → Target
chain_meant place number chain cs = record {
  place = place;
  kind = Iptables;
  name = chain_text chain;
  families = unwrap_or (said family_said cs) Inet;
  hook = chain;
  stateful = not (list_any is_nostate cs);
  ending = ending_meant endings.Left (said policy_said cs);
  priority = pos 0;
  verbose = true;
  number = number;
}

abbrev pub hook_meant : Place → ℕ → Families → Hook → List Choice → Target
hook_meant place number families hook cs = record {
  place = place;
  kind = Nftables;
  name = hook_text hook;
  families = families;
  hook = hook;
  stateful = true;
  ending = ending_meant endings.Deny (said policy_said cs);
  priority = unwrap_or (said priority_said cs) (pos 0);
  verbose = not (list_any is_noverbose cs);
  number = number;
}

abbrev pub line_meant : Place → ℕ → LineText → Target
line_meant place number (CiscoLine name family) = device_meant place number Cisco endings.Neighbours name family
line_meant place number (JuniperLine name family) = device_meant place number Juniper endings.Deny name family
line_meant place number (IptablesLine at chain cs) = chain_meant place number chain (map (λ c. c.1) cs)
line_meant place number (NftablesLine from families at hook cs) =
    hook_meant place number families hook (map (λ c. c.1) cs)

abbrev pub target_meant : TargetText → Target
target_meant t = line_meant t.place t.number t.line

-- When a line stands: a name is one of a filter, and a Junos filter has one family.
abbrev pub LineStands : LineText → Type 0
LineStands (CiscoLine name family) = is_filter_name name.text ≡ true
LineStands (JuniperLine name family) =
    (is_filter_name name.text ≡ true) × (is_mixed (family_meant family) ≡ false)
LineStands (IptablesLine place chain cs) = ChoicesStand IsIptablesWord cs
LineStands (NftablesLine from families place hook cs) = ChoicesStand IsNftablesWord cs
