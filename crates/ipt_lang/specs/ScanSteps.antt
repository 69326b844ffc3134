-- Taking a section from the front of a text: item by item, and each at once with what it does.
use Rattle.std.specs.Prelude.{◌≡◌, ℕ, if◌then◌else◌, Bool, true, false, List, [], ◌∷◌, ◌++◌, drop, flat_map, Option, None, Some, IfSome}
use Rattle.std.specs.Borrow.{Bor}
use Rattle.std.specs.List.{AllByRecursion}
use Rattle.std.specs.Option.{IsSomeAnd}
use Rattle.acl_packet.specs.declared.addresses.Family.{Family}
use Rattle.acl_packet.specs.declared.filtering.Hook.{Hook}
use Rattle.acl_packet.specs.declared.filtering.Outcome.{Outcome}
use Rattle.acl_packet.specs.declared.packets.Packet.{Packet}
use Rattle.acl_packet.specs.Addresses.{same_family}
use Rattle.acl_text.specs.Cuts.{cut_at, views}
use Rattle.acl_rows.specs.FamilyWords.{family_in}
use Rattle.acl_rows.specs.Rows.{Row, text_of_rows, words_in}
use Rattle.acl_rows.specs.declared.scanning.TakenSection.{TakenSection}
use Rattle.ipt_lang.specs.declared.chain_rows.TargetRow.{TargetRow}
use Rattle.ipt_lang.specs.declared.documents.Chain.{Chain}
use Rattle.ipt_lang.specs.declared.documents.Rule.{Rule}
use Rattle.ipt_lang.specs.declared.documents.Section.{Section}
use Rattle.ipt_lang.specs.declared.row_scans.Taken.{Taken}
use Rattle.ipt_lang.specs.declared.row_scans.TakenPolicy.{TakenPolicy}
use Rattle.ipt_lang.specs.declared.chain_scans.TakenRules.{TakenRules}
use Rattle.ipt_lang.specs.declared.chain_scans.TakenChain.{TakenChain}
use Rattle.ipt_lang.specs.declared.chain_scans.TakenChains.{TakenChains}
use Rattle.ipt_lang.specs.Documents.{IsChain, IsRule, IsSection, chain_names, is_chain_name}
use Rattle.ipt_lang.specs.ReadingSteps.{hook_in, rule_in}
use Rattle.ipt_lang.specs.Texts.{chain_row, chain_rows, default_rows, rule_rows, target_row, text_of}
use Rattle.ipt_lang.specs.Walks.{chains_walk, go_on, outcome_so_far, policy_verdict, rules_walk, section_outcome}

-- ---- items

-- The text does not begin with an item.
abbrev pub Lacks : {X : Type 0} → (X → Type 0) → (X → List Row) → List ℕ → Type 0
Lacks {X = X} IsItem rows text =
    (x : X) (more : List ℕ) → IsItem x → text ≡ text_of_rows (rows x) ++ more → ⊥

-- The text begins with these items, and with no more of them.
pub record IsFront {X : Type 0} (IsItem : X → Type 0) (rows : X → List Row) (text : List ℕ)
    (items : List X) (rest : List ℕ) : Type 0 where
  pub valid : AllByRecursion IsItem items
  pub written : text ≡ text_of_rows (flat_map rows items) ++ rest
  pub ended : Lacks IsItem rows rest

-- Behind the items that the text begins with, this is left.
abbrev pub IsBehind : {X : Type 0} → (X → Type 0) → (X → List Row) → List ℕ → List ℕ → Type 0
IsBehind {X = X} IsItem rows text rest =
    (items : List X) × IsFront IsItem rows text items rest

-- An item is taken from the front of the text, if it begins with one.
abbrev pub TakesItem : {X V : Type 0} → (X → Type 0) → (X → List Row) → (V → X) → List ℕ
    → Option (Taken V) → Type 0
TakesItem IsItem rows item text None = Lacks IsItem rows text
TakesItem IsItem rows item text (Some t) =
    IsItem (item t.item) × (text ≡ text_of_rows (rows (item t.item)) ++ t.rest.now)

-- What the text has behind the rows, where it begins with them.
abbrev pub TextBehind : List Row → List ℕ → Option (Bor (List ℕ)) → Type 0
TextBehind rows text None = (rest : List ℕ) → text ≡ text_of_rows rows ++ rest → ⊥
TextBehind rows text (Some rest) = text ≡ text_of_rows rows ++ rest.now

-- Each value is an item.
abbrev pub IsAny : {X : Type 0} → X → Type 0
IsAny x = Unit {0}

-- ---- what a first line says

abbrev pub before_cut : Option (List ℕ × List ℕ) → List ℕ → List ℕ
before_cut None text = text
before_cut (Some parts) text = parts.0

unfoldable pub first_line : List ℕ → List ℕ
first_line text = before_cut (cut_at 10 text) text

-- A remark stands behind `# `, a chain's name behind `-N `, the hook's letter and a `_`, the target of
-- a section behind `## iptables `, and the words of a rule behind two others.
abbrev pub remark_in : List ℕ → List ℕ
remark_in text = drop 2 (first_line text)

abbrev pub name_in : List ℕ → List ℕ
name_in text = drop 5 (first_line text)

abbrev pub target : Hook → Family → TargetRow
target hook family = record { hook = hook; family = family }

abbrev pub target_at : Option (List ℕ × List ℕ) → TargetRow
target_at None = target (hook_in []) (family_in [])
target_at (Some words) = target (hook_in words.0) (family_in words.1)

abbrev pub target_in : List ℕ → TargetRow
target_in text = target_at (cut_at 32 (drop 12 (first_line text)))

abbrev pub scanned_rule : Family → List ℕ → Rule
scanned_rule family text = rule_in family (drop 1 (drop 1 (words_in (first_line text))))

-- ---- rows

abbrev pub IsChainName : List ℕ → Type 0
IsChainName name = is_chain_name name ≡ true

abbrev pub target_rows : TargetRow → List Row
target_rows t = target_row t.hook t.family ∷ []

abbrev pub name_rows : Hook → List ℕ → List Row
name_rows hook name = chain_row hook name ∷ []

abbrev pub policy_rows : Hook → Bool → List Row
policy_rows hook accept = default_rows hook (Some accept)

-- The policy is taken where one is written.
pub record TakesPolicy (hook : Hook) (text : List ℕ) (taken : TakenPolicy) : Type 0 where
  pub written : text ≡ text_of_rows (default_rows hook taken.accept) ++ taken.rest.now
  pub none : taken.accept ≡ None → Lacks IsAny (policy_rows hook) taken.rest.now

-- ---- chains

-- The rules of a chain, of a packet for which this was decided before.
pub record IsRules (hook : Hook) (family : Family) (name text : List ℕ) (packet : Packet)
    (so_far : Outcome) (taken : TakenRules) (rules : List Rule) : Type 0 where
  pub front : IsFront (IsRule family) (rule_rows hook family name) text rules taken.rest.now
  pub walked : taken.outcome ≡ go_on so_far (λ logged. rules_walk rules packet logged)

abbrev pub TakesRules : Hook → Family → List ℕ → List ℕ → Packet → Outcome → TakenRules → Type 0
TakesRules hook family name text packet so_far taken =
    (rules : List Rule) × IsRules hook family name text packet so_far taken rules

pub record IsChainTaken (hook : Hook) (family : Family) (text : List ℕ) (packet : Packet)
    (so_far : Outcome) (taken : TakenChain) (c : Chain) : Type 0 where
  pub valid : IsChain family c
  pub written : text ≡ text_of_rows (chain_rows hook family c) ++ taken.rest.now
  pub named : taken.name.now ≡ c.name
  pub walked : taken.outcome ≡ go_on so_far (λ logged. rules_walk c.rules packet logged)

abbrev pub TakesChain : Hook → Family → List ℕ → Packet → Outcome → Option TakenChain → Type 0
TakesChain hook family text packet so_far None =
    Lacks (IsChain family) (chain_rows hook family) text
TakesChain hook family text packet so_far (Some t) =
    (c : Chain) × IsChainTaken hook family text packet so_far t c

pub record IsChainsTaken (hook : Hook) (family : Family) (text : List ℕ) (packet : Packet)
    (taken : TakenChains) (chains : List Chain) : Type 0 where
  pub front : IsFront (IsChain family) (chain_rows hook family) text chains taken.rest.now
  pub named : views taken.names.items ≡ chain_names chains
  pub walked : taken.outcome ≡ chains_walk chains packet false

abbrev pub TakesChains : Hook → Family → List ℕ → Packet → TakenChains → Type 0
TakesChains hook family text packet taken =
    (chains : List Chain) × IsChainsTaken hook family text packet taken chains

-- ---- sections

abbrev pub section : Hook → Family → Option Bool → List Chain → Section
section hook family accept chains =
    record { hook = hook; family = family; accept = accept; chains = chains }

-- What a section of the family does to a packet, where its chains do that.
abbrev pub decided_for : Family → Option Bool → Outcome → Packet → Option Outcome
decided_for family accept so_far p =
    if same_family family p.family
    then Some (go_on so_far (λ logged. outcome_so_far (policy_verdict accept) logged))
    else None

-- What a text has behind a section's first row.
abbrev pub body_text : Hook → Family → Option Bool → List Chain → List ℕ → List ℕ
body_text hook family accept chains rest =
    text_of_rows (default_rows hook accept)
    ++ (text_of_rows (flat_map (chain_rows hook family) chains) ++ rest)

pub record IsBody (hook : Hook) (family : Family) (text : List ℕ) (packet : Packet)
    (taken : TakenSection) (s : Section) : Type 0 where
  pub valid : IsSection s
  pub target : (s.hook ≡ hook) × (s.family ≡ family)
  pub written : text ≡ body_text s.hook s.family s.accept s.chains taken.rest.now
  pub decided : taken.outcome ≡ section_outcome s packet

-- What a section has behind its first row is taken.
pub record TakesBody (hook : Hook) (family : Family) (text : List ℕ) (packet : Packet)
    (taken : Option TakenSection) : Type 0 where
  pub some : IfSome taken (λ t. (s : Section) × IsBody hook family text packet t s)
  pub each : (accept : Option Bool) (chains : List Chain) (others : List Section)
      → IsSection (section hook family accept chains) → AllByRecursion IsSection others
      → text ≡ body_text hook family accept chains (text_of others)
      → IsSomeAnd taken (λ t. t.rest.now ≡ text_of others)
