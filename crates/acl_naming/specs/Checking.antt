-- What is wrong with the names of all definitions: a name that is defined nowhere, or one that reaches itself.
use Rattle.std.specs.Prelude.{◌≡◌, ℕ, ◌<◌, is_some, if◌then◌else◌, List, [], ◌∷◌, length, Option, None, Some, Result, Ok, Err, ◌⊎◌}
use Rattle.std.specs.Option.{option_or}
use Rattle.acl_text.specs.declared.faults.Code.TheVariants as codes
use Rattle.acl_text.specs.declared.faults.Slip.{Slip}
use Rattle.acl_text.specs.declared.faults.Refusal.{Refusal}
use Rattle.acl_text.specs.declared.faults.Refusal.TheVariants as refusals
use Rattle.acl_text.specs.Refusals.{slip}
use Rattle.acl_naming.specs.declared.naming_items.Item.{Item}
use Rattle.acl_naming.specs.declared.naming_items.Item.TheVariants.{Name, Network, Service}
use Rattle.acl_naming.specs.declared.naming_items.Reference.{Reference}
use Rattle.acl_naming.specs.Definitions.{Definition, Naming, index_of}
use Rattle.acl_naming.specs.Reach.{ReachesItself}
use Rattle.acl_naming.specs.Tables.{name_at, place_at}

-- The first of the items that is a name defined nowhere.
abbrev pub undefined_in : List Definition → List Item → Option Reference
undefined_in base [] = None
undefined_in base (Name r ∷ items) =
    if is_some (index_of base r.name) then undefined_in base items else Some r
undefined_in base (Network p ∷ items) = undefined_in base items
undefined_in base (Service p ∷ items) = undefined_in base items

-- The first such item in order of definition.
abbrev pub first_undefined : List Definition → List Definition → Option Reference
first_undefined base [] = None
first_undefined base (d ∷ ds) = option_or (undefined_in base d.items) (first_undefined base ds)

-- Networks come before services. A name refers to the same kind.
abbrev pub undefined_of : Naming → Option Reference
undefined_of n =
    option_or (first_undefined n.networks n.networks) (first_undefined n.services n.services)

-- No definition before the i-th reaches itself.
abbrev pub NoCycleBefore : List Definition → ℕ → Type 0
NoCycleBefore base i = (k : ℕ) → k < i → ReachesItself base (name_at base k) → ⊥

abbrev pub HasNoCycle : List Definition → Type 0
HasNoCycle base = NoCycleBefore base (length base)

-- The i-th definition is the first that reaches itself.
pub record IsFirstCycle (base : List Definition) (i : ℕ) : Type 0 where
  pub within : i < length base
  pub cycle : ReachesItself base (name_at base i)
  pub first : NoCycleBefore base i

-- The slip of the first definition that reaches itself.
abbrev pub IsCycleSlip : List Definition → Slip → Type 0
IsCycleSlip base s =
    (i : ℕ) × IsFirstCycle base i × (s ≡ slip codes.Cycle (place_at base i) (name_at base i))

-- The first name that is defined nowhere; where there is none, the first definition that reaches itself, and
-- networks come before services there too.
abbrev pub IsSlipBy : Option Reference → Naming → Slip → Type 0
IsSlipBy (Some r) n s = s ≡ slip codes.Undefined r.place r.name
IsSlipBy None n s = IsCycleSlip n.networks s ⊎ (HasNoCycle n.networks × IsCycleSlip n.services s)

abbrev pub IsSlipOf : Naming → Slip → Type 0
IsSlipOf n s = IsSlipBy (undefined_of n) n s

-- The answer on the names of all definitions.
abbrev pub IsChecked : {T : Type 0} → Naming → Result T Refusal → Type 0
IsChecked n (Ok x) = (undefined_of n ≡ None) × HasNoCycle n.networks × HasNoCycle n.services
IsChecked n (Err (refusals.Slip s)) = IsSlipOf n s
IsChecked n (Err refusals.Memory) = Unit {0}

-- The two parts of that answer.
abbrev pub NamesAreDefined : {T : Type 0} → Naming → Result T Refusal → Type 0
NamesAreDefined n (Ok x) = undefined_of n ≡ None
NamesAreDefined n (Err (refusals.Slip s)) =
    (r : Reference) × (undefined_of n ≡ Some r) × (s ≡ slip codes.Undefined r.place r.name)
NamesAreDefined n (Err refusals.Memory) = Unit {0}

abbrev pub CyclesAreAbsent : {T : Type 0} → List Definition → Result T Refusal → Type 0
CyclesAreAbsent base (Ok x) = HasNoCycle base
CyclesAreAbsent base (Err (refusals.Slip s)) = IsCycleSlip base s
CyclesAreAbsent base (Err refusals.Memory) = Unit {0}
