-- Target lines.
use Rattle.std.specs.Prelude.{ℕ, Bool, true, false, not, ◌&&◌, ℤ, pos, if◌then◌else◌, List, [], ◌∷◌, Option, None, Some, option_and_then, unwrap_or, Result, Ok, Err, codes}
use Rattle.std.specs.Str.{bytes_eq}
use Rattle.acl_packet.specs.declared.addresses.Families.{Families}
use Rattle.acl_packet.specs.declared.addresses.Families.TheVariants.{Inet, Inet6, Mixed}
use Rattle.acl_packet.specs.declared.filtering.Hook.{Hook}
use Rattle.acl_packet.specs.declared.filtering.Hook.TheVariants as hooks
use Rattle.acl_text.specs.Names.{is_filter_name}
use Rattle.acl_text.specs.SignedNumbers.{signed_in}
use Rattle.acl_text.specs.declared.faults.Code.TheVariants as codes_of
use Rattle.acl_text.specs.declared.faults.Slip.{Slip}
use Rattle.acl_words.specs.Tokens.{Token}
use Rattle.acl_policy.specs.declared.choices.TargetChoices.{TargetChoices}
use Rattle.acl_target.specs.declared.targets.Kind.{Kind}
use Rattle.acl_target.specs.declared.targets.Kind.TheVariants.{Cisco, Juniper, Iptables, Nftables}
use Rattle.acl_target.specs.declared.targets.Ending.{Ending}
use Rattle.acl_target.specs.declared.targets.Ending.TheVariants as endings
use Rattle.acl_target.specs.declared.targets.Target.{Target}
use Rattle.acl_policy.specs.declared.target_lines.NamedTarget.{NamedTarget}
use Rattle.acl_policy.specs.Slips.{slip_of, slip_for}
use Rattle.acl_text.specs.Steps.{◌>>=◌}
use Rattle.acl_policy.specs.Values.{is_plain}

-- A word that is no string, by its text.
abbrev pub is_word : Token → List ℕ → Bool
is_word w text = is_plain w.form && bytes_eq w.text text

-- What a word has to be: where it is not, it is the slip.
abbrev pub or_slip : {A : Type 0} → Token → Option A → Result A Slip
or_slip w None = Err (slip_for codes_of.TargetLine w)
or_slip w (Some x) = Ok x

-- The words for families.
abbrev pub single_family : Token → Option Families
single_family w =
    if is_word w (codes "inet") then Some Inet
    else if is_word w (codes "inet6") then Some Inet6
    else None

abbrev pub later_family : Token → Option Families
later_family w =
    if is_word w (codes "inet6") then Some Inet6
    else if is_word w (codes "mixed") then Some Mixed
    else None

abbrev pub family_word : Kind → Token → Option Families
family_word Cisco w = if is_word w (codes "extended") then Some Inet else later_family w
family_word Juniper w = single_family w
family_word Iptables w = single_family w
family_word Nftables w = if is_word w (codes "inet") then Some Inet else later_family w

-- The words for chains, and those for hooks.
abbrev pub chain_word : Token → Option Hook
chain_word w =
    if is_word w (codes "INPUT") then Some hooks.Input
    else if is_word w (codes "OUTPUT") then Some hooks.Output
    else if is_word w (codes "FORWARD") then Some hooks.Forward
    else None

abbrev pub hook_word : Token → Option Hook
hook_word w =
    if is_word w (codes "input") then Some hooks.Input
    else if is_word w (codes "output") then Some hooks.Output
    else if is_word w (codes "forward") then Some hooks.Forward
    else None

abbrev pub name_word : Token → Bool
name_word w = is_plain w.form && is_filter_name w.text

-- A priority is 0 to 32767, or `-` and 1 to 32768.
abbrev pub priority_word : Token → Option ℤ
priority_word w = if is_plain w.form then signed_in 32768 32767 w.text else None

-- The words of iptables and nftables lines that stand in any order: each kind of them at most once.
abbrev pub no_choices : TargetChoices
no_choices = record { accept = None; marked = false; families = None; priority = None }

abbrev pub unless_some : {A B : Type 0} → Option A → B → Option B
unless_some None x = Some x
unless_some (Some y) x = None

abbrev pub with_policy : TargetChoices → Bool → Option TargetChoices
with_policy c accept = unless_some c.accept (record c { accept = Some accept })

abbrev pub with_mark : TargetChoices → Option TargetChoices
with_mark c = if c.marked then None else Some (record c { marked = true })

abbrev pub with_families : TargetChoices → Families → Option TargetChoices
with_families c families = unless_some c.families (record c { families = Some families })

abbrev pub with_priority : TargetChoices → ℤ → Option TargetChoices
with_priority c priority = unless_some c.priority (record c { priority = Some priority })

unfoldable pub iptables_choice : TargetChoices → Token → Option TargetChoices
iptables_choice c w =
    if is_word w (codes "ACCEPT") then with_policy c true
    else if is_word w (codes "DROP") then with_policy c false
    else if is_word w (codes "nostate") then with_mark c
    else option_and_then (with_families c) (single_family w)

unfoldable pub nftables_choice : TargetChoices → Token → Option TargetChoices
nftables_choice c w =
    if is_word w (codes "ACCEPT") then with_policy c true
    else if is_word w (codes "DROP") then with_policy c false
    else if is_word w (codes "noverbose") then with_mark c
    else option_and_then (with_priority c) (priority_word w)

abbrev pub choice : Kind → TargetChoices → Token → Option TargetChoices
choice Iptables c w = iptables_choice c w
choice _ c w = nftables_choice c w

abbrev pub choices_from : Kind → TargetChoices → List Token → Result TargetChoices Slip
choices_from kind c [] = Ok c
choices_from kind c (w ∷ ws) = or_slip w (choice kind c w) >>= λ d. choices_from kind d ws

-- A target by the keyword of its line and the word that names it. Its number comes last.
abbrev pub target_of : Token → Token → Kind → Families → Hook → Target
target_of k n kind families hook = record {
  place = k.place;
  kind = kind;
  name = n.text;
  families = families;
  hook = hook;
  stateful = false;
  ending = endings.Deny;
  priority = pos 0;
  verbose = true;
  number = 0;
}

abbrev pub named_target : Token → Target → NamedTarget
named_target n t = record { target = t; place = n.place }

-- `cisco NAME [extended, inet6 or mixed]` and `juniper NAME [inet or inet6]`.
abbrev pub last_family : Kind → List Token → Result Families Slip
last_family kind [] = Ok Inet
last_family kind (w ∷ []) = or_slip w (family_word kind w)
last_family kind (w ∷ v ∷ ws) =
    or_slip w (family_word kind w) >>= λ _. Err (slip_for codes_of.TargetLine v)

abbrev pub device_ending : Kind → Ending
device_ending Cisco = endings.Neighbours
device_ending _ = endings.Deny

abbrev pub device_target : Token → Token → Kind → Families → Target
device_target k n kind families =
    record (target_of k n kind families hooks.Input) { ending = device_ending kind }

-- The words behind the name of a device's list: a family, if any.
abbrev pub device_words : Kind → Token → Token → List Token → Result NamedTarget Slip
device_words kind k n ws =
    last_family kind ws >>= λ f. Ok (named_target n (device_target k n kind f))

abbrev pub device_line : Kind → Token → Token → List Token → Result NamedTarget Slip
device_line kind k p [] = Err (slip_of codes_of.TargetLine p)
device_line kind k p (n ∷ ws) =
    if name_word n then device_words kind k n ws
    else Err (slip_for codes_of.TargetLine n)

-- `iptables CHAIN`, then `ACCEPT` or `DROP`, `nostate`, and `inet` or `inet6`.
abbrev pub default_ending : Ending → Option Bool → Ending
default_ending without None = without
default_ending without (Some true) = endings.Accept
default_ending without (Some false) = endings.Deny

abbrev pub iptables_target : Token → Token → Hook → TargetChoices → Target
iptables_target k n hook c = record (target_of k n Iptables (unwrap_or c.families Inet) hook) {
  stateful = not c.marked;
  ending = default_ending endings.Left c.accept;
}

-- The words behind a chain.
abbrev pub chain_words : Token → Token → Hook → List Token → Result NamedTarget Slip
chain_words k n hook ws = choices_from Iptables no_choices ws
    >>= λ c. Ok (named_target n (iptables_target k n hook c))

abbrev pub iptables_line : Token → Token → List Token → Result NamedTarget Slip
iptables_line k p [] = Err (slip_of codes_of.TargetLine p)
iptables_line k p (n ∷ ws) = or_slip n (chain_word n) >>= λ hook. chain_words k n hook ws

-- `nftables FAMILIES HOOK`, then `ACCEPT` or `DROP`, a priority, and `noverbose`.
abbrev pub nftables_target : Token → Token → Families → Hook → TargetChoices → Target
nftables_target k n families hook c = record (target_of k n Nftables families hook) {
  stateful = true;
  ending = default_ending endings.Deny c.accept;
  priority = unwrap_or c.priority (pos 0);
  verbose = not c.marked;
}

-- The words behind a hook.
abbrev pub hook_words : Token → Token → Families → Hook → List Token → Result NamedTarget Slip
hook_words k n families hook ws = choices_from Nftables no_choices ws
    >>= λ c. Ok (named_target n (nftables_target k n families hook c))

abbrev pub hooked_line : Token → Token → Families → List Token → Result NamedTarget Slip
hooked_line k p families [] = Err (slip_of codes_of.TargetLine p)
hooked_line k p families (n ∷ ws) = or_slip n (hook_word n) >>= λ hook. hook_words k n families hook ws

abbrev pub nftables_line : Token → Token → List Token → Result NamedTarget Slip
nftables_line k p [] = Err (slip_of codes_of.TargetLine p)
nftables_line k p (w ∷ ws) =
    or_slip w (family_word Nftables w) >>= λ families. hooked_line k p families ws

-- The words behind `target::`.
unfoldable pub target_line : Token → List Token → Result NamedTarget Slip
target_line k [] = Err (slip_of codes_of.Missing k)
target_line k (p ∷ ws) =
    if is_word p (codes "cisco") then device_line Cisco k p ws
    else if is_word p (codes "juniper") then device_line Juniper k p ws
    else if is_word p (codes "iptables") then iptables_line k p ws
    else if is_word p (codes "nftables") then nftables_line k p ws
    else Err (slip_for codes_of.TargetLine p)
