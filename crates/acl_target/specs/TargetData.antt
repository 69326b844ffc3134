-- What the data of a target are on its platform: such as its line gives them.
use Rattle.std.specs.Prelude.{◌≡◌, ℕ, ◌≤◌, Bool, true, false, ℤ, pos, negsuc, ◌≤ℤ◌, List, codes}
use Rattle.acl_packet.specs.declared.filtering.Hook.{Hook}
use Rattle.acl_packet.specs.declared.filtering.Hook.TheVariants as hooks
use Rattle.acl_text.specs.Names.{is_filter_name}
use Rattle.acl_target.specs.declared.targets.Ending.{Ending}
use Rattle.acl_target.specs.declared.targets.Ending.TheVariants as endings
use Rattle.acl_target.specs.declared.targets.Kind.{Kind}
use Rattle.acl_target.specs.declared.targets.Kind.TheVariants.{Cisco, Juniper, Iptables, Nftables}
use Rattle.acl_target.specs.declared.targets.Target.{Target}
use Rattle.acl_target.specs.Clashes.{is_mixed}

-- The names of iptables' chains and of nftables' hooks.
abbrev pub chain_text : Hook → List ℕ
chain_text hooks.Input = codes "INPUT"
chain_text hooks.Output = codes "OUTPUT"
chain_text hooks.Forward = codes "FORWARD"

abbrev pub hook_text : Hook → List ℕ
hook_text hooks.Input = codes "input"
hook_text hooks.Output = codes "output"
hook_text hooks.Forward = codes "forward"

abbrev pub is_verdict : Ending → Bool
is_verdict endings.Accept = true
is_verdict endings.Deny = true
is_verdict _ = false

abbrev pub is_neighbours : Ending → Bool
is_neighbours endings.Neighbours = true
is_neighbours _ = false

-- A target of Cisco or Junos.
pub record IsDevice (ends : Ending) (t : Target) : Type 0 where
  pub name_is : is_filter_name t.name ≡ true
  pub hook_is : t.hook ≡ hooks.Input
  pub stateless : t.stateful ≡ false
  pub ending_is : t.ending ≡ ends
  pub priority_is : t.priority ≡ pos 0
  pub verbose_is : t.verbose ≡ true

-- A target of iptables.
pub record IsChain (t : Target) : Type 0 where
  pub name_is : t.name ≡ chain_text t.hook
  pub one_family : is_mixed t.families ≡ false
  pub ending_is : is_neighbours t.ending ≡ false
  pub priority_is : t.priority ≡ pos 0
  pub verbose_is : t.verbose ≡ true

abbrev pub IsPriority : ℤ → Type 0
IsPriority z = (negsuc 32767 ≤ℤ z) × (z ≤ℤ pos 32767)

-- A target of nftables.
pub record IsHooked (t : Target) : Type 0 where
  pub name_is : t.name ≡ hook_text t.hook
  pub stateful_is : t.stateful ≡ true
  pub ending_is : is_verdict t.ending ≡ true
  pub priority_is : IsPriority t.priority

abbrev pub FitsPlatform : Kind → Target → Type 0
FitsPlatform Cisco t = IsDevice endings.Neighbours t
FitsPlatform Juniper t = IsDevice endings.Deny t × (is_mixed t.families ≡ false)
FitsPlatform Iptables t = IsChain t
FitsPlatform Nftables t = IsHooked t

pub record IsTarget (t : Target) : Type 0 where
  pub platform : FitsPlatform t.kind t
  pub number_from : 1 ≤ t.number
  pub number_to : t.number ≤ 64
