use Rattle.std.proofs.Common.{[], ◌∷◌, subst, sym}
use Rattle.acl_target.specs.declared.targets.Kind.TheVariants.{Cisco, Juniper, Iptables, Nftables}
use Rattle.acl_filters.specs.FilterRequests.{request_of}
use Rattle.acl_job.specs.PreparingSteps.{AddsAll}
use Rattle.acl_job.specs.declared.preparing.FileDrafts.{FileDrafts}
use Rattle.acl_job.proofs.PreparingLaws.{filed}
use Rattle.acl_job.proofs.preparing.add_filter.Goals as goal
use Rattle.acl_job.proofs.preparing.add_filter.Goals.{in-Cisco+in_ok-add_to-in-Cisco, in-Juniper+in_ok-add_to-in-Juniper, in-Iptables+in_ok-add_to-in-Iptables, in-Nftables+in_ok-add_to-in-Nftables}

pub add_to-requires : goal.add_to-requires
add_to-requires c = c.requires.«open» Cisco

pub add_to-requires-in-Juniper : goal.add_to-requires-in-Juniper
add_to-requires-in-Juniper c = c.requires.«open» Juniper

pub add_to-requires-in-Iptables : goal.add_to-requires-in-Iptables
add_to-requires-in-Iptables c = c.requires.«open» Iptables

pub add_to-requires-in-Nftables : goal.add_to-requires-in-Nftables
add_to-requires-in-Nftables c = c.requires.«open» Nftables

pub returns-clause-adds : goal.returns-clause-adds
returns-clause-adds c =
    let today = c.args.today in
    let r = request_of [] c.args.terms.now c.args.target.now in
    let P : FileDrafts → Type 0 = λ new. AddsAll today (r ∷ []) c.args.drafts.now new in
    elim c.match-target.branch [
      | in-Cisco+in_ok-add_to-in-Cisco w ↦ subst P (sym w.drafts-is) (filed today Cisco r _ _ c.args.drafts.now _ w.in-Cisco.is c.requires.«open»
          c.in_ok-filter.ensures.checks w.in_ok-add_to-in-Cisco.ensures)
      | in-Juniper+in_ok-add_to-in-Juniper w ↦ subst P (sym w.drafts-is) (filed today Juniper r _ _ c.args.drafts.now _ w.in-Juniper.is c.requires.«open»
          c.in_ok-filter.ensures.checks w.in_ok-add_to-in-Juniper.ensures)
      | in-Iptables+in_ok-add_to-in-Iptables w ↦ subst P (sym w.drafts-is) (filed today Iptables r _ _ c.args.drafts.now _ w.in-Iptables.is c.requires.«open»
          c.in_ok-filter.ensures.checks w.in_ok-add_to-in-Iptables.ensures)
      | in-Nftables+in_ok-add_to-in-Nftables w ↦ subst P (sym w.drafts-is) (filed today Nftables r _ _ c.args.drafts.now _ w.in-Nftables.is c.requires.«open»
          c.in_ok-filter.ensures.checks w.in_ok-add_to-in-Nftables.ensures)
    ]
