-- Laws of the least list that is computed with: it is the least list of its set, and no other list
-- is.
use Rattle.std.proofs.Common.{◌≡◌, ℕ, List, refl}
use Rattle.acl_packet.specs.declared.addresses.Family.{Family}
use Rattle.acl_packet.specs.declared.addresses.Prefix.{Prefix}
use Rattle.acl_sets.specs.declared.sets.Range.{Range}
use Rattle.acl_sets.specs.Ranges.{holds, IsNormal}
use Rattle.acl_sets.specs.LeastLists.{IsLeastList}
use Rattle.acl_sets.specs.ComputableLeastLists.{halved_space}
use Rattle.acl_sets.proofs.HalvesFacts.{halves-least}
use Rattle.acl_sets.proofs.LeastListLaws.{one_least_list}

pub halved_space-least : (f : Family) (top : ℕ) (rs : List Range) → IsNormal 0 top rs
    → IsLeastList f (λ a. holds rs a) (halved_space f rs)
halved_space-least f top rs n = halves-least f top rs n

pub least_list-computed : (f : Family) (top : ℕ) (rs : List Range) (ps : List Prefix)
    → IsNormal 0 top rs
    → IsLeastList f (λ a. holds rs a) ps → ps ≡ halved_space f rs
least_list-computed f top rs ps n h =
    one_least_list f (λ a. holds rs a) (λ a. holds rs a) ps (halved_space f rs) (λ a l. refl) h
    (halves-least f top rs n)
