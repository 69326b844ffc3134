use Rattle.std.proofs.Common.{map, subst, List, ℕ, IsPermutation}
use Rattle.std.specs.Ordering.{nat_cmp}
use Rattle.std.specs.Cmp.Lexicographic.{slice_cmp}
use Rattle.std.specs.String.{string_bytes}
use Rattle.std.proofs.lemmas.List.Sorted.{IsPermutation-map}
use Rattle.acl_host.proofs.ByteOrder.{sorted-bytes}
use Rattle.acl_host.proofs.trees.FileNames.sort.Goals as goal

pub returns-clause-same : goal.returns-clause-same
returns-clause-same c =
    let names = c.self.inside.names.items in
    let now = c.sort.new.self.items in
    subst (λ (old : List (List ℕ)). IsPermutation old (map string_bytes now)) c.self.view_is
    (IsPermutation-map string_bytes names now c.sort.ensures.permutation)

pub returns-clause-ok : goal.returns-clause-ok
returns-clause-ok c = sorted-bytes string_bytes
    (slice_cmp nat_cmp) c.sort.new.self.items c.in_ok-sort.ensures.sorted
