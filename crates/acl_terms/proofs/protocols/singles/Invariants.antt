use Rattle.std.proofs.Common.{◌≡◌, ◌++◌, map, drop}
use Rattle.std.specs.List.{All}
use Rattle.acl_sets.specs.Ranges.{IsRange}
use Rattle.acl_terms.specs.SetSteps.{single}
use Rattle.acl_terms.proofs.protocols.singles.Given as goal

abbrev pub invariant-loop-number : goal.invariant-loop-number
invariant-loop-number l = record {
  same : l.out.items ++ map single (drop l.number-index l.numbers) ≡ map single l.numbers;
  fit : All (λ r. IsRange 255 r) l.out.items;
}
