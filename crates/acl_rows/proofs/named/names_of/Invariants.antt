use Rattle.std.proofs.Common.{◌≡◌, map, take}
use Rattle.acl_text.specs.Cuts.{views}
use Rattle.acl_rows.proofs.named.names_of.Given as goal

abbrev pub invariant-loop-item : goal.invariant-loop-item
invariant-loop-item g l = views l.names.items ≡ map g.T.Named.name (take l.item-index l.items)
