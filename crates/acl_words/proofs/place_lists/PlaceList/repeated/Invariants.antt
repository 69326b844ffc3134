use Rattle.std.proofs.Common.{◌≡◌}
use Rattle.std.proofs.Math.ListN.{replicate}
use Rattle.acl_words.proofs.place_lists.PlaceList.repeated.Given as goal

abbrev pub invariant-loop : goal.invariant-loop
invariant-loop l = l.places ≡ replicate l.counter l.place
