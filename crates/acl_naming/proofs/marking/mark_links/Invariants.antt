use Rattle.std.proofs.Common.{◌≡◌, ◌++◌, drop, length}
use Rattle.acl_naming.specs.MarkSteps.{mark_all, unmarked}
use Rattle.acl_naming.proofs.marking.mark_links.Given as goal

abbrev pub invariant-loop-link : goal.invariant-loop-link
invariant-loop-link l = record {
  fits : length l.marks ≡ length l.initial.marks;
  goes : mark_all (drop l.link-index l.links) l.marks ≡ mark_all l.links l.initial.marks;
  adds : l.places.items ++ unmarked (drop l.link-index l.links) l.marks
      ≡ l.initial.places.items ++ unmarked l.links l.initial.marks;
}
