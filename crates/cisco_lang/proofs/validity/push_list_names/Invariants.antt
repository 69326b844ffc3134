use Rattle.std.proofs.Common.{◌≡◌, ◌++◌, map, take}
use Rattle.acl_text.specs.Cuts.{views}
use Rattle.cisco_lang.proofs.validity.push_list_names.Given as goal

abbrev pub invariant-loop-list : goal.invariant-loop-list
invariant-loop-list l = views l.names.items ≡ views l.initial.names.items ++ map (λ a. a.name) (take l.list-index l.section.lists)
