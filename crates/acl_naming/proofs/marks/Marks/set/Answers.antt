use Rattle.std.proofs.Common.{List, Bool, true, slice_set, ap, ◌∙◌}
use Rattle.acl_naming.proofs.ClearedMarks.{marked_walk}
use Rattle.acl_naming.proofs.marks.Marks.set.Goals as goal

pub returns : goal.returns
returns c =
    marked_walk c.self.inside.walk c.self.inside.walks.items c.args.index
    ∙ ap (λ (bs : List Bool). slice_set bs c.args.index true) c.self.view_is
