use Rattle.std.proofs.Common.{ap, ◌∙◌, map}
use Rattle.std.specs.String.{string_bytes}
use Rattle.acl_host.specs.Files.{put_in_order}
use Rattle.acl_host.proofs.ByteOrder.{bytes-insert}
use Rattle.acl_host.proofs.trees.FileNames.put_in_order.Goals as goal

pub returns-clause-ok : goal.returns-clause-ok
returns-clause-ok c =
    let place = rw (c.as_slice.ensures.value, c.as_bytes.ensures.value) at
    c.place_of-place.ensures.place in
    ap (map string_bytes) c.in_ok-insert.ensures.items
    ∙ bytes-insert string_bytes c.self.inside.names.items c.place_of-place.result c.args.item
    ∙ place
    ∙ ap (put_in_order (string_bytes c.args.item)) c.self.view_is
