use Rattle.std.proofs.Common.{◌≡◌, ℕ, ◌<◌, ◌≤◌, ◌++◌, List, length, get_or, ap, ◌∙◌, arith}
use Rattle.std.proofs.lemmas.Grind.{get_or_default_zero}
use Rattle.acl_naming.specs.Definitions.{items_at}
use Rattle.acl_naming.specs.GraphSteps.{targets}
use Rattle.acl_naming.specs.MarkSteps.{unmarked}
use Rattle.acl_naming.proofs.WalkLaws.{cleared, walk_started, done_within, walk_stepped, done_fits, walk_ends}
use Rattle.acl_naming.proofs.marking.follow_links.Goals as goal

pub loop-done-init : goal.loop-done-init
loop-done-init c =
    let base = c.args.table.now in
    let marks = c.clear.new.self in
    let links = c.links_at.result.now in
    walk_started base c.args.index links marks c.mark_links.new.marks c.mark_links.new.places.items c.links_at.ensures.exact
    (cleared base marks c.len.result c.len.ensures c.in_ok-clear.ensures)
    c.in_ok-mark_links.ensures.marked (c.in_ok-mark_links.ensures.added ∙ ap (λ (old : List ℕ). old ++ unmarked links marks) c.new-places.ensures.items)

pub links_at-requires-in-loop-done : goal.links_at-requires-in-loop-done
links_at-requires-in-loop-done c =
    let more : c.loop-done.done < length c.loop-done.places.items = omega arith in
    omega (arith, c.index.ensures, get_or_default_zero c.loop-done.places.items c.loop-done.done c.index.result.now more, done_within c.args.table.now c.args.index c.loop-done.marks c.loop-done.places.items c.loop-done.done more c.loop-done.invariant)

pub loop-done-preserved : goal.loop-done-preserved
loop-done-preserved c =
    let base = c.args.table.now in
    let done = c.loop-done.done in
    let old = c.loop-done.places.items in
    let links = c.links_at-in-loop-done.result.now in
    let more : done < length old = omega arith in
    let next : c.index.result.now ≡ get_or old done 0 = c.index.ensures ∙ get_or_default_zero old done c.index.result.now more in
    walk_stepped base c.args.index c.loop-done.marks old done more c.loop-done.invariant links c.mark_links-in-loop-done.new.marks
    c.mark_links-in-loop-done.new.places.items
    (c.links_at-in-loop-done.ensures.exact ∙ ap (λ (j : ℕ). targets base (items_at base j)) next)
    c.in_ok-mark_links-2.ensures.marked c.in_ok-mark_links-2.ensures.added

pub loop-done-smaller : goal.loop-done-smaller
loop-done-smaller c =
    let more : c.loop-done.done < length c.loop-done.places.items = omega arith in
    omega (arith, done_fits c.args.table.now c.args.index c.loop-done.marks c.loop-done.places.items c.loop-done.done more c.loop-done.invariant)

pub returns : goal.returns
returns c =
    let places = c.loop-done.places.items in
    let all : length places ≤ c.loop-done.done = omega arith in
    walk_ends c.args.table.now c.args.index c.loop-done.marks places c.loop-done.done all c.loop-done.invariant
