use Rattle.std.proofs.Common.{◌≡◌, ◌≢◌, ◌⊎◌, inl, inr, [], ap, length, sym, subst, ◌∙◌, ◌==◌}
use Rattle.std.proofs.lemmas.Bool.{false≢true}
use Rattle.acl_text.specs.Cuts.{views}
use Rattle.acl_rows.specs.Scans.{TakesSection}
use Rattle.acl_rows.proofs.ScanLaws.{starts, takes_next, takes_none}
use Rattle.acl_rows.proofs.scanning.scan_sections.Goals as goal
use Rattle.acl_rows.proofs.scanning.scan_sections.Goals.{then-count-which, else-count-which}

pub loop-rest-init : goal.loop-rest-init
loop-rest-init g c =
    let of = g.L.Language in
    starts of.is_section of.names of.rows of.outcome c.args.text.now c.args.which c.args.packet.now (views c.new-names.result.items)
    (ap views c.new-names.ensures.items)

pub returns-in_default-clause-none : goal.returns-in_default-clause-none
returns-in_default-clause-none g c =
    let of = g.L.Language in
    let more : c.loop-rest.rest.now ≡ [] → ⊥ =
    λ e. false≢true (sym c.loop-rest-test.true ∙ c.is_empty.ensures ∙ ap (λ r. length r == 0) e) in
    let takes = subst (TakesSection of.is_section of.names of.rows of.outcome c.loop-rest.rest.now c.args.packet.now (views c.loop-rest.names.items)
    (views c.take_section.new.names.items)) c.in_default.is c.in_ok-taken.ensures in
    takes_none of.is_section of.names of.rows of.outcome c.loop-rest.invariant more takes

pub loop-rest-preserved : goal.loop-rest-preserved
loop-rest-preserved g c =
    let of = g.L.Language in
    let t = c.in-Some.taken in
    let more : c.loop-rest.rest.now ≡ [] → ⊥ =
    λ e. false≢true (sym c.loop-rest-test.true ∙ c.is_empty.ensures ∙ ap (λ r. length r == 0) e) in
    let takes = subst (TakesSection of.is_section of.names of.rows of.outcome c.loop-rest.rest.now c.args.packet.now (views c.loop-rest.names.items)
    (views c.take_section.new.names.items)) c.in-Some.is c.in_ok-taken.ensures in
    let asked : ((c.loop-rest.count ≡ c.args.which) × (c.if-count-which.outcome ≡ t.outcome))
    ⊎ ((c.loop-rest.count ≢ c.args.which) × (c.if-count-which.outcome ≡ c.loop-rest.outcome)) =
    elim c.if-count-which.branch [
      | then-count-which w ↦ inl (w.if-count-which.true, w.outcome-is)
      | else-count-which w ↦ inr (w.if-count-which.false, w.outcome-is)
    ] in
    takes_next of.is_section of.names of.rows of.outcome t c.loop-rest.invariant more takes asked
