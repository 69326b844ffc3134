-- The terms so far are not shaded: the first slip is that of the terms that are left.
use Rattle.std.proofs.Common.{◌≡◌, List, drop}
use Rattle.std.specs.List.{enumerate_from}
use Rattle.acl_host.specs.declared.days.Day.{Day}
use Rattle.acl_target.specs.declared.targets.Target.{Target}
use Rattle.acl_text.specs.Refusals.{first_in}
use Rattle.acl_shade.specs.ShadedPlaces.{AreShadedPlaces}
use Rattle.acl_job.specs.ShadedSlips.{slip_at, terms_shaded}
use Rattle.acl_job.proofs.shading.refuse_in_block.Given as goal

abbrev pub invariant-loop-place : goal.invariant-loop-place
invariant-loop-place l = (targets : List Target) (today : Day) → AreShadedPlaces targets today l.terms l.places
    → first_in (slip_at targets today l.terms) (enumerate_from l.place (drop l.place l.terms))
    ≡ terms_shaded targets today l.terms
