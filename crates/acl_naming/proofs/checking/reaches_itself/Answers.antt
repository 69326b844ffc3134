use Rattle.std.proofs.Common.{◌≡◌, ◌<◌, ◌≤◌, true, ap, sym, ◌∙◌, arith, true≢false}
use Rattle.acl_naming.specs.MarkSteps.{among}
use Rattle.acl_naming.specs.RankSteps.{rank_at}
use Rattle.acl_naming.specs.Tables.{name_at}
use Rattle.acl_naming.proofs.GraphLaws.{leads_at}
use Rattle.acl_naming.proofs.MarkLaws.{by_all}
use Rattle.acl_naming.proofs.WalkLaws.{comes_back, higher_apart, itself_all}
use Rattle.acl_naming.proofs.checking.reaches_itself.Goals as goal

pub returns-then-lowest-ranks-clause-missed : goal.returns-then-lowest-ranks-clause-missed
returns-then-lowest-ranks-clause-missed c = λ e there r.
    let base = c.args.table.now in
    let ranks = c.args.ranks.now in
    let i = c.args.index in
    let links = c.links_at.result.now in
    higher_apart base (rank_at ranks) c.requires.steady (name_at base i) i there (λ j l.
    let named : among j links ≡ true = ap (among j) c.links_at.ensures.exact ∙ sym (leads_at base base i j) ∙ l in
    let own : rank_at ranks i < c.lowest.result = c.if-lowest-ranks.true in
    omega (arith, own, by_all (λ k. c.lowest.result ≤ rank_at ranks k) links j c.lowest.ensures named)) r

pub returns-clause-found : goal.returns-clause-found
returns-clause-found c = λ h.
    let base = c.args.table.now in
    let i = c.args.index in
    let places = c.in_ok-places.places.items in
    comes_back base i places c.in_ok-places.ensures (ap (among i) (sym c.deref.ensures.value) ∙ sym c.contains.ensures.value ∙ h)

pub returns-clause-missed : goal.returns-clause-missed
returns-clause-missed c = λ e there r.
    let base = c.args.table.now in
    let i = c.args.index in
    let places = c.in_ok-places.places.items in
    let here : among i places ≡ true = itself_all base (name_at base i) i places there c.in_ok-places.ensures r in
    true≢false (sym here ∙ ap (among i) (sym c.deref.ensures.value) ∙ sym c.contains.ensures.value ∙ e)
