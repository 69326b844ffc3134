use Rattle.std.proofs.Common.{List, subst}
use Rattle.acl_text.specs.declared.file_lines.Line.{Line}
use Rattle.acl_words.specs.Places.{HaveLinePlaces}
use Rattle.acl_policy.proofs.SlipPlaces.{slip_has_label}
use Rattle.acl_policy.proofs.policy_parsing.parse.Goals as goal

pub returns-clause-places : goal.returns-clause-places
returns-clause-places c = c.read_policy.ensures.places c.args.sources.now.lines
    (subst (λ (ls : List Line). HaveLinePlaces ls c.new-words.result) c.lines.ensures.lines c.new-words.ensures.places)

pub returns-clause-slip : goal.returns-clause-slip
returns-clause-slip c = c.read_policy.ensures.slip c.args.sources.now.lines
    (subst (λ (ls : List Line). HaveLinePlaces ls c.new-words.result) c.lines.ensures.lines c.new-words.ensures.places)

pub returns-clause-labelled : goal.returns-clause-labelled
returns-clause-labelled c = slip_has_label c.args.sources.now c.read_policy.result c.lines.ensures.labelled
    (c.read_policy.ensures.slip c.args.sources.now.lines
    (subst (λ (ls : List Line). HaveLinePlaces ls c.new-words.result) c.lines.ensures.lines c.new-words.ensures.places))
