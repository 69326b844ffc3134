use Rattle.acl_filters.proofs.TakenFilters.{alone}
use Rattle.program_tests.proofs.tests.rendering.edge_is_rendered.Goals as goal

pub is_rendered-requires-clause-apart : goal.is_rendered-requires-clause-apart
is_rendered-requires-clause-apart g = alone g.in_ok-edge.edge
