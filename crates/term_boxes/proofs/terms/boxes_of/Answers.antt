use Rattle.term_boxes.proofs.TermSets.{own-ports, own-protocols}
use Rattle.term_boxes.proofs.terms.boxes_of.Goals as goal

pub push_passing-requires-clause-protocols : goal.push_passing-requires-clause-protocols
push_passing-requires-clause-protocols c =
    own-protocols c.args.family c.args.term.now _ c.in_ok-own.own c.in_ok-own.ensures

pub push_passing-requires-clause-ports : goal.push_passing-requires-clause-ports
push_passing-requires-clause-ports c = own-ports c.args.family c.args.term.now _ c.in_ok-own.own c.in_ok-own.ensures
