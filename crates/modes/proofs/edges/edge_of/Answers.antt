-- `modes::edges::edge_of`: the const is the list of the definition, whose greatest entry is the last. Assumes nothing.
use Rattle.modes.specs.Edges.{edges, edge}
use Rattle.modes.proofs.Entries.{read}
use Rattle.modes.proofs.EdgeRule.{edge-most}
use Rattle.modes.proofs.edges.edge_of.Goals as goal

pub returns : goal.returns
unfolding edge edges
returns c = read c.wide.ensures.0 (edge-most c.args.j)
