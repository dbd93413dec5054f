-- `cwrs_counts::stored::edge`: the counts of rows 0 and 1. Assumes nothing.
use mathlib.Core.Path.{◌∙◌}
use mathlib.Core.Bool.{◌||◌}
use lib.Dec.{eqb}
use Rattle.laws.proofs.Tests.{split_on}
use Rattle.cwrs_counts.proofs.Table.{edge_one, edge_none}
use Rattle.cwrs_counts.proofs.stored.edge.Goals as goal

pub returns : goal.returns
returns c =
    let a = c.args.a in
    let b = c.args.b in
    c.from.ensures
    ∙ split_on (eqb a 1 || eqb b 0)
    (λ t. rw t (edge_one a b c.requires.0 c.requires.1 t))
    (λ t. rw t (edge_none a b c.requires.0 c.requires.1 t))
