-- The tables keep their rules: each by the lemma that its computed test gives. Assumes nothing.
use mathlib.Core.Path.{refl}
use Rattle.modes.specs.Edges.{edges, edge}
use Rattle.modes.specs.Rules.{TablesKeepRules}
use Rattle.modes.proofs.CacheRule.{row_at}
use Rattle.modes.proofs.EdgeRule.{edge-lt}
use Rattle.modes.proofs.EnergyModelRule.{pair_legal}
use Rattle.modes.proofs.FractionRule.{fraction-is}
use Rattle.modes.proofs.LogWidthRule.{log_width-is}
use Rattle.modes.proofs.VectorRule.{step-first, step-le}

-- what specs/Rules.antt states
pub tables-keep-rules : TablesKeepRules
unfolding edge edges
tables-keep-rules =
    record {
      first_edge = refl;
      edges_rise = edge-lt;
      last-edge = refl;
      widths_logged = log_width-is;
      choices_logged = fraction-is;
      vectors-begin = step-first;
      vectors_rise = step-le;
      rows_start = row_at;
      pairs_legal = pair_legal;
    }
