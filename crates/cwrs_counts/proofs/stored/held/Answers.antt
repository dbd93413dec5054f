-- `cwrs_counts::stored::held`: a row has a place exactly when its count fits. Assumes nothing.
use Prim.Native.Nat.{ℕ}
use mathlib.Core.Path.{ap, ◌∙◌}
use lib.Dec.{ltb}
use Rattle.cwrs_counts.proofs.Table.{held_iff}
use Rattle.cwrs_counts.proofs.stored.held.Goals as goal

pub returns : goal.returns
returns c =
    ap (λ (x : ℕ). ltb c.args.b x) c.length_of.ensures ∙ held_iff c.args.a c.args.b c.requires.0 c.requires.1
