-- `cwrs_counts::stored::entry`: a count that fits 32 bits is stored, and what is stored is the count. Assumes nothing.
use Prim.Native.Nat.{ℕ, ◌%◌, ◌/◌}
use mathlib.Core.Path.{ap, ◌∙◌}
use mathlib.Core.Bool.{cond}
use native.Mathlib.Omega.{arith}
use lib.Dec.{eqb}
use Rattle.cwrs_counts.proofs.Table.{stored, value, halved}
use Rattle.cwrs_counts.proofs.stored.entry.Goals as goal

pub pair_of-requires : goal.pair_of-requires
pair_of-requires c =
    (omega arith, (stored c.args.a c.args.b c.requires.0 c.requires.1 c.requires.2).0)

pub returns-else-a-lt2 : goal.returns-else-a-lt2
returns-else-a-lt2 c =
    let a = c.args in
    let s = stored a.a a.b c.requires.0 c.requires.1 c.requires.2 in
    c.half.ensures
    ∙ ap (λ (w : ℕ). cond (eqb (a.b % 2) 0) (w % 4294967296) (w / 4294967296)) c.pair_of.ensures
    ∙ halved a.a a.b s.0
    ∙ (value a.a a.b s.0 s.1).0
