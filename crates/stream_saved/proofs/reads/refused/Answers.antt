-- `stream_saved::reads::refused`: the number is the one that is given, the energies are a fresh record's. Assumes nothing.
use mathlib.Core.Path.{ap₂}
use Rattle.std.specs.Prelude.{ℕ}
use Rattle.std.proofs.Common.{rules}
use Rattle.stream.specs.declared.Record.{Record}
use Rattle.stream_saved.specs.Lines.{no_record}
use Rattle.stream_saved.proofs.reads.refused.Goals as goal

pub returns : goal.returns
unfolding no_record
returns g c =
    ap₂ (λ (n : ℕ) (r : Record). record { code = n; rec = record { energies = r.energies; next = 4294967296 } }) (search rules) c.fresh.ensures
