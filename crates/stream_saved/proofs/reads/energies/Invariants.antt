-- `stream_saved::reads::energies`: what is left of the fields gives what all of them gave. Assumes nothing.
use mathlib.Core.Path.{◌≡◌}
use lib.ListN.{length, drop}
use Rattle.stream_saved.specs.Loop.{none_read, read_from}
use Rattle.stream_saved.proofs.Energies.{said}
use Rattle.stream_saved.proofs.reads.energies.Given as goal

abbrev pub invariant-loop-k : goal.invariant-loop-k
invariant-loop-k l =
    read_from l.f (length l.yielded) (drop (length l.yielded) (said l.s l.letter)) ≡ read_from none_read 0 (said l.s l.letter)
