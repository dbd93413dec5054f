-- `lister::work::run`: the invariant is what holds between turns (`Running`); each turn uses up one of the count. Assumes nothing.
use mathlib.Core.Path.{◌≡◌}
use lib.ListN.{length}
use Rattle.tool_lines.specs.Tool.{Running}
use Rattle.lister.specs.Stream.{lister}
use Rattle.lister.proofs.work.run.Given as goal

abbrev pub invariant-loop-s : goal.invariant-loop-s
invariant-loop-s l =
    (length l.block ≡ length l.initial.block) × (length l.kept ≡ length l.initial.kept) × (length l.out ≡ length l.initial.out)
    × (length l.seen ≡ length l.initial.seen) × (length l.sent ≡ length l.initial.sent)
    × (length l.reads ≡ length l.initial.reads) × (length l.writes ≡ length l.initial.writes)
    × Running lister 0 l.s.number l.s.reader l.s.pen 64336 1200 l.block l.kept l.out l.seen l.sent l.reads l.writes

abbrev pub decreases-loop-s : goal.decreases-loop-s
decreases-loop-s l = l.turns.remaining
