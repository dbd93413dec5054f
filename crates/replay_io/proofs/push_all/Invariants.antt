-- `replay_io::push_all`: the invariant: the text has the first bytes of s after it, as far as there is room.
use Rattle.std.proofs.Common.{◌≡◌, length, take}
use Rattle.replay_io.specs.Text.{appended}
use Rattle.replay_io.proofs.push_all.Given as goal

abbrev pub invariant-loop-b : goal.invariant-loop-b
invariant-loop-b l = (length l.out ≡ length l.initial.out)
    × (take l.k l.out ≡ appended (length l.initial.out) (take l.n l.initial.out) (take l.b-index l.s))
