-- `replay_io::push_hex`: the invariant: the text has the first bytes in hex after it, as far as there is room.
use Rattle.std.proofs.Common.{◌≡◌, length, take}
use Rattle.replay_io.specs.Text.{appended, hex_bytes_of}
use Rattle.replay_io.proofs.push_hex.Given as goal

abbrev pub invariant-loop-b : goal.invariant-loop-b
invariant-loop-b l = (length l.out ≡ length l.initial.out)
    × (take l.k l.out ≡ appended (length l.initial.out) (take l.n l.initial.out) (hex_bytes_of (take l.b-index l.s)))
