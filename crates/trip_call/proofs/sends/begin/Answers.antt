-- `trip_call::sends::begin`: the bytes are at most 1,275. Assumes nothing.
use mathlib.Core.Path.{refl, sym}
use lib.ListN.{length}
use Rattle.trip_theorem.proofs.Gates.{new-writer}
use Rattle.trip_call.proofs.Counting.{room-part}
use Rattle.trip_call.proofs.sends.begin.Goals as goal

pub slice_bounds-room-end : goal.slice_bounds-room-end
slice_bounds-room-end c = let a = c.args in (new-writer (length a.bytes.now) a.w c.requires).0

pub slice_bounds-send-end : goal.slice_bounds-send-end
slice_bounds-send-end c = let a = c.args in room-part (length a.bytes.now) _ refl
    (new-writer (length a.bytes.now) a.w c.requires).0

pub send-requires : goal.send-requires
send-requires c = let a = c.args in (
  (new-writer (length a.bytes.now) a.w
      c.requires).0,
  sym (room-part (length a.bytes.now) _ refl
      (new-writer (length a.bytes.now) a.w c.requires).0),
)
