-- `text::hex::store`: the invariant: the bytes of what remains, stored from place i on, give what all bytes give stored from 0 on. Assumes nothing.
use Prim.Native.Nat.{◌+◌, ◌*◌}
use mathlib.Core.Path.{◌∙◌}
use native.Mathlib.Omega.{arith}
use lib.ListN.{length-set}
use Rattle.text.proofs.Values.{digit_at, store-next, store-last}
use Rattle.text.proofs.hex.store.Goals as goal

pub byte-requires : goal.byte-requires
byte-requires c =
    let s = c.args.s.now in
    let i = c.loop-i.i in
    (digit_at 16 s (2 * i) c.requires.1 (omega arith), digit_at 16 s (2 * i + 1) c.requires.1 (omega arith))

pub loop-i-preserved : goal.loop-i-preserved
loop-i-preserved c =
    let l = c.loop-i in
    (simp length-set l.invariant.0, store-next c.args.s.now l.out l.i (omega arith) c.byte.ensures ∙ l.invariant.1)

pub returns : goal.returns
returns c =
    let l = c.loop-i in
    store-last c.args.s.now l.out l.i (omega arith) ∙ l.invariant.1
