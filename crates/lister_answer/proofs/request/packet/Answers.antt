-- `lister_answer::request::packet`: each test is one of `well_formed`, and the bytes are those that `hex::bytes` stored. Assumes nothing.
use mathlib.Core.Path.{ap}
use mathlib.Core.List.{List}
use Prim.Native.Nat.{ℕ}
use lib.ListN.{length}
use Rattle.lister_answer.proofs.Requests.{packet-long, packet-fields, packet_good, packet_bad}
use Rattle.lister_answer.proofs.request.packet.Goals.{then-s-gt2600-via-then-s-gt2600, then-s-gt2600-via-else-s-gt2600+then-count-ne7}
use Rattle.lister_answer.proofs.request.packet.Goals as goal

pub returns-then-s-gt2600 : goal.returns-then-s-gt2600
returns-then-s-gt2600 c =
    let a = c.args in
    elim c.then-s-gt2600.branch [
      | then-s-gt2600-via-then-s-gt2600 w ↦ packet-long a.s.now a.out.now w.if-s-gt2600.true
      | then-s-gt2600-via-else-s-gt2600+then-count-ne7 w ↦ packet-fields a.s.now a.out.now w.count.ensures w.if-count-ne7.true
    ]

pub returns-then-bytes : goal.returns-then-bytes
returns-then-bytes c =
    let a = c.args in
    let f = c.field-digits.ensures in
    packet_good a.s.now a.out.now c.requires c.if-s-gt2600.false c.count.ensures c.if-count-ne7.false f c.bytes.ensures c.if-bytes.true
    (ap (λ (l : List ℕ). length l) f)

pub returns-else-bytes : goal.returns-else-bytes
returns-else-bytes c =
    let a = c.args in
    packet_bad a.s.now a.out.now c.requires c.field-digits.ensures c.bytes.ensures c.if-bytes.false
