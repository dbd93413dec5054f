-- `entdec::Reader::raw`: by whether enough bits wait. Assumes nothing.
use mathlib.Core.Path.{ap, ◌∙◌}
use Prim.Native.Nat.{◌-◌, ◌/◌}
use native.Mathlib.Omega.{arith}
use borrow.Author.Tests.{lt-ltb, le-ltb}
use Rattle.entdec.specs.declared.Reader.{Reader}
use Rattle.entdec.specs.Read.{shed, fetches, read_bits}
use Rattle.entdec.specs.Symbols.{read_sym}
use Rattle.entdec.proofs.RawBits.{fetches-waiting, fetches-total}
use Rattle.entdec.proofs.Reader.raw.Goals as goal

pub shed-requires : goal.shed-requires
shed-requires c =
    let a = c.args in
    let p = c.requires in
    let w = fetches-waiting ((32 - a.self.waiting) / 8) a.s.now a.self in
    let t = fetches-total ((32 - a.self.waiting) / 8) a.s.now a.self in
    rw c.fill.ensures (p.0, omega arith, omega arith)

pub returns-then-self-n : goal.returns-then-self-n
unfolding read_sym read_bits
returns-then-self-n c =
    let a = c.args in
    simp (lt-ltb a.self.waiting a.n (omega arith)) (c.shed.ensures ∙ ap (λ (d : Reader). shed a.n d) c.fill.ensures)

pub returns-else-self-n : goal.returns-else-self-n
unfolding read_sym read_bits fetches
returns-else-self-n c =
    let a = c.args in
    simp (le-ltb a.self.waiting a.n (omega arith)) c.shed-else-self-n.ensures
