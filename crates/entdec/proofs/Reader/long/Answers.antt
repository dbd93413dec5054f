-- `entdec::Reader::long`: eight upper digits and b raw ones make a number of 32 bits; past the last value it is the last. Assumes nothing.
use mathlib.Core.Path.{◌≡◌, sym}
use Prim.Native.Nat.{◌+◌, ◌*◌, ◌/◌, ◌%◌, ◌^◌, ◌<◌}
use native.Mathlib.Omega.{arith}
use Rattle.entcode.specs.Sym.{flat_model}
use Rattle.entdec.specs.Read.{read_bits, decoded_place}
use Rattle.entdec.specs.Symbols.{read_one, read_sym}
use Rattle.entdec.proofs.Places.{place_less}
use Rattle.entdec.proofs.Pulls.{total-most, ends-after}
use Rattle.entdec.proofs.RawBits.{shl_byte}
use Rattle.entdec.proofs.Uniform.{joined, raw-lt, sum_fits, long_in, long-out}
use Rattle.entdec.proofs.Reader.long.Goals as goal
use Rattle.entdec.proofs.Reader.long.Goals.{After-raw-z, After-struct_known-1}

-- the raw bits, and the sum, in the definition's terms and with its bound
low : (c : After-raw-z)
    → c.raw-z.result ≡ read_bits c.args.b c.args.s.now
    c.flat-y.result.next
unfolding read_sym
low c = c.raw-z.ensures

sum : (c : After-struct_known-1) → let a = c.args in
    (c.flat-y.result.value * 2 ^ a.b % 2 ^ 32 + c.raw-z.result.value ≡ joined a.m a.b a.s.now
    a.self)
    × (joined a.m a.b a.s.now a.self < 2 ^ 32)
sum c =
    let a = c.args in
    let p = c.requires in
    let y = read_one (flat_model (a.m / 2 ^ a.b + 1)) a.s.now a.self in
    let l : y.value < 256 = omega (arith, place_less (a.m / 2 ^ a.b + 1) a.self (omega arith)) in (
      rw (low (goal.at.After-struct_known-1 c).After-raw-z, c.flat-y.ensures, shl_byte y.value a.b l p.b_bound.0),
      sum_fits y.value a.b _ l p.b_bound.0 (raw-lt a.s.now y.next a.b),
    )

pub raw-z-requires : goal.raw-z-requires
raw-z-requires c =
    let a = c.args in
    let p = c.requires in
    let ft = a.m / 2 ^ a.b + 1 in
    let v = decoded_place ft a.self in
    rw c.flat-y.ensures (
      omega arith,
      omega (arith, ends-after v (v + 1) ft (a.self.rng / ft) a.s.now a.self),
      omega (arith, total-most v (v + 1) ft (a.self.rng / ft) a.s.now a.self),
    )

pub overflow_add-v : goal.overflow_add-v
overflow_add-v c = record { fits = rw (sum (goal.at.overflow_add-v c).After-struct_known-1).0 (sum (goal.at.overflow_add-v c).After-struct_known-1).1 }

pub returns-then-v-m : goal.returns-then-v-m
returns-then-v-m c =
    let a = c.args in
    rw ((sum (goal.at.returns-then-v-m c).After-struct_known-1).0, low (goal.at.returns-then-v-m c).After-raw-z, c.flat-y.ensures)
    (sym (long_in a.m a.b a.s.now a.self (rw (sum (goal.at.returns-then-v-m c).After-struct_known-1).0 at c.if-v-m.true)))

pub returns-else-v-m : goal.returns-else-v-m
returns-else-v-m c =
    let a = c.args in
    rw (c.marked.ensures, low (goal.at.returns-else-v-m c).After-raw-z, c.flat-y.ensures)
    (sym (long-out a.m a.b a.s.now a.self (rw (sum (goal.at.returns-else-v-m c).After-struct_known-1).0 at c.if-v-m.false)))
