-- `entdec::Reader::symbol`: the search from entry k on finds what the whole search finds, and hi and lo are the ends of entry k. Assumes nothing.
use Rattle.laws.proofs.Powers.{shr_some}
use Rattle.laws.proofs.Division.{share-le, factor_pos}
use native.Mathlib.Nat.{le_of_lt}
use Prim.Native.Nat.{ℕ, ◌+◌, ◌*◌, ◌/◌, ◌^◌, ◌<◌}
use mathlib.Core.Path.{◌≡◌, sym, ap}
use native.Mathlib.Numerals.{add-one}
use native.Mathlib.Omega.{arith}
use lib.ListN.{length}
use lib.Pow.{pow_mono}
use Rattle.entcode.specs.Sym.{find_sym}
use Rattle.entdec.specs.Read.{decoded_place}
use Rattle.entdec.proofs.Tables.{below, falls-length, falls-next, search_more, search_here, symbol-at}
use Rattle.entdec.proofs.Reader.symbol.Goals as goal
use Rattle.entdec.proofs.Reader.symbol.Goals.{In-loop-lo}

-- an entry above the value is not the last
more : (c : In-loop-lo) → c.loop-lo.k + 1 < length c.args.t.now
more c =
    let a = c.args in
    let p = c.requires in
    let l = c.loop-lo in
    falls-next (2 ^ a.ftb) a.t.now l.k p.t_nonzero.1 l.invariant.0 (factor_pos a.self.val (a.self.rng / 2 ^ a.ftb) _ (omega arith))

pub overflow_mul-lo : goal.overflow_mul-lo
overflow_mul-lo c =
    let a = c.args in
    let p = c.requires in
    rw c.wide.ensures.0 (omega (arith, share-le a.self.rng (2 ^ a.ftb) _ (le_of_lt (below (2 ^ a.ftb) a.t.now 0 p.t_nonzero.1 p.t_nonzero.0))))

pub bounds-t-k : goal.bounds-t-k
bounds-t-k c = more (goal.at.bounds-t-k c).In-loop-lo

pub overflow_mul-lo-in-loop-lo : goal.overflow_mul-lo-in-loop-lo
overflow_mul-lo-in-loop-lo c =
    let a = c.args in
    let p = c.requires in
    rw c.wide-in-loop-lo.ensures.0
    (omega (
      arith,
      share-le a.self.rng (2 ^ a.ftb) _ (le_of_lt (below (2 ^ a.ftb) a.t.now _ p.t_nonzero.1 (more (goal.at.overflow_mul-lo-in-loop-lo c).In-loop-lo))),
    ))

pub loop-lo-preserved : goal.loop-lo-preserved
loop-lo-preserved c =
    let a = c.args in
    let p = c.requires in
    let l = c.loop-lo in (
      more (goal.at.loop-lo-preserved c).In-loop-lo,
      ap (λ (x : ℕ). a.self.rng / 2 ^ a.ftb * x) c.wide-in-loop-lo.ensures.0,
      omega arith,
      omega (arith, share-le a.self.rng (2 ^ a.ftb) _ (le_of_lt (below (2 ^ a.ftb) a.t.now l.k p.t_nonzero.1 l.invariant.0))),
      rw add-one l.invariant.1,
      omega (
        arith,
        search_more a.self a.t.now (2 ^ a.ftb) (shr_some a.self.rng a.ftb 8 p.le_ftb.1 (omega arith)) p.t_nonzero.1 l.k
            l.invariant.0 (omega arith),
      ),
    )

pub overflow_cast-result : goal.overflow_cast-result
overflow_cast-result c =
    let a = c.args in
    let p = c.requires in
    omega (arith, falls-length (2 ^ a.ftb) a.t.now p.t_nonzero.1, pow_mono p.le_ftb.1)

pub returns : goal.returns
returns c =
    let a = c.args in
    let p = c.requires in
    let l = c.loop-lo in
    let ft = 2 ^ a.ftb in
    let found : find_sym (decoded_place ft a.self) ft a.t.now ≡ l.k =
    omega (
      arith,
      search_here a.self a.t.now ft (shr_some a.self.rng a.ftb 8 p.le_ftb.1 (omega arith)) p.t_nonzero.1 l.k l.invariant.0
          (omega arith),
    ) in
    rw (c.narrow.ensures, l.invariant.4, l.invariant.1) (sym (symbol-at a.s.now a.self a.t.now a.ftb l.k p.t_nonzero.1 l.invariant.0 found))
