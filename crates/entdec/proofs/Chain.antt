-- Workers one after the other: an accepted state is ready for many symbols, and one symbol leaves it ready for one less. Assumes nothing.
use Prim.Native.Nat.{ℕ, suc, ◌≤◌}
use mathlib.Core.Path.{◌≡◌}
use mathlib.Core.Bool.{true}
use mathlib.Core.List.{List}
use native.Mathlib.Omega.{arith}
use Rattle.entcode.specs.Sym.{Shape, length_ok, shape_ok, list_ok}
use Rattle.entdec.specs.declared.Reader.{Reader}
use Rattle.entdec.specs.Symbols.{read_sym}
use Rattle.entdec.specs.Ready.{Ready}
use Rattle.entdec.proofs.Accepted.{Sound}
use Rattle.entdec.proofs.Found.{ShapeFound}
use Rattle.entdec.proofs.Steps.{Good, Step, read_step}

-- an accepted state has room for 15,000 symbols
pub sound_ready : (k : ℕ) (d : Reader) → Sound d → k ≤ 15000 → Ready k d
sound_ready k d f h =
    let c = f.counts in
    record {
      range_gt = c.range_gt;
      range_le = c.range_le;
      val-lt = f.val-lt;
      waiting-le = c.waiting-le;
      total-le = omega (arith, c.total-le);
      offs-le = omega (arith, c.storage-le, f.offs-le);
      ends-le = omega (arith, c.storage-le, f.ends-le);
    }

-- ready for more is ready for fewer
pub ready_less : (k m : ℕ) (d : Reader) → k ≤ m → Ready m d → Ready k d
ready_less k m d h r =
    record {
      range_gt = r.range_gt;
      range_le = r.range_le;
      val-lt = r.val-lt;
      waiting-le = r.waiting-le;
      total-le = omega (arith, r.total-le);
      offs-le = omega (arith, r.offs-le);
      ends-le = omega (arith, r.ends-le);
    }

-- ---- one symbol on

-- a ready state is in order
pub ready_good : (k : ℕ) (d : Reader) → Ready k d → Good d
ready_good k d r = record { range_gt = r.range_gt; range_le = r.range_le; val-lt = r.val-lt; waiting-le = r.waiting-le }

-- a step that adds at most 64 to each count
pub step_ready : (s : List ℕ) (n k : ℕ) (d e : Reader) → n ≤ 64 → Ready (suc k) d → Step s n d e → Ready k e
step_ready s n k d e h r a =
    record {
      range_gt = a.good.range_gt;
      range_le = a.good.range_le;
      val-lt = a.good.val-lt;
      waiting-le = a.good.waiting-le;
      total-le = omega (arith, r.total-le, a.total-le);
      offs-le = omega (arith, r.offs-le, a.offs-le);
      ends-le = omega (arith, r.ends-le, a.ends-le);
    }

-- a symbol of any kind
pub ready_after : (k : ℕ) (h : Shape) (s : List ℕ) (d : Reader) → Ready (suc k) d → length_ok h ≡ true → shape_ok h ≡ true → list_ok h ≡ true → ShapeFound h d
    → Ready k (read_sym h s d).next
ready_after k h s d r a b c f = step_ready s 49 k d _ (omega arith) r (read_step h s d (ready_good (suc k) d r) a b c f)
