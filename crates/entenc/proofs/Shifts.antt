-- Renormalization, one step at a time. Assumes nothing.
use Prim.Native.Nat.{ℕ, suc, ◌+◌, ◌*◌, ◌/◌, ◌%◌, ◌<◌, ◌≤◌}
use mathlib.Core.Path.{◌≡◌, ap, subst}
use native.Mathlib.Omega.{arith}
use lib.Dec.{eqb}
use Rattle.laws.proofs.Tests.{cond-le}
use Rattle.entcode.specs.Range.{renorm_steps}
use Rattle.entcode.proofs.RenormSteps.{steps_done, steps_next}
use Rattle.entenc_sink.specs.Out.{Out, emit}
use Rattle.entenc_sink.specs.Carry.{settled, held_by, run_by}
use Rattle.entenc_sink.proofs.Outs.{emit-fit}
use Rattle.entenc.specs.Write.{Wr, out_of, with_range, shift_w, shifts_w, narrowed}
use Rattle.entenc.specs.Ready.{Renormalizing, Ready}

-- a step, from what goes out, what is held and what waits
pub shift_is : (w : Wr) (o : Out) (rem ext : ℕ)
    → o ≡ emit (settled w.st.rem w.st.ext (w.st.val / 8388608)) (out_of w)
    → rem ≡ held_by w.st.rem (w.st.val / 8388608)
    → ext ≡ run_by w.st.ext (w.st.val / 8388608)
    → with_range w o rem ext (w.st.val % 8388608 * 256) (w.st.rng * 256) (w.st.total + 8) ≡ shift_w w
unfolding shift_w
shift_is w o rem ext p q s = rw (p, q, s)

-- what is held is a byte, or none
pub held-le : (rem c : ℕ) → rem ≤ 256 → held_by rem c ≤ 256
held-le rem c h = cond-le (eqb c 255) (λ e. h) (λ e. omega arith)

-- the run grows by at most one
pub run-le : (ext c : ℕ) → run_by ext c ≤ ext + 1
run-le ext c = cond-le (eqb c 255) (λ e. omega arith) (λ e. omega arith)

-- ---- steps that lie ahead

-- ready for more steps is ready for fewer
pub renorm_fewer : (k m : ℕ) (w : Wr) → k ≤ m → Renormalizing m w → Renormalizing k w
renorm_fewer k m w h r =
    record {
      fit = r.fit;
      range_pos = r.range_pos;
      range_le = r.range_le;
      end_lt = r.end_lt;
      rem-le = r.rem-le;
      ext-le = omega arith;
      total-le = omega arith;
    }

-- one step
pub renorm_step : (k : ℕ) (w : Wr) → Renormalizing (suc k) w → w.st.rng ≤ 8388608 → Renormalizing k (shift_w w)
unfolding shift_w
renorm_step k w r h =
    record {
      fit = emit-fit _ _ r.fit;
      range_pos = omega arith;
      range_le = omega arith;
      end_lt = omega arith;
      rem-le = held-le w.st.rem (w.st.val / 8388608) r.rem-le;
      ext-le = omega (arith, run-le w.st.ext (w.st.val / 8388608));
      total-le = omega arith;
    }

-- a range that is too small takes one at least
pub renorm_one : (w : Wr) → Renormalizing (renorm_steps w.st.rng) w → w.st.rng ≤ 8388608 → Renormalizing 1 w
renorm_one w r h = renorm_fewer 1 (renorm_steps w.st.rng) w (omega (arith, steps_next w.st.rng r.range_pos h)) r

-- the state after a narrowed range
pub renorm_narrow : (add rng : ℕ) (w : Wr) → Ready 1 w → 0 < rng → add + rng ≤ w.st.rng → Renormalizing 3 (narrowed add rng w)
renorm_narrow add rng w r p q =
    let s = r.sound in
    record {
      fit = s.fit;
      range_pos = p;
      range_le = omega (arith, s.range_le);
      end_lt = omega (arith, s.end_lt);
      rem-le = s.rem-le;
      ext-le = omega (arith, r.ext-le);
      total-le = omega (arith, r.total-le);
    }

-- ---- the loop

-- the writer after all steps that its range takes
abbrev pub normal_w : Wr → Wr
normal_w w = shifts_w (renorm_steps w.st.rng) w

-- one step: from w to the next, w'
pub record Shifted (w w' : Wr) : Type 0 where
  pub ready : Renormalizing (renorm_steps w'.st.rng) w'
  pub same : normal_w w ≡ normal_w w'
  pub fewer : renorm_steps w'.st.rng < renorm_steps w.st.rng

-- a range that is too small takes a step
shifted_at : (w : Wr) → Renormalizing (renorm_steps w.st.rng) w → w.st.rng ≤ 8388608 → Shifted w (shift_w w)
unfolding shift_w shifts_w
shifted_at w r h =
    let e = steps_next w.st.rng r.range_pos h in
    record {
      ready = renorm_step (renorm_steps (w.st.rng * 256)) w (subst (λ (k : ℕ). Renormalizing k w) e r) h;
      same = ap (λ (k : ℕ). shifts_w k w) e;
      fewer = omega (arith, e);
    }

-- from what the code computed
pub shifted : (w w' : Wr) → w' ≡ shift_w w → Renormalizing (renorm_steps w.st.rng) w → w.st.rng ≤ 8388608 → Shifted w w'
shifted w w' e r h = rw e (shifted_at w r h)

-- no step, where the range is above 2^23
pub normal_done : (w : Wr) → 8388608 < w.st.rng → w ≡ normal_w w
unfolding shifts_w
normal_done w h = rw (steps_done w.st.rng h)
