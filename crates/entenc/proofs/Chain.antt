-- A symbol leaves the writer as it found it, but for the counts: so that workers can follow each other. Assumes nothing.
use Prim.Native.Nat.{ℕ, suc, ◌+◌, ◌-◌, ◌*◌, ◌/◌, ◌<◌, ◌≤◌}
use mathlib.Core.Path.{◌≡◌, refl, ap, ◌∙◌}
use native.Mathlib.Omega.{arith}
use lib.Dec.{leb, eqb}
use borrow.Author.Tests.{leb-true}
use Rattle.laws.proofs.Tests.{split_on}
use Rattle.entcode.specs.Range.{renorm_steps, cut_start, cut_width}
use Rattle.entcode.specs.Sym.{Shape, low_bits, pieces_of, adjust}
use Rattle.entcode.specs.Sym.Shape.{bit, table, uint, raw, modelled}
use Rattle.entcode.proofs.RenormSteps.{steps_ind, steps_le}
use Rattle.entcode.proofs.Cuts.{CutOk, cut_in}
use Rattle.entcode.proofs.Pieces.{BitsOk, PiecesOk}
use Rattle.entenc_sink.specs.Carry.{settled}
use Rattle.entenc_sink.proofs.Outs.{flushed-fit}
use Rattle.entenc_sink.proofs.Keeping.{emit-keeps, flush-keeps}
use Rattle.entenc.specs.Write.{Wr, out_of, shift_w, shifts_w, narrowed, cut_w, flush_w, topped_w, bits_w}
use Rattle.entenc.specs.Symbols.{write_pieces, write_sym}
use Rattle.entenc.specs.Ready.{Renormalizing, Sound, Ready}
use Rattle.entenc.proofs.Shifts.{run-le, renorm_fewer, renorm_step, renorm_narrow}

-- ---- at most `more` bits, and `run` bytes more that are held

-- from w to w': a writer between two symbols, over as much storage, with counts that grew by little
pub record Stepped (more run : ℕ) (w w' : Wr) : Type 0 where
  pub sound : Sound w'
  pub storage-is : w'.st.sink.storage ≡ w.st.sink.storage
  pub total_ge : w.st.total ≤ w'.st.total
  pub total-le : w'.st.total ≤ w.st.total + more
  pub ext-le : w'.st.ext ≤ w.st.ext + run
  -- a byte that is held has cost eight bits
  pub paid : 8 * w'.st.ext + w.st.total ≤ 8 * w.st.ext + w'.st.total

-- one after another
pub stepped_then : (a b c d : ℕ) (u v w : Wr) → Stepped a b u v → Stepped c d v w → Stepped (a + c) (b + d) u w
stepped_then a b c d u v w p q =
    record {
      sound = q.sound;
      storage-is = q.storage-is ∙ p.storage-is;
      total_ge = omega (arith, p.total_ge, q.total_ge);
      total-le = omega (arith, p.total-le, q.total-le);
      ext-le = omega (arith, p.ext-le, q.ext-le);
      paid = omega (arith, p.paid, q.paid);
    }

-- larger bounds
pub stepped-more : (a b c d : ℕ) (w w' : Wr) → a ≤ c → b ≤ d → Stepped a b w w' → Stepped c d w w'
stepped-more a b c d w w' h k p =
    record {
      sound = p.sound;
      storage-is = p.storage-is;
      total_ge = p.total_ge;
      total-le = omega (arith, p.total-le);
      ext-le = omega (arith, p.ext-le);
      paid = p.paid;
    }

-- ---- the steps of renormalization

-- what k steps need, and what they do not touch
record Scaling (k : ℕ) (w : Wr) : Type 0 where
  ahead : Renormalizing k w
  storage-le : w.st.sink.storage ≤ 1275
  waiting-le : w.st.waiting ≤ 32

-- no step is due
step-none : (w : Wr) → 8388608 < w.st.rng → Scaling 0 w → Stepped 0 0 w w
step-none w h s =
    let t = s.ahead in
    record {
      sound =
          record {
            fit = t.fit;
            storage-le = s.storage-le;
            range_gt = h;
            range_le = t.range_le;
            end_lt = t.end_lt;
            rem-le = t.rem-le;
            waiting-le = s.waiting-le;
          };
      storage-is = refl;
      total_ge = omega arith;
      total-le = omega arith;
      ext-le = omega arith;
      paid = omega arith;
    }

-- one step keeps what they need
step_scaling : (k : ℕ) (w : Wr) → w.st.rng ≤ 8388608 → Scaling (suc k) w → Scaling k (shift_w w)
unfolding shift_w
step_scaling k w h s =
    record {
      ahead = renorm_step k w s.ahead h;
      storage-le = omega (arith, (emit-keeps (settled w.st.rem w.st.ext (w.st.val / 8388608)) (out_of w)).storage, s.storage-le);
      waiting-le = s.waiting-le;
    }

-- one step adds eight bits, and at most one byte to the run
step_one : (k : ℕ) (w w' : Wr) → Stepped (8 * k) k (shift_w w) w' → Stepped (8 * suc k) (suc k) w w'
unfolding shift_w
step_one k w w' p =
    record {
      sound = p.sound;
      storage-is = p.storage-is ∙ (emit-keeps (settled w.st.rem w.st.ext (w.st.val / 8388608)) (out_of w)).storage;
      total_ge = omega (arith, p.total_ge);
      total-le = omega (arith, p.total-le);
      ext-le = omega (arith, p.ext-le, run-le w.st.ext (w.st.val / 8388608));
      paid = omega (arith, p.paid, run-le w.st.ext (w.st.val / 8388608));
    }

-- the range after a step
shift-size : (w : Wr) (r : ℕ) → w.st.rng ≡ r → (shift_w w).st.rng ≡ r * 256
unfolding shift_w
shift-size w r e = ap (λ (n : ℕ). n * 256) e

-- one step and then the others
step-more : (k r : ℕ) → 0 < r → r ≤ 8388608
    → ((w : Wr) → w.st.rng ≡ r * 256 → Scaling k w → Stepped (8 * k) k w (shifts_w k w))
    → (w : Wr) → w.st.rng ≡ r → Scaling (suc k) w → Stepped (8 * suc k) (suc k) w (shifts_w (suc k) w)
unfolding shifts_w
step-more k r p q f w e s =
    let h : w.st.rng ≤ 8388608 = omega arith in
    step_one k w (shifts_w k (shift_w w)) (f (shift_w w) (shift-size w r e) (step_scaling k w h s))

-- all steps that a range takes
steps_stepped : (w : Wr) → Scaling (renorm_steps w.st.rng) w
    → Stepped (8 * renorm_steps w.st.rng) (renorm_steps w.st.rng) w (shifts_w (renorm_steps w.st.rng) w)
unfolding shifts_w
steps_stepped w s =
    steps_ind (λ k r. (w : Wr) → w.st.rng ≡ r → Scaling k w → Stepped (8 * k) k w (shifts_w k w))
    (λ r h m w e s. step-none w (omega arith) s)
    step-more w.st.rng s.ahead.range_pos s.ahead.range_le w refl s

-- ---- each piece

module _ (fl fh ft : ℕ) (w : Wr) (ok : CutOk fl fh ft) (r : Ready 1 w) where
  abbrev within : Wr
  within = narrowed (cut_start w.st.rng fl ft) (cut_width w.st.rng fl fh ft) w

  -- a cut leaves at most three steps
  cut_scaling : Scaling (renorm_steps (cut_width w.st.rng fl fh ft)) within
  cut_scaling =
      let c = cut_in w.st.rng fl fh ft ok r.sound.range_gt in
      let t = renorm_narrow (cut_start w.st.rng fl ft) (cut_width w.st.rng fl fh ft) w r c.width-pos (omega (arith, c.sum)) in
      record {
        ahead = renorm_fewer (renorm_steps (cut_width w.st.rng fl fh ft)) 3 within (steps_le (cut_width w.st.rng fl fh ft)) t;
        storage-le = r.sound.storage-le;
        waiting-le = r.sound.waiting-le;
      }

  -- a cut takes at most three steps
  pub cut-stepped : Stepped 24 3 w (cut_w fl fh ft w)
  unfolding cut_w
  cut-stepped =
      let m = steps_le (cut_width w.st.rng fl fh ft) in
      let p = steps_stepped within cut_scaling in
      record {
        sound = p.sound;
        storage-is = p.storage-is;
        total_ge = p.total_ge;
        total-le = omega (arith, p.total-le);
        ext-le = omega (arith, p.ext-le);
        paid = p.paid;
      }

module _ (b v : ℕ) (w : Wr) (ok : BitsOk b v) (s : Sound w) where
  -- k whole bytes go out first
  bits_at : (k : ℕ) → w.st.waiting - 8 * k + b ≤ 32 → Stepped 25 0 w (topped_w b v (flush_w k w))
  bits_at k h =
      let e = (flush-keeps k w.st.window (out_of w)).storage in
      record {
        sound =
            record {
              fit = flushed-fit k w.st.window (out_of w) s.fit;
              storage-le = omega (arith, s.storage-le);
              range_gt = s.range_gt;
              range_le = s.range_le;
              end_lt = s.end_lt;
              rem-le = s.rem-le;
              waiting-le = h;
            };
        storage-is = e;
        total_ge = omega arith;
        total-le = omega (arith, ok.bits-le);
        ext-le = omega arith;
        paid = omega arith;
      }

  -- raw bits: beside those that wait, or once whole bytes went out
  pub bits-stepped : Stepped 25 0 w (bits_w b v w)
  unfolding bits_w
  bits-stepped =
      split_on (leb (w.st.waiting + b) 32)
      (λ t. simp t (bits_at 0 (omega (arith, leb-true (w.st.waiting + b) 32 t))))
      (λ t. simp t (bits_at (w.st.waiting / 8) (omega (arith, ok.bits-le))))

-- ---- a symbol of any kind

-- ready for more is ready for fewer
pub ready_less : (k m : ℕ) (w : Wr) → k ≤ m → Ready m w → Ready k w
ready_less k m w h r = record { sound = r.sound; ext-le = omega (arith, r.ext-le); total-le = omega (arith, r.total-le) }

-- after a cut there is room for raw bits of the same symbol
pub ready_cut : (fl fh ft : ℕ) (w w' : Wr) → CutOk fl fh ft → Ready 1 w → w' ≡ cut_w fl fh ft w → Ready 0 w'
ready_cut fl fh ft w w' ok r e =
    let p = cut-stepped fl fh ft w ok r in
    rw e (record { sound = p.sound; ext-le = omega (arith, p.ext-le, r.ext-le); total-le = omega (arith, p.total-le, r.total-le) })

-- a cut and raw bits
pieces_two : (fl fh ft b v : ℕ) (w : Wr) → CutOk fl fh ft → BitsOk b v → Ready 1 w → Stepped 49 3 w (bits_w b v (cut_w fl fh ft w))
pieces_two fl fh ft b v w c o r =
    let p = cut-stepped fl fh ft w c r in
    stepped_then 24 3 25 0 w (cut_w fl fh ft w) (bits_w b v (cut_w fl fh ft w)) p (bits-stepped b v (cut_w fl fh ft w) o p.sound)

-- a symbol of one cut
cut-whole : (fl fh ft : ℕ) (w : Wr) → CutOk fl fh ft → Ready 1 w → Stepped 49 3 w (cut_w fl fh ft w)
cut-whole fl fh ft w c r = stepped-more 24 3 49 3 w (cut_w fl fh ft w) (omega arith) (omega arith) (cut-stepped fl fh ft w c r)

-- by the kind
pub sym-stepped : (h : Shape) (v : ℕ) (w : Wr) → PiecesOk (pieces_of h (adjust h v)) → Ready 1 w → Stepped 49 3 w (write_sym h v w)
unfolding write_pieces pieces_of adjust
sym-stepped (bit k) v w p r = cut-whole _ _ _ w p.0 r
sym-stepped (table t k) v w p r = cut-whole _ _ _ w p.0 r
sym-stepped (uint ft) v w p r =
    split_on (eqb (low_bits ft) 0)
    (λ t. simp t (cut-whole _ _ _ w (simp t at p).0 r))
    (λ t. simp t (pieces_two _ _ _ _ _ w (simp t at p).0 (simp t at p).1.0 r))
sym-stepped (raw b) v w p r = stepped-more 25 0 49 3 w (bits_w b v w) (omega arith) (omega arith) (bits-stepped b v w p.0 r.sound)
sym-stepped (modelled m) v w p r = cut-whole _ _ _ w p.0 r

-- workers can be chained: what a symbol needs of the writer, it leaves for the next
pub ready_after : (k : ℕ) (h : Shape) (v : ℕ) (w : Wr) → PiecesOk (pieces_of h (adjust h v)) → Ready (suc k) w → Ready k (write_sym h v w)
ready_after k h v w p r =
    let s = sym-stepped h v w p (ready_less 1 (suc k) w (omega arith) r) in
    record { sound = s.sound; ext-le = omega (arith, s.ext-le, r.ext-le); total-le = omega (arith, s.total-le, r.total-le) }
