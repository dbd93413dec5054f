-- Closing: the two roundings, the bytes of the last number, and all of it in a row. Assumes nothing.
use Prim.Native.Nat.{ℕ, zero, suc, ◌+◌, ◌-◌, ◌*◌, ◌/◌, ◌%◌, ◌^◌, ◌<◌, ◌≤◌}
use mathlib.Core.Path.{◌≡◌, refl, ap, ◌∙◌}
use mathlib.Core.Bool.{true, ◌&&◌}
use native.Mathlib.Nat.{div-mul-le_self, lt_irrefl, lt_of_lt_of_le, le_trans, le_of_lt}
use native.Mathlib.Omega.{arith}
use lib.Dec.{ltb, leb}
use lib.Count.{count_leading_zeros, leading_top}
use lib.Pow.{pow_mono, pow_pos}
use borrow.Author.Tests.{lt-ltb, le-ltb}
use Rattle.laws.proofs.Tests.{by_le, cond-by}
use Rattle.entenc_sink.specs.Out.{Out, emit, flushed, left_of}
use Rattle.entenc_sink.specs.Carry.{settled}
use Rattle.entenc_sink.specs.Gap.{finished}
use Rattle.entenc_sink.specs.Fit.{Fit}
use Rattle.entenc_sink.proofs.Outs.{emit-fit, flushed-fit}
use Rattle.entenc_sink.proofs.Keeping.{finish-fit}
use Rattle.entenc.specs.Write.{Wr, wr, out_of, with_range, shift_w, shifts_w}
use Rattle.entenc.specs.Close.{rounded, tail_bits, tail_end, byte_count, ending_at, end_w, rest_out, rest_rem, close_out, close_w}
use Rattle.entenc.specs.Ready.{Renormalizing, Ready}
use Rattle.entenc.proofs.Shifts.{held-le, renorm_step}

-- ---- the last number

-- rounding up goes up by less than the unit
pub rounded-le : (m val : ℕ) → rounded m val ≤ val + (2 ^ m - 1)
unfolding rounded
rounded-le m val = div-mul-le_self (val + (2 ^ m - 1)) (2 ^ m)

-- the range has from 24 to 32 binary digits
record Top (rng : ℕ) : Type 0 where
  zeros : count_leading_zeros 32 rng ≤ 8
  part : 2 ^ (31 - count_leading_zeros 32 rng) ≤ rng

-- by the highest digit
top : (rng : ℕ) → 8388608 < rng → rng < 4294967296 → Top rng
top rng p q =
    let t = leading_top 32 rng (omega arith) q in
    let e : 31 - count_leading_zeros 32 rng ≡ t.0 = omega (arith, t.1) in
    let big : 23 ≤ t.0
    = by_le 23 t.0 (λ h. h)
    (λ h.
    let b : 2 ^ suc t.0 ≤ 2 ^ 23 = pow_mono h in
    absurd (lt_irrefl rng (lt_of_lt_of_le t.3 (le_trans b (le_of_lt p))))) in
    record { zeros = omega (arith, t.1); part = rw e t.2 }

-- what the two roundings need
pub record Rounds (val rng : ℕ) : Type 0 where
  pub zeros : count_leading_zeros 32 rng ≤ 8
  pub first : val + 2 ^ (31 - count_leading_zeros 32 rng) ≤ val + rng
  pub second : val + 2 ^ (31 - count_leading_zeros 32 rng - 1) ≤ val + rng
  pub below : rounded (31 - count_leading_zeros 32 rng) val < val + rng
  pub unit_pos : 1 ≤ 2 ^ (31 - count_leading_zeros 32 rng)

-- by the digits of the range
pub rounds : (val rng : ℕ) → 8388608 < rng → val + rng < 4294967296 → Rounds val rng
rounds val rng p q =
    let t = top rng p (omega arith) in
    let a : 2 ^ (31 - count_leading_zeros 32 rng - 1) ≤ 2 ^ (31 - count_leading_zeros 32 rng) = pow_mono (omega arith) in
    let b = rounded-le (31 - count_leading_zeros 32 rng) val in
    let o = pow_pos (31 - count_leading_zeros 32 rng) in
    record {
      zeros = t.zeros;
      first = omega (arith, t.part);
      second = omega (arith, t.part);
      below = omega (arith, t.part);
      unit_pos = o;
    }

-- one bit more, where the first rounding leaves too little of the range
pub tail_more : (val rng : ℕ) → val + rng - rounded (31 - count_leading_zeros 32 rng) val < 2 ^ (31 - count_leading_zeros 32 rng)
    → (count_leading_zeros 32 rng + 1 ≡ tail_bits val rng) × (rounded (31 - count_leading_zeros 32 rng - 1) val ≡ tail_end val rng)
unfolding tail_bits tail_end
tail_more val rng h =
    let e : 31 - count_leading_zeros 32 rng - 1 ≡ 31 - (count_leading_zeros 32 rng + 1) = omega arith in
    (simp (lt-ltb _ _ h), simp (lt-ltb _ _ h, e))

-- else the first rounding
pub tail_same : (val rng : ℕ) → 2 ^ (31 - count_leading_zeros 32 rng) ≤ val + rng - rounded (31 - count_leading_zeros 32 rng) val
    → (count_leading_zeros 32 rng ≡ tail_bits val rng) × (rounded (31 - count_leading_zeros 32 rng) val ≡ tail_end val rng)
unfolding tail_bits tail_end
tail_same val rng h = (simp (le-ltb _ _ h), simp (le-ltb _ _ h))

-- at most 9 bits, of a number below 2^32
pub tail_bits_lem : (val rng : ℕ) → 8388608 < rng → val + rng < 4294967296 → tail_bits val rng ≤ 9
unfolding tail_bits
tail_bits_lem val rng p q =
    let h = rounds val rng p q in
    cond-by (λ (n : ℕ). n ≤ 9) (ltb (val + rng - rounded (31 - count_leading_zeros 32 rng) val) (2 ^ (31 - count_leading_zeros 32 rng)))
    (λ e. omega (arith, h.zeros))
    (λ e. omega (arith, h.zeros))

-- and the number fits
pub tail_end_lem : (val rng : ℕ) → 8388608 < rng → val + rng < 4294967296 → tail_end val rng + 1 < 4294967296
unfolding tail_end tail_bits
tail_end_lem val rng p q =
    let h = rounds val rng p q in
    let a = rounded-le (31 - count_leading_zeros 32 rng) val in
    let b = rounded-le (31 - (count_leading_zeros 32 rng + 1)) val in
    let e : 31 - count_leading_zeros 32 rng - 1 ≡ 31 - (count_leading_zeros 32 rng + 1) = omega arith in
    let c : val + 2 ^ (31 - (count_leading_zeros 32 rng + 1)) ≤ val + rng = rw e at h.second in
    cond-by (λ (n : ℕ). rounded (31 - n) val + 1 < 4294967296)
    (ltb (val + rng - rounded (31 - count_leading_zeros 32 rng) val) (2 ^ (31 - count_leading_zeros 32 rng)))
    (λ t. omega (arith, h.unit_pos, pow_pos (31 - (count_leading_zeros 32 rng + 1))))
    (λ t. omega (arith, h.unit_pos, h.first))

-- ---- its bytes

-- two steps at most
pub ending_renorm : (w : Wr) (end : ℕ) → Ready 1 w → end + 1 < 4294967296 → Renormalizing 2 (ending_at end 1 w)
ending_renorm w end r h =
    let s = r.sound in
    record {
      fit = s.fit;
      range_pos = omega arith;
      range_le = omega arith;
      end_lt = h;
      rem-le = s.rem-le;
      ext-le = omega (arith, r.ext-le);
      total-le = omega (arith, r.total-le);
    }

-- no byte
pub by-none : (k : ℕ) (w : Wr) → k ≡ 0 → w ≡ shifts_w k w
unfolding shifts_w
by-none k w h = rw h

-- one byte
pub by_one : (k : ℕ) (w : Wr) → k ≡ 1 → shift_w w ≡ shifts_w k w
unfolding shifts_w
by_one k w h = rw h

-- neither 0 nor 1, and at most 2
two : (k : ℕ) → (k ≡ 0 → ⊥) → (k ≡ 1 → ⊥) → k ≤ 2 → k ≡ 2
two zero a b h = absurd (a refl)
two (suc zero) a b h = absurd (b refl)
two (suc (suc k)) a b h = omega arith

-- two bytes
pub by_two : (k : ℕ) (w : Wr) → (k ≡ 0 → ⊥) → (k ≡ 1 → ⊥) → k ≤ 2 → shift_w (shift_w w) ≡ shifts_w k w
unfolding shifts_w
by_two k w a b h =
    let e : k ≡ 2 = two k a b h in
    rw e

-- what the second step needs
pub second : (w w' : Wr) → w' ≡ shift_w w → Renormalizing 2 w → w.st.rng ≡ 1 → Renormalizing 1 w' × (w'.st.rng ≤ 8388608)
unfolding shift_w
second w w' e r h =
    let z : w.st.rng ≤ 8388608 = omega arith in
    rw e (renorm_step 1 w r z, omega arith)

-- the steps of a close do not look at the range
abbrev ranged : ℕ → Wr → Wr
ranged r w = with_range w (out_of w) w.st.rem w.st.ext w.st.val r w.st.total

-- steps from two ranges leave the same but for the range
shifts_any : (k r s : ℕ) (w : Wr) → ranged 0 (shifts_w k (ranged r w)) ≡ ranged 0 (shifts_w k (ranged s w))
unfolding shifts_w shift_w
shifts_any zero r s w = refl
shifts_any (suc k) r s w = shifts_any k (r * 256) (s * 256) (shift_w w)

-- ---- all of it

-- steps keep the places within the storage
shifts_fit : (k : ℕ) (w : Wr) → Fit (out_of w) → Fit (out_of (shifts_w k w))
unfolding shifts_w shift_w
shifts_fit zero w f = f
shifts_fit (suc k) w f = shifts_fit k (shift_w w) (emit-fit _ _ f)

-- and what is held a byte, or none
shifts_rem : (k : ℕ) (w : Wr) → w.st.rem ≤ 256 → (shifts_w k w).st.rem ≤ 256
unfolding shifts_w shift_w
shifts_rem zero w h = h
shifts_rem (suc k) w h = shifts_rem k (shift_w w) (held-le w.st.rem (w.st.val / 8388608) h)

-- the sink that a close leaves lies within its storage
pub closed_fit : (w : Wr) → Fit (out_of w) → Fit (close_out w)
unfolding close_out end_w
closed_fit w f =
    finish-fit _ _ _ _
    (flushed-fit (w.st.waiting / 8) w.st.window (rest_out (end_w w)) (emit-fit _ _ (shifts_fit _ (ending_at _ _ w) f)))

-- and what it holds is a byte, or none
pub closed_rem : (w : Wr) → w.st.rem ≤ 256 → rest_rem (end_w w).st.rem (end_w w).st.ext ≤ 256
unfolding end_w
closed_rem w h =
    cond-by (λ (n : ℕ). n ≤ 256) (leb 256 (end_w w).st.rem && leb (end_w w).st.ext 0) (λ t. shifts_rem _ (ending_at _ _ w) h) (λ t. omega arith)

-- the state before the held bytes go out
pub close-fit : (w v : Wr) (k end : ℕ) → Ready 1 w → v ≡ shifts_w k (ending_at end 1 w) → Fit (out_of v) × (v.st.rem ≤ 256)
close-fit w v k end r e =
    rw e (shifts_fit k (ending_at end 1 w) r.sound.fit, shifts_rem k (ending_at end 1 w) r.sound.rem-le)

-- the state that a close leaves
abbrev pub closed_by : Wr → Out → ℕ → Wr
closed_by w o rem =
    wr
    (record {
      sink = o.sink;
      rem = rem;
      ext = 0;
      val = w.st.val;
      rng = w.st.rng;
      total = w.st.total;
      window = w.st.window;
      waiting = w.st.waiting;
      closed = true;
    })
    o.bytes

-- the parts of a close that the last bytes decide
rest_of : Wr → Wr → ℕ → Wr
rest_of w v bits =
    closed_by w
    (finished (left_of (w.st.waiting / 8) w.st.window) (w.st.waiting % 8) (8 * byte_count bits - bits)
    (flushed (w.st.waiting / 8) w.st.window (emit (settled v.st.rem v.st.ext 0) (out_of v))))
    (rest_rem v.st.rem v.st.ext)

-- what follows the last bytes does not look at the range
rest_any : (w v v' : Wr) (bits : ℕ) → ranged 0 v ≡ ranged 0 v' → rest_of w v bits ≡ rest_of w v' bits
unfolding rest_of
rest_any w v v' bits e = ap (λ (x : Wr). rest_of w x bits) e

-- the whole of a close, from what each call of the code gave
pub close-is : (w v : Wr) (bits end : ℕ) (o2 o3 o4 : Out) (window used rem : ℕ)
    → bits ≡ tail_bits w.st.val w.st.rng
    → end ≡ tail_end w.st.val w.st.rng
    → v ≡ shifts_w (byte_count bits) (ending_at end 1 w)
    → o2 ≡ emit (settled v.st.rem v.st.ext 0) (out_of v)
    → rem ≡ rest_rem v.st.rem v.st.ext
    → o3 ≡ flushed (w.st.waiting / 8) w.st.window o2
    → window ≡ left_of (w.st.waiting / 8) w.st.window
    → used ≡ w.st.waiting % 8
    → o4 ≡ finished window used (8 * byte_count bits - bits) o3
    → closed_by w o4 rem ≡ close_w w
unfolding close_w close_out end_w rest_of
close-is w v bits end o2 o3 o4 window used rem p1 p2 p3 p4 p5 p6 p7 p8 p9 =
    let a : closed_by w o4 rem ≡ rest_of w v bits = rw (p9, p6, p4, p5, p7, p8) in
    let b : rest_of w v bits ≡ rest_of w (shifts_w (byte_count bits) (ending_at end 1 w)) bits = ap (λ (x : Wr). rest_of w x bits) p3 in
    let c = rest_any w (shifts_w (byte_count bits) (ending_at end 1 w)) (shifts_w (byte_count bits) (ending_at end (2 ^ (31 - bits)) w)) bits
    (shifts_any (byte_count bits) 1 (2 ^ (31 - bits)) (ending_at end 1 w)) in
    a ∙ b ∙ c ∙ rw (p1, p2)
