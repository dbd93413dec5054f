-- Raw bits on top of those that wait: beside them, or once whole bytes went out. Assumes nothing.
use Prim.Native.Nat.{ℕ, ◌+◌, ◌-◌, ◌*◌, ◌/◌, ◌%◌, ◌<◌, ◌≤◌}
use mathlib.Core.Path.{◌≡◌}
use native.Mathlib.Omega.{arith}
use borrow.Author.Tests.{le-leb, lt-leb}
use Rattle.entenc_sink.specs.Out.{Out, flushed, left_of}
use Rattle.entenc.specs.Write.{Wr, out_of, with_raw, topped_w, bits_w}

-- bits that fit beside those that wait
pub bits_fit : (b v : ℕ) (w : Wr) → w.st.waiting + b ≤ 32 → topped_w b v w ≡ bits_w b v w
unfolding bits_w flushed left_of
bits_fit b v w h =
    let z : w.st.waiting - 0 ≡ w.st.waiting = omega arith in
    simp (le-leb _ _ h, z)

-- bits that do not: whole bytes go out first
pub bits-flush : (b v : ℕ) (w : Wr) (o : Out) (window waiting : ℕ) → 32 < w.st.waiting + b
    → o ≡ flushed (w.st.waiting / 8) w.st.window (out_of w)
    → window ≡ left_of (w.st.waiting / 8) w.st.window
    → waiting ≡ w.st.waiting % 8
    → topped_w b v (with_raw w o window waiting w.st.total) ≡ bits_w b v w
unfolding bits_w
bits-flush b v w o window waiting h p q r =
    let z : w.st.waiting - 8 * (w.st.waiting / 8) ≡ w.st.waiting % 8 = omega arith in
    simp (lt-leb _ _ h, z) (rw (p, q, r))
