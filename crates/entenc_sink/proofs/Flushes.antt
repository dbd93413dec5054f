-- Raw bits: the loop that sends whole bytes of the window. Assumes nothing.
use Prim.Native.Nat.{ℕ, suc, ◌+◌, ◌-◌, ◌/◌, ◌%◌, ◌≤◌, ◌<◌}
use mathlib.Core.Path.{◌≡◌}
use native.Mathlib.Omega.{arith}
use Rattle.entenc_sink.specs.Out.{Out, put_end, flushed, left_of}

module _ (window i n : ℕ) where
  -- one byte
  pub flush-step : (o : Out) → i < n → flushed (n - i) window o ≡ flushed (n - (i + 1)) (window / 256) (put_end (window % 256) o)
  unfolding flushed
  flush-step o h = let e : n - i ≡ suc (n - (i + 1)) = omega arith in rw e

  -- and what it leaves of the window
  pub left-step : i < n → left_of (n - i) window ≡ left_of (n - (i + 1)) (window / 256)
  unfolding left_of
  left-step h = let e : n - i ≡ suc (n - (i + 1)) = omega arith in rw e

  -- no byte more
  pub flush-none : (o : Out) → n ≤ i → flushed (n - i) window o ≡ o
  unfolding flushed
  flush-none o h = let e : n - i ≡ 0 = omega arith in rw e

  -- and then the window stays
  pub left-none : n ≤ i → left_of (n - i) window ≡ window
  unfolding left_of
  left-none h = let e : n - i ≡ 0 = omega arith in rw e
