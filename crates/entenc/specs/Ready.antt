-- What the workers ask of a writer and its bytes. They run behind the gate and test nothing: an accepted state has it, and each symbol leaves it
-- for the next.
use Rattle.std.specs.Prelude.{ℕ, ◌+◌, ◌*◌, ◌<◌, ◌≤◌}
use Rattle.entenc_sink.specs.Fit.{Fit}
use Rattle.entenc.specs.Write.{Wr, out_of}

-- within a symbol: at most k steps of renormalization lie ahead, of a range that may be small
pub record Renormalizing (k : ℕ) (w : Wr) : Type 0 where
  pub fit : Fit (out_of w)
  pub range_pos : 0 < w.st.rng
  pub range_le : w.st.rng ≤ 2147483648
  pub end_lt : w.st.val + w.st.rng < 4294967296
  pub rem-le : w.st.rem ≤ 256
  pub ext-le : w.st.ext + k ≤ 1048576
  pub total-le : w.st.total + 8 * k ≤ 1048576

-- between two symbols: the rule of a writer but for its counts, over lent bytes of the right length
pub record Sound (w : Wr) : Type 0 where
  pub fit : Fit (out_of w)
  pub storage-le : w.st.sink.storage ≤ 1275
  pub range_gt : 8388608 < w.st.rng
  pub range_le : w.st.rng ≤ 2147483648
  pub end_lt : w.st.val + w.st.rng < 4294967296
  pub rem-le : w.st.rem ≤ 256
  pub waiting-le : w.st.waiting ≤ 32

-- k more symbols can be written: each adds at most 64 bits, and at most 4 bytes to the held run
pub record Ready (k : ℕ) (w : Wr) : Type 0 where
  pub sound : Sound w
  pub ext-le : w.st.ext + 4 * k ≤ 1048576
  pub total-le : w.st.total + 64 * k ≤ 1048576
