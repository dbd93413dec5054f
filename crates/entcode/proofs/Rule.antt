-- The part of a state's rule that reader and writer share, as facts. Assumes nothing.
use Prim.Native.Nat.{ℕ, ◌≤◌, ◌<◌}
use mathlib.Core.Path.{◌≡◌}
use mathlib.Core.Bool.{true, and-eq-true_iff}
use borrow.Author.Tests.{ltb-true, leb-true, lt-ltb, le-leb}
use Rattle.entcode.specs.Counts.{counts_ok}

-- the tests of `counts_ok`, as facts
pub record Counts (storage rng waiting total : ℕ) : Type 0 where
  pub storage-le : storage ≤ 1275
  pub range_gt : 8388608 < rng
  pub range_le : rng ≤ 2147483648
  pub waiting-le : waiting ≤ 32
  pub total_ge : 33 ≤ total
  pub total-le : total ≤ 65535

-- from the test
pub counts : (storage rng waiting total : ℕ) → counts_ok storage rng waiting total ≡ true → Counts storage rng waiting total
unfolding counts_ok
counts s r w t h =
    let a = (and-eq-true_iff _ _).0 h in
    let b = (and-eq-true_iff _ _).0 a.0 in
    let c = (and-eq-true_iff _ _).0 b.0 in
    let d = (and-eq-true_iff _ _).0 c.0 in
    let e = (and-eq-true_iff _ _).0 d.0 in
    record {
      storage-le = leb-true s 1275 e.0;
      range_gt = ltb-true 8388608 r e.1;
      range_le = leb-true r 2147483648 d.1;
      waiting-le = leb-true w 32 c.1;
      total_ge = leb-true 33 t b.1;
      total-le = leb-true t 65535 a.1;
    }

-- and back
pub counts-ok : (storage rng waiting total : ℕ) → Counts storage rng waiting total → counts_ok storage rng waiting total ≡ true
unfolding counts_ok
counts-ok s r w t h =
    simp (
      le-leb s 1275 h.storage-le,
      lt-ltb 8388608 r h.range_gt,
      le-leb r 2147483648 h.range_le,
      le-leb w 32 h.waiting-le,
      le-leb 33 t h.total_ge,
      le-leb t 65535 h.total-le,
    )
