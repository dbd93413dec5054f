-- What renormalization does to each number of a state. Assumes nothing.
use Prim.Native.Nat.{ℕ, zero, suc, ◌+◌, ◌*◌, ◌≤◌, ◌<◌}
use mathlib.Core.Path.{◌≡◌, refl}
use mathlib.Core.List.{List}
use native.Mathlib.Omega.{arith}
use lib.Dec.{ltb}
use lib.ListN.{length}
use borrow.Author.Tests.{ltb-true}
use Rattle.laws.specs.Lists.{Bytes}
use Rattle.laws.proofs.Tests.{cond-le}
use Rattle.entcode.specs.Range.{renorm_steps, cut_width}
use Rattle.entcode.proofs.RenormSteps.{scaled, steps_le}
use Rattle.entdec.specs.declared.Reader.{Reader}
use Rattle.entdec.specs.Read.{advanced, pull, pulls, update}

-- ---- the next place

-- at most one on
pub advanced-le : (at n : ℕ) → advanced at n ≤ at + 1
advanced-le at n = cond-le (ltb at n) (λ e. omega arith) (λ e. omega arith)

-- and not past the end
pub advanced_in : (at n : ℕ) → at ≤ n → advanced at n ≤ n
advanced_in at n h = cond-le (ltb at n) (λ e. omega (arith, ltb-true at n e)) (λ e. h)

-- ---- k steps

-- from d to e by k steps: each number
pub record Pulled (s : List ℕ) (k : ℕ) (d e : Reader) : Type 0 where
  pub range_is : e.rng ≡ scaled k d.rng
  pub val-lt : d.val < d.rng → e.val < e.rng
  pub total-is : e.total ≡ d.total + 8 * k
  pub offs-le : e.offs ≤ d.offs + k
  pub offs_in : d.offs ≤ length s → e.offs ≤ length s
  pub rem-le : Bytes s → d.rem ≤ 255 → e.rem ≤ 255
  pub ends_is : e.ends ≡ d.ends
  pub waiting-is : e.waiting ≡ d.waiting
  pub storage-is : e.storage ≡ d.storage

-- step by step
pub pulled : (k : ℕ) (s : List ℕ) (d : Reader) → Pulled s k d (pulls k s d)
unfolding pulls pull scaled
pulled zero s d =
    record {
      range_is = refl;
      val-lt = λ h. h;
      total-is = omega arith;
      offs-le = omega arith;
      offs_in = λ h. h;
      rem-le = λ b h. h;
      ends_is = refl;
      waiting-is = refl;
      storage-is = refl;
    }
pulled (suc k) s d =
    let p = pulled k s (pull s d) in
    record {
      range_is = p.range_is;
      val-lt = λ h. p.val-lt (omega arith);
      total-is = omega (arith, p.total-is);
      offs-le = omega (arith, p.offs-le, advanced-le d.offs (length s));
      offs_in = λ h. p.offs_in (advanced_in d.offs (length s) h);
      rem-le = λ b h. p.rem-le b (omega (arith, b d.offs));
      ends_is = p.ends_is;
      waiting-is = p.waiting-is;
      storage-is = p.storage-is;
    }

-- ---- the numbers after a symbol: they do not depend on the bytes

module _ (fl fh ft ext : ℕ) (s : List ℕ) (d : Reader) where
  -- the bit count
  pub total-after : (update fl fh ft ext s d).total ≡ d.total + 8 * renorm_steps (cut_width d.rng fl fh ft)
  unfolding update
  total-after = (pulled (renorm_steps (cut_width d.rng fl fh ft)) s _).total-is

  -- the range
  pub rng-after : (update fl fh ft ext s d).rng ≡ scaled (renorm_steps (cut_width d.rng fl fh ft)) (cut_width d.rng fl fh ft)
  unfolding update
  rng-after = (pulled (renorm_steps (cut_width d.rng fl fh ft)) s _).range_is

  -- at most three steps of eight bits
  pub total-most : (update fl fh ft ext s d).total ≤ d.total + 24
  total-most = omega (arith, total-after, steps_le (cut_width d.rng fl fh ft))

  -- the place at the end stays
  pub ends-after : (update fl fh ft ext s d).ends ≡ d.ends
  unfolding update
  ends-after = (pulled (renorm_steps (cut_width d.rng fl fh ft)) s _).ends_is
