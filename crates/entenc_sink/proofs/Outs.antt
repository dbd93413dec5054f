-- Bytes that go out: the sink stays within its storage; a run, one byte at a time; what settles, by its cases. Assumes nothing.
use Prim.Native.Nat.{ℕ, zero, suc, ◌+◌, ◌-◌, ◌/◌, ◌%◌, ◌<◌, ◌≤◌}
use mathlib.Core.Path.{◌≡◌}
use mathlib.Core.List.{List, [], ◌∷◌}
use native.Mathlib.Omega.{arith}
use lib.Dec.{ltb}
use lib.ListN.{replicate, length-set}
use borrow.Author.Tests.{ltb-true, lt-ltb, le-ltb, eq-eqb, ne_eqb}
use Rattle.laws.proofs.Tests.{split_on}
use Rattle.entenc_sink.specs.Out.{Out, is_room, put_front, put_end, emit, flushed}
use Rattle.entenc_sink.specs.Carry.{lead, settled}
use Rattle.entenc_sink.specs.Fit.{Fit}

-- ---- within the storage

module _ (b : ℕ) (o : Out) (f : Fit o) where
  -- one byte at the front
  pub front_fit : Fit (put_front b o)
  unfolding put_front
  front_fit =
      split_on (is_room o.sink)
      (λ t. simp t (record { len = simp length-set f.len; room = omega (arith, ltb-true (o.sink.offs + o.sink.ends) o.sink.storage t) }))
      (λ t. simp t (record { len = f.len; room = f.room }))

  -- one byte at the end
  pub end-fit : Fit (put_end b o)
  unfolding put_end
  end-fit =
      split_on (is_room o.sink)
      (λ t. simp t (record { len = simp length-set f.len; room = omega (arith, ltb-true (o.sink.offs + o.sink.ends) o.sink.storage t) }))
      (λ t. simp t (record { len = f.len; room = f.room }))

-- bytes at the front
pub emit-fit : (bs : List ℕ) (o : Out) → Fit o → Fit (emit bs o)
unfolding emit
emit-fit [] o f = f
emit-fit (b ∷ bs) o f = emit-fit bs (put_front b o) (front_fit b o f)

-- bytes at the end
pub flushed-fit : (k window : ℕ) (o : Out) → Fit o → Fit (flushed k window o)
unfolding flushed
flushed-fit zero window o f = f
flushed-fit (suc k) window o f = flushed-fit k (window / 256) (put_end (window % 256) o) (end-fit (window % 256) o f)

-- ---- a run, one byte at a time

module _ (b : ℕ) (o : Out) (i n : ℕ) where
  -- one byte
  pub run_step : i < n → emit (replicate (n - i) b) o ≡ emit (replicate (n - (i + 1)) b) (put_front b o)
  unfolding emit
  run_step h = let e : n - i ≡ suc (n - (i + 1)) = omega arith in rw e

  -- none
  pub run-done : n ≤ i → emit (replicate (n - i) b) o ≡ o
  unfolding emit
  run-done h = let e : n - i ≡ 0 = omega arith in rw e

-- ---- the bytes that settle where c comes: none, or the held byte, if there is one, and then its run

module _ (rem k : ℕ) (o : Out) where
  -- a byte is held
  pub lead-held : rem < 256 → put_front ((rem + k) % 256) o ≡ emit (lead rem k) o
  unfolding emit
  lead-held h = simp (lt-ltb _ _ h)

  -- none is
  pub lead-none : 256 ≤ rem → o ≡ emit (lead rem k) o
  unfolding emit
  lead-none h = simp (le-ltb _ _ h)

module _ (rem ext c : ℕ) (o : Out) where
  -- a 255 waits itself
  pub settled-not : c ≡ 255 → o ≡ emit (settled rem ext c) o
  unfolding emit
  settled-not h = simp (eq-eqb _ _ h)

  -- any other byte: the held one, and then its run
  pub settled_led : (o₁ o₂ : Out) → (c ≡ 255 → ⊥) → o₁ ≡ emit (lead rem (c / 256)) o → o₂ ≡ emit (replicate ext ((255 + c / 256) % 256)) o₁
      → o₂ ≡ emit (settled rem ext c) o
  unfolding emit
  settled_led o₁ o₂ h p q = rw (q, p) (split_on (ltb rem 256) (λ t. simp (ne_eqb _ _ h, t)) (λ t. simp (ne_eqb _ _ h, t)))
