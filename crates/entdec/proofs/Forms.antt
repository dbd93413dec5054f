-- The definitions in the code's own terms: what the contract proofs of the reads depend on. Assumes nothing.
use Prim.Native.Nat.{ℕ, ◌-◌, ◌*◌, ◌/◌, ◌^◌, ◌≤◌, ◌<◌}
use mathlib.Core.Path.{◌≡◌, ap}
use mathlib.Core.List.{List}
use native.Mathlib.Nat.{mul-one, mul-zero, sub-zero, sub_self}
use native.Mathlib.Omega.{arith}
use lib.Pow.{pow_mono}
use borrow.Author.Tests.{lt-ltb, le-ltb, ne_eqb}
use Rattle.entcode.specs.Range.{renorm_steps, cut_width}
use Rattle.entcode.specs.Sym.Shape.{bit}
use Rattle.entcode.proofs.RenormSteps.{steps_done, steps_next}
use Rattle.entdec.specs.declared.Reader.{Reader}
use Rattle.entdec.specs.Read.{with_range, pull, pulls, decoded_place, update, read_of}
use Rattle.entdec.specs.Symbols.{read_sym}
use Rattle.entdec.proofs.Places.{place-lt, place_ge}

-- ---- renormalization: done, and one step

-- the state after all steps that its range takes
abbrev pub normal : List ℕ → Reader → Reader
normal s d = pulls (renorm_steps d.rng) s d

-- none, where the range is above 2^23
pub normal_done : (s : List ℕ) (d : Reader) → 8388608 < d.rng → normal s d ≡ d
unfolding pulls
normal_done s d h = rw (steps_done d.rng h)

-- one, and then those of the state after it
pub normal_step : (s : List ℕ) (d : Reader) → 0 < d.rng → d.rng ≤ 8388608 → normal s d ≡ normal s (pull s d)
unfolding pulls pull
normal_step s d p q = ap (λ (k : ℕ). pulls k s d) (steps_next d.rng p q)

-- ---- another range and value, renormalized

-- the state at another range and value
abbrev pub ranged : Reader → ℕ → ℕ → ℕ → Reader
ranged d r v ext = with_range d d.offs r v ext d.rem d.total

-- the two cases of a cut
module _ (r fl fh ft : ℕ) where
  -- the first symbol has what the division leaves over
  pub width-first : fl ≡ 0 → cut_width r fl fh ft ≡ r - r / ft * (ft - fh)
  unfolding cut_width
  width-first h = rw h

  -- any other has its shares
  pub width-more : (fl ≡ 0 → ⊥) → cut_width r fl fh ft ≡ r / ft * (fh - fl)
  unfolding cut_width
  width-more h = rw (ne_eqb fl 0 h)

module _ (s : List ℕ) (d : Reader) (fl fh ft ext : ℕ) where
  -- the code's two ways to take a cut: from the first place on
  pub take-first : fl ≡ 0
      → normal s (ranged d (d.rng - d.rng / ft * (ft - fh)) (d.val - d.rng / ft * (ft - fh)) ext) ≡ update fl fh ft ext s d
  unfolding update
  take-first h = rw (width-first d.rng fl fh ft h)

  -- and from a later one
  pub take_more : (fl ≡ 0 → ⊥)
      → normal s (ranged d (d.rng / ft * (fh - fl)) (d.val - d.rng / ft * (ft - fh)) ext) ≡ update fl fh ft ext s d
  unfolding update
  take_more h = rw (width-more d.rng fl fh ft h)

-- the two cases of a bit
module _ (s : List ℕ) (d : Reader) (k : ℕ) (least : 1 ≤ k) (some : 0 < d.rng / 2 ^ k) where
  -- a power of 2 with an exponent
  two : 2 ≤ 2 ^ k
  two = pow_mono {i = 1} {j = k} least

  -- the last place is one
  last : 2 ^ k - (2 ^ k - 1) ≡ 1
  last = omega (arith, two)

  -- the value lies in the last part: a 1
  pub bit_one : d.val < d.rng / 2 ^ k → read_sym (bit k) s d ≡ read_of 1 (normal s (ranged d (d.rng / 2 ^ k) d.val d.ext))
  unfolding read_sym decoded_place update cut_width
  bit_one h =
      let a = two in
      simp (
        le-ltb (decoded_place (2 ^ k) d) (2 ^ k - 1) (place_ge d.val (d.rng / 2 ^ k) (2 ^ k - 1) (2 ^ k) some (omega arith) (rw (last, mul-one) h)),
        ne_eqb (2 ^ k - 1) 0 (λ e. omega arith),
        last,
        sub_self,
        mul-one,
        mul-zero,
        sub-zero,
      )

  -- or above it: a 0
  pub bit-zero : d.rng / 2 ^ k ≤ d.val
      → read_sym (bit k) s d ≡ read_of 0 (normal s (ranged d (d.rng - d.rng / 2 ^ k) (d.val - d.rng / 2 ^ k) d.ext))
  unfolding read_sym decoded_place update cut_width
  bit-zero h =
      let a = two in
      simp (
        lt-ltb (decoded_place (2 ^ k) d) (2 ^ k - 1) (place-lt d.val (d.rng / 2 ^ k) (2 ^ k - 1) (2 ^ k) some (omega arith) (omega arith)
            (rw (last, mul-one) h)),
        last,
        mul-one,
      )
