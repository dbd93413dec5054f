-- Where the value lies: the place that it shows among ft, and the part of the range that holds it. Assumes nothing.
use Prim.Native.Nat.{ℕ, zero, suc, ◌+◌, ◌-◌, ◌*◌, ◌/◌, ◌≤◌, ◌<◌, min}
use native.Mathlib.Nat.{le-div_iff_mul-le, div-lt_iff_lt-mul, mul_comm, le_trans, mul-le-mul_left, mul-div-le, lt-mul-div-succ}
use native.Mathlib.Omega.{arith}
use borrow.Author.Tests.{ne_eqb}
use Rattle.entcode.specs.Range.{cut_start, cut_width}
use Rattle.entcode.proofs.Cuts.{CutOk, cut_in}
use Rattle.entdec.specs.declared.Reader.{Reader}
use Rattle.entdec.specs.Read.{decoded_place}

-- ---- the place, as a test of the value

-- a value at or above the share below fh shows a place below fh
pub place-lt : (v q fh ft : ℕ) → 0 < q → 0 < fh → fh ≤ ft → q * (ft - fh) ≤ v → ft - min (v / q + 1) ft < fh
place-lt v q fh ft p h l e =
    let m : ft - fh ≤ v / q = (le-div_iff_mul-le p).1 (rw mul_comm e) in
    omega arith

-- a value below the share from fl shows a place from fl on
pub place_ge : (v q fl ft : ℕ) → 0 < q → fl ≤ ft → v < q * (ft - fl) → fl ≤ ft - min (v / q + 1) ft
place_ge v q fl ft p l e =
    let m : v / q < ft - fl = (div-lt_iff_lt-mul p).1 (rw mul_comm e) in
    omega arith

-- a place is one of ft
pub place_less : (ft : ℕ) (d : Reader) → 0 < ft → decoded_place ft d < ft
unfolding decoded_place
place_less ft d h = omega arith

-- ---- the part of the places fl up to fh of ft holds the value v of the range r

-- the shares above the part are at most the value, what is left of it lies in the part, and the part in the range
pub record Held (v r fl fh ft : ℕ) : Type 0 where
  pub start-le : r / ft * (ft - fh) ≤ v
  pub rest_lt : v - r / ft * (ft - fh) < cut_width r fl fh ft
  pub width-le : cut_width r fl fh ft ≤ r

-- a place below fh: the shares from fh on are at most the value
low-le : (v q fh ft : ℕ) → ft - min (v / q + 1) ft < fh → q * (ft - fh) ≤ v
low-le v q fh ft u = le_trans (mul-le-mul_left q (let m : ft - fh ≤ v / q = omega arith in m)) (mul-div-le v q)

-- a place from fl on: the shares from fl on are above it
high_lt : (v q fl ft : ℕ) → 0 < q → 0 < fl → fl ≤ ft - min (v / q + 1) ft → v < q * (ft - fl)
high_lt v q fl ft p z l =
    let n : v / q + 1 ≤ ft - fl = omega arith in
    omega (arith, lt-mul-div-succ v p, mul-le-mul_left q n)

-- a value that shows one of the places lies in their part
pub held : (v r fl fh ft : ℕ) → CutOk fl fh ft → 8388608 < r → v < r → fl ≤ ft - min (v / (r / ft) + 1) ft → ft - min (v / (r / ft) + 1) ft < fh
    → Held v r fl fh ft
unfolding cut_start cut_width
held v r zero fh ft ok h i l u =
    let c = cut_in r 0 fh ft ok h in
    let a = low-le v (r / ft) fh ft u in
    record { start-le = a; rest_lt = omega arith; width-le = omega arith }
held v r (suc fl) fh ft ok h i l u =
    let c = cut_in r (suc fl) fh ft ok h in
    let a = low-le v (r / ft) fh ft u in
    let b = high_lt v (r / ft) (suc fl) ft c.quot_pos (omega arith) l in
    let z = ne_eqb (suc fl) 0 (λ e. omega arith) in
    record {
      start-le = a;
      rest_lt = let s = simp z at c.sum in simp z (omega (arith, s));
      width-le = let s = c.sum in omega arith;
    }

-- the same of a reader
pub held_by_lem : (d : Reader) (fl fh ft : ℕ) → CutOk fl fh ft → 8388608 < d.rng → d.val < d.rng → fl ≤ decoded_place ft d → decoded_place ft d < fh
    → Held d.val d.rng fl fh ft
unfolding decoded_place
held_by_lem d fl fh ft ok h i l u = held d.val d.rng fl fh ft ok h i l u
