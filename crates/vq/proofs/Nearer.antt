-- m / 2^j, where m is the whole number nearest to the root of n * 4^j, is the f32 nearest to the root of n. Assumes nothing.
use Prim.Native.Nat.{ℕ, ◌+◌, ◌-◌, ◌*◌, ◌^◌, ◌<◌, ◌≤◌, zero-le}
use mathlib.Core.Path.{◌≡◌, sym, ap, ◌∙◌, subst}
use mathlib.Core.Logic.{◌⊎◌, inl, inr}
use mathlib.Core.Bool.{false}
use native.Mathlib.Nat.{le_trans, le_of_eq, le_of_lt, lt_of_lt_of_le, lt_of_le_of_lt, mul-pos, mul_comm, mul_assoc, mul_left_comm, mul_right_comm}
use native.Mathlib.Nat.{mul-mul-mul_comm, add-mul, mul-lt-mul_of_pos_right, mul-le-mul_right, mul-le-mul_left, lt_of_mul-lt-mul_right, le_of_mul-le-mul_right}
use native.Mathlib.Nat.{eq-or-lt_of_le}
use native.Mathlib.Omega.{arith}
use lib.Dec.{T, ltb→lt, lit<}
use lib.Pow.{pow_pos, pow_mono}
use lib.Ieee.{Float, fin, binary32, up, down, lt, round}
use lib.Ieee.Exact.{HasValue}
use lib.Ieee.Fits.{round-fits}
use lib.Ieee.Positive.{num, den, positive, den_pos, value→cross, positive_of_value}
use Rattle.vq.specs.Root.{sq, whole_root, closer, scale_of, root_of, Scaling, Near, Nearest}
use Rattle.vq.proofs.Squares.{sq-le, four_square, scaling, floor_of, whole_root_lem, near_of}
use Rattle.vq.proofs.Quotient.{exact}
use Rattle.vq.proofs.Spacing.{above, below}

-- the order of two values, by whole numbers
lt→cross : (x y : Float) → T (positive x) → T (positive y) → T (lt x y) → num x * den y < num y * den x
unfolding lt
lt→cross lib.Ieee.nan y p q t = elim p [ ]
lt→cross (lib.Ieee.inf _) y p q t = elim p [ ]
lt→cross (fin false m e) lib.Ieee.nan p q t = elim q [ ]
lt→cross (fin false m e) (lib.Ieee.inf _) p q t = elim q [ ]
lt→cross (fin false m e) (fin mathlib.Core.Bool.true n d) p q t = elim q [ ]
lt→cross (fin mathlib.Core.Bool.true m e) y p q t = elim p [ ]
lt→cross (fin false m e) (fin false n d) p q t = ltb→lt (m * up e * down d) (n * up d * down e) t

-- a product's square
sq-mul : (a b : ℕ) → sq (a * b) ≡ sq a * sq b
sq-mul a b = mul-mul-mul_comm a b a b

-- squares rise
sq-lt : {a b : ℕ} → a < b → sq a < sq b
sq-lt {a} {b} h = lt_of_le_of_lt (mul-le-mul_left a (le_of_lt h)) (mul-lt-mul_of_pos_right h (lt_of_le_of_lt zero-le h))

-- ---- n * P^2 is v: both sides are compared at P^2 times their size

module _ (n P D M v : ℕ) (e : v ≡ n * (P * P)) where
  -- both sides are P^2 times as large
  times : 4 * n * sq D * sq P ≡ 4 * v * sq D
  times =
      let a : 4 * n * sq D * sq P ≡ 4 * (n * (P * P)) * sq D = simp (mul_assoc, mul_comm, mul_left_comm) in
      a ∙ ap (λ (x : ℕ). 4 * x * sq D) (sym e)

  -- the middle is above the root
  finish-under : 4 * v * sq D < sq (M * P) → 4 * n * sq D < sq M
  finish-under h =
      lt_of_mul-lt-mul_right (sq P) (subst (λ (x : ℕ). x < sq M * sq P) (sym times) (subst (λ (x : ℕ). 4 * v * sq D < x) (sq-mul M P) h))

  -- and below it
  finish-over : sq (M * P) < 4 * v * sq D → sq M < 4 * n * sq D
  finish-over h =
      lt_of_mul-lt-mul_right (sq P) (subst (λ (x : ℕ). sq M * sq P < x) (sym times) (subst (λ (x : ℕ). x < 4 * v * sq D) (sq-mul M P) h))

-- ---- with R / C = m / P: what the order of R / C and Y / E says of m and P, and the middle's size

module _ (R C Y E m P : ℕ) (is : R * P ≡ m * C) where
  -- the one side, at P times its size
  left : R * E * P ≡ m * E * C
  left = mul_right_comm R E P ∙ ap (λ (x : ℕ). x * E) is ∙ mul_right_comm m C E

  -- the other
  right : Y * C * P ≡ Y * P * C
  right = mul_right_comm Y C P

  -- Y / E is above m / P
  up_cross : 0 < P → R * E < Y * C → m * E < Y * P
  up_cross p h =
      lt_of_mul-lt-mul_right C (subst (λ (x : ℕ). x < Y * P * C) left (subst (λ (x : ℕ). R * E * P < x) right (mul-lt-mul_of_pos_right h p)))

  -- and below it
  down_cross : 0 < P → Y * C < R * E → Y * P < m * E
  down_cross p h =
      lt_of_mul-lt-mul_right C (subst (λ (x : ℕ). Y * P * C < x) left (subst (λ (x : ℕ). x < R * E * P) right (mul-lt-mul_of_pos_right h p)))

  -- their sum, at P times its size
  middle : (R * E + Y * C) * P ≡ m * E * C + Y * P * C
  middle = add-mul (R * E) (Y * C) P ∙ ap (λ (x : ℕ). x + Y * C * P) left ∙ ap (λ (x : ℕ). m * E * C + x) right

-- ---- in whole numbers: R / C is the value of r, and Y / E that of y; P is 2^j

-- two neighbours
twice : (m C E : ℕ) → (2 * m + 1) * (C * E) ≡ m * E * C + (m + 1) * E * C
twice m C E =
    let a : m * E * C ≡ m * (C * E) = mul_assoc m E C ∙ ap (λ (x : ℕ). m * x) (mul_comm E C) in
    let b : (m + 1) * E * C ≡ (m + 1) * (C * E) = mul_assoc (m + 1) E C ∙ ap (λ (x : ℕ). (m + 1) * x) (mul_comm E C) in
    omega arith

-- (m + 1/2)^2 is above v
wide : (v m : ℕ) → v ≤ m * m + m → 4 * v < (2 * m + 1) * (2 * m + 1)
wide v m h = omega arith

-- (m - 1/2)^2 is below it
narrow : (v m k : ℕ) → k + 1 ≡ 2 * m → m * m < v + m → k * k < 4 * v
narrow v m k h l =
    let q : (k + 1) * (k + 1) ≡ (2 * m) * (2 * m) = ap (λ (x : ℕ). x * x) h in
    omega arith

-- at the least m the root is not below m
four-le : (v m : ℕ) → m * m ≤ v → (2 * m) * (2 * m) ≤ 4 * v
four-le v m h = omega arith

-- for a sum that omega takes as one
add-le : (a : ℕ) {b c : ℕ} → b ≤ c → a + b ≤ a + c
add-le a h = omega arith

-- a sum of two is below twice the greater
halves : (Q x y m D : ℕ) → Q ≡ x + y → y < x → x ≡ m * D → Q < (2 * m) * D
halves Q x y m D h k s = omega arith

-- and, where they are apart, by so much
gap : (Q x y d m D k : ℕ) → Q ≡ x + y → y + d ≤ x → x ≡ m * D → d ≡ D → k + 1 ≡ 2 * m → Q ≤ k * D
gap Q x y d m D k h l s t u =
    let q : (k + 1) * D ≡ (2 * m) * D = ap (λ (z : ℕ). z * D) u in
    omega arith

module _ (n v P m R C Y E : ℕ) (e : v ≡ n * (P * P)) (is : R * P ≡ m * C) (p : 0 < P) (c : 0 < C) (d : 0 < E) (nr : Near v m) where
  -- an f32 above r is at least (m + 1) / P
  under_core : R * E < Y * C → (m * E < Y * P → (m + 1) * E ≤ Y * P) → 4 * n * sq (C * E) < sq (R * E + Y * C)
  under_core l next =
      let b : (m + 1) * E * C ≤ Y * P * C = mul-le-mul_right C (next (up_cross R C Y E m P is p l)) in
      let g : (2 * m + 1) * (C * E) ≤ (R * E + Y * C) * P =
      subst (λ (x : ℕ). (2 * m + 1) * (C * E) ≤ x) (sym (middle R C Y E m P is)) (le_trans (le_of_eq (twice m C E)) (add-le (m * E * C) b))
      in
      finish-under n P (C * E) (R * E + Y * C) v e
      (lt_of_lt_of_le (mul-lt-mul_of_pos_right (wide v m nr.above) (mul-pos (mul-pos c d) (mul-pos c d)))
      (le_trans (le_of_eq (sym (sq-mul (2 * m + 1) (C * E)))) (sq-le g)))

  -- one order of the factors
  swap : m * E * C ≡ m * (C * E)
  swap = mul_assoc m E C ∙ ap (λ (x : ℕ). m * x) (mul_comm E C)

  -- an f32 below r is at most (m - 1) / P, unless m is the least
  over_core : Y * C < R * E → (8388608 < m → Y * P < m * E → Y * P + E ≤ m * E) → sq (R * E + Y * C) < 4 * n * sq (C * E)
  over_core l next = finish-over n P (C * E) (R * E + Y * C) v e (go (eq-or-lt_of_le nr.least))
    where
      a : Y * P < m * E
      a = down_cross R C Y E m P is p l

      go : (8388608 ≡ m) ⊎ (8388608 < m) → sq ((R * E + Y * C) * P) < 4 * v * sq (C * E)
      go (inl q) =
          lt_of_lt_of_le
          (sq-lt (halves ((R * E + Y * C) * P) (m * E * C) (Y * P * C) m (C * E) (middle R C Y E m P is) (mul-lt-mul_of_pos_right a c) swap))
          (le_trans (le_of_eq (sq-mul (2 * m) (C * E))) (mul-le-mul_right (sq (C * E)) (four-le v m (nr.exact (sym q)))))
      go (inr q) =
          let b : Y * P * C + E * C ≤ m * E * C = le_trans (le_of_eq (sym (add-mul (Y * P) E C))) (mul-le-mul_right C (next q a)) in
          let k : 2 * m - 1 + 1 ≡ 2 * m = omega arith in
          lt_of_le_of_lt
          (le_trans
          (sq-le (gap ((R * E + Y * C) * P) (m * E * C) (Y * P * C) (E * C) m (C * E) (2 * m - 1) (middle R C Y E m P is) b swap (mul_comm E C) k))
          (le_of_eq (sq-mul (2 * m - 1) (C * E))))
          (mul-lt-mul_of_pos_right (narrow v m (2 * m - 1) k nr.below) (mul-pos (mul-pos c d) (mul-pos c d)))

-- ---- the f32

-- the two cores, for any other f32
pub nearest_of : (n v j m : ℕ) → Scaling n v j → Near v m → Nearest n (round binary32 false m (2 ^ j))
nearest_of n v j m sc nr =
    let r = round binary32 false m (2 ^ j) in
    let some : 0 < m = lt_of_lt_of_le (lit< tt) nr.least in
    let val : HasValue r false m (2 ^ j) = exact m j nr.most sc.small in
    let pr : T (positive r) = positive_of_value r m (2 ^ j) val some in
    let e : v ≡ n * (2 ^ j * 2 ^ j) = sc.is ∙ ap (λ (x : ℕ). n * x) (four_square j) in
    let is : num r * 2 ^ j ≡ m * den r = value→cross r m (2 ^ j) val in
    record {
      held = round-fits binary32 false m (2 ^ j);
      plus = pr;
      under =
          λ y t p l. under_core n v (2 ^ j) m (num r) (den r) (num y) (den y) e is (pow_pos j) (den_pos r) (den_pos y) nr (lt→cross r y pr p l)
          (above m j y t p nr.least);
      over =
          λ y t p l. over_core n v (2 ^ j) m (num r) (den r) (num y) (den y) e is (pow_pos j) (den_pos r) (den_pos y) nr (lt→cross y r p pr l)
          (below m j y t p);
    }

-- ---- the definition's

module _ (n : ℕ) (p : 0 < n) (h : n < 2 ^ 48) where
  -- the definition's whole number is near
  pub near_whole : Near (n * 4 ^ scale_of n) (closer (n * 4 ^ scale_of n) (whole_root 24 (n * 4 ^ scale_of n)))
  near_whole =
      let sc = scaling n p h in
      let v = n * 4 ^ scale_of n in
      let w = whole_root_lem 24 v sc.most in
      near_of v (whole_root 24 v) (floor_of v (whole_root 24 v) sc.least sc.most w.0 w.1)

  -- document 01's square root
  pub root_nearest : Nearest n (root_of n)
  unfolding root_of
  root_nearest = nearest_of n (n * 4 ^ scale_of n) (scale_of n) _ (scaling n p h) near_whole

  -- a root is at least 1
  pub root_least : den (root_of n) ≤ num (root_of n)
  unfolding root_of
  root_least =
      let j = scale_of n in
      let sc = scaling n p h in
      let nr = near_whole in
      let m = closer (n * 4 ^ j) (whole_root 24 (n * 4 ^ j)) in
      let r = round binary32 false m (2 ^ j) in
      let l : 2 ^ j ≤ m = le_trans (pow_mono {j = 23} sc.small) nr.least in
      le_of_mul-le-mul_right
      (le_trans (le_of_eq (mul_comm (den r) (2 ^ j)))
      (le_trans (mul-le-mul_right (den r) l) (le_of_eq (sym (value→cross r m (2 ^ j) (exact m j nr.most sc.small))))))
      (pow_pos j)
