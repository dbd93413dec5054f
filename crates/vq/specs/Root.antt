-- The square root of a whole number as an f32: document 01, "Energies, shapes and the stream record".
use Rattle.std.specs.Prelude.{ℕ, zero, suc, ◌+◌, ◌-◌, ◌*◌, ◌/◌, ◌^◌, ◌≤◌, ◌<◌, ◌≡◌, false, cond, T, leb, Float}
use Rattle.std.specs.Float.{binary32}
use Rattle.std.specs.Float.Ieee.{fits, lt, round, size}
use Rattle.std.specs.Float.Ieee.Positive.{num, den, positive}

-- the square
abbrev pub sq : ℕ → ℕ
sq x = x * x

-- ---- what is meant: the nearest f32

-- r is a finite f32 above 0, and it is nearer to the root of n than any other such f32 y. With r = a / c and y = b / d their middle is
-- (a * d + b * c) / (2 * c * d), and 4 * n * (c * d)^2 is compared with (a * d + b * c)^2: the root lies strictly on r's side of the middle, so
-- that there is no tie which an even last digit would have to decide
pub record Nearest (n : ℕ) (r : Float) : Type 0 where
  pub held : T (fits binary32 r)
  pub plus : T (positive r)
  pub under : (y : Float) → T (fits binary32 y) → T (positive y) → T (lt r y) → 4 * n * sq (den r * den y) < sq (num r * den y + num y * den r)
  pub over : (y : Float) → T (fits binary32 y) → T (positive y) → T (lt y r) → sq (num r * den y + num y * den r) < 4 * n * sq (den r * den y)

-- ---- which f32 that is, as Promises.antt states it

-- the whole part of the square root of a v below 4^k, a binary digit at a time
unfoldable pub whole_root : ℕ → ℕ → ℕ
whole_root zero v = 0
whole_root (suc k) v = let s = 2 * whole_root k (v / 4) in cond (leb (sq (s + 1)) v) (s + 1) s

-- the whole number nearest to the root of v, whose whole part is s: v is compared with (s + 1/2)^2
abbrev pub closer : ℕ → ℕ → ℕ
closer v s = cond (leb v (s * s + s)) s (s + 1)

-- n times 4 to this power has 47 or 48 binary digits, and its root 24
abbrev pub scale_of : ℕ → ℕ
scale_of n = (48 - size n) / 2

-- the root of n
unfoldable pub root_of : ℕ → Float
root_of n =
    let j = scale_of n in
    let v = n * 4 ^ j in
    round binary32 false (closer v (whole_root 24 v)) (2 ^ j)

-- ---- what the code's steps give

-- v is n * 4^j and has 47 or 48 digits
pub record Scaling (n v j : ℕ) : Type 0 where
  pub is : v ≡ n * 4 ^ j
  pub least : 2 ^ 46 ≤ v
  pub most : v < 2 ^ 48
  pub small : j ≤ 23

-- s is the whole part of the root of v, and has 24 digits
pub record Floor (v s : ℕ) : Type 0 where
  pub below : s * s ≤ v
  pub above : v < (s + 1) * (s + 1)
  pub least : 8388608 ≤ s
  pub most : s < 16777216

-- m is the whole number nearest to the root of v: m - 1/2 lies below it and m + 1/2 above it
pub record Near (v m : ℕ) : Type 0 where
  pub below : m * m < v + m
  pub above : v ≤ m * m + m
  pub least : 8388608 ≤ m
  pub most : m ≤ 16777216
  pub exact : m ≡ 8388608 → m * m ≤ v
