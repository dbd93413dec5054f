-- What the call is asked, when it is refused and what it says, by document 01's number and the values, and what the lent shape then holds.
use Rattle.std.specs.Prelude.{ℕ, ◌*◌, ◌%◌, Bool, cond, ◌&&◌, List, ltb, eqb, ℤ, pos, length, Float, Result}
use Rattle.entcode.specs.declared.reasons.Refusal.{Refusal}
use Rattle.std.specs.Int.Signed.{le_z}
use Rattle.std.specs.Float.Ieee.{neg, le}
use Rattle.laws.specs.Signs.{clip, in_range}
use Rattle.entcode.specs.Said.{Said, answer, lent_after, said}
use Rattle.entdec.specs.declared.Reader.{Reader}
use Rattle.entdec.specs.Rule.{read_refusal}
use Rattle.cwrs_counts.specs.Count.{Vn}
use Rattle.cwrs.specs.Answer.{read_index, read_word}
use Rattle.vq.specs.Shape.{float_one, shape_of}
use Rattle.vq.specs.Mask.{collapse}
use Rattle.vq.specs.declared.ReadShape.{ReadShape}

-- what the call is asked, as it is handed in
pub record ShapeRequest : Type 0 where
  pub n : ℤ
  pub k : ℤ
  pub spread : ℤ
  pub b : ℤ
  pub gain : Float

-- made of its five parts
abbrev pub shape_request : ℤ → ℤ → ℤ → ℤ → Float → ShapeRequest
shape_request n k spread b gain = record { n = n; k = k; spread = spread; b = b; gain = gain }

-- ---- the tests

-- a lent shape has length N, whatever N is (2)
abbrev pub length_ok : ℤ → ℕ → Bool
length_ok n places = le_z (pos 0) n && eqb (clip n) places

-- B 1..16 dividing N
abbrev pub parts_ok : ℤ → ℤ → Bool
parts_ok n b = in_range (pos 1) (pos 16) b && eqb (clip n % clip b) 0

-- N 2..176, K 1..128, spread 0..3, and the parts (1)
unfoldable pub numbers_ok : ℤ → ℤ → ℤ → ℤ → Bool
numbers_ok n k spread b = in_range (pos 2) (pos 176) n && in_range (pos 1) (pos 128) k && in_range (pos 0) (pos 3) spread && parts_ok n b

-- the gain is at most 1 in size, and so finite: a NaN is in no order, and an infinity is past 1 (3)
abbrev pub gain_ok : Float → Bool
gain_ok gain = le (neg float_one) gain && le gain float_one

-- V(N,K) is below 2^32, or 7; and then no rotation is due, or 9: one is where 2K < N and spread is not 0
unfoldable pub special_shape : ℕ → ℕ → ℕ → ℕ
special_shape n k spread = cond (ltb (Vn n k) 4294967296) (cond (ltb (2 * k) n && ltb 0 spread) 9 0) 7

-- the number of the refusal, 0 for none, of a shape of so many places
unfoldable pub refusal_shape : ShapeRequest → ℕ → List ℕ → Reader → ℕ
refusal_shape q places s d =
    read_refusal (length s) d (length_ok q.n places) (numbers_ok q.n q.k q.spread q.b) (gain_ok q.gain)
    (special_shape (clip q.n) (clip q.k) (clip q.spread))

-- ---- the answer

-- the collapse mask of the vector read, and the reader after it
abbrev pub read_shape_of : ℕ → ℕ → ℕ → List ℕ → Reader → ReadShape
read_shape_of n k b s d = record { mask = collapse b (read_word n k s d); next = (read_index n k s d).next }

-- what is said, and the lent shape after the call
pub record After : Type 0 where
  pub said : Said ReadShape
  pub shape : List Float

-- made of its two parts
abbrev pub after : Result ReadShape Refusal → List Float → After
after r x = record { said = said r; shape = x }

-- number 0: what was read, with its shape; any other: that refusal, and the shape as it was
abbrev pub answer_r : ℕ → ReadShape → List Float → List Float → After
answer_r m r v x = record { said = answer m r; shape = lent_after m v x }

-- the whole call (alg_unquant) over the packet s, the reader d and the lent shape x
abbrev pub unquantised : ShapeRequest → List ℕ → Reader → List Float → After
unquantised q s d x =
    answer_r (refusal_shape q (length x) s d) (read_shape_of (clip q.n) (clip q.k) (clip q.b) s d)
    (shape_of q.gain (read_word (clip q.n) (clip q.k) s d)) x
