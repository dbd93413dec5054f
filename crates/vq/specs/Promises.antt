-- What is promised of shapes beside the call's contract.
use Rattle.std.specs.Prelude.{ℕ, ◌/◌, ◌%◌, ◌^◌, ◌≤◌, ◌<◌, ◌≡◌, true, cond, List, T, ℤ, length, Float}
use Rattle.std.specs.Float.Ieee.Scale.{finite}
use Rattle.laws.specs.Lists.{every}
use Rattle.entcode.specs.Said.{number}
use Rattle.entdec.specs.declared.Reader.{Reader}
use Rattle.vq.specs.Root.{Nearest, root_of}
use Rattle.vq.specs.Mask.{silent, part, collapse}
use Rattle.vq.specs.Answer.{ShapeRequest, gain_ok, unquantised}

-- the square root is the nearest f32
abbrev pub RootNearest : Type 0
RootNearest = (n : ℕ) → 0 < n → n < 2 ^ 48 → Nearest n (root_of n)

-- and there is no other
abbrev pub RootOnly : Type 0
RootOnly = (n : ℕ) (r : Float) → 0 < n → n < 2 ^ 48 → Nearest n r → r ≡ root_of n

-- a gain that is accepted is finite
abbrev pub GainFinite : Type 0
GainFinite = (g : Float) → gain_ok g ≡ true → T (finite g)

-- every accepted shape is finite, whatever the call is asked, over any packet and any lent shape
abbrev pub ShapeFinite : Type 0
ShapeFinite =
    (q : ShapeRequest) (s : List ℕ) (d : Reader) (x : List Float) → number (unquantised q s d x).said ≡ 0
    → every finite (unquantised q s d x).shape ≡ true

-- of b parts, two at least, bit i of the mask is set exactly when part i holds a pulse, and no bit above
abbrev pub MaskShowsParts : Type 0
MaskShowsParts =
    (b : ℕ) (v : List ℤ) → 2 ≤ b
    → (collapse b v < 2 ^ b) × ((i : ℕ) → i < b → collapse b v / 2 ^ i % 2 ≡ cond (silent (part (length v / b) i v)) 0 1)
