-- Which parts of a vector hold a pulse.
use Rattle.std.specs.Prelude.{ℕ, zero, suc, ◌+◌, ◌*◌, ◌/◌, ◌^◌, Bool, cond, List, leb, ℤ, pos, length, take, drop}
use Rattle.laws.specs.Lists.{every}
use Rattle.laws.specs.Signs.{in_range}

-- every place is 0
abbrev pub silent : List ℤ → Bool
silent v = every (in_range (pos 0) (pos 0)) v

-- part i of those of m places each
abbrev pub part : ℕ → ℕ → List ℤ → List ℤ
part m i v = take m (drop (i * m) v)

-- the parts that are not silent, of the first b with m places each: part i counts 2^i
unfoldable pub mask_bits : ℕ → ℕ → List ℤ → ℕ
mask_bits m zero v = 0
mask_bits m (suc i) v = mask_bits m i v + cond (silent (part m i v)) 0 (2 ^ i)

-- the collapse mask of b parts (extract_collapse_mask); a vector in one part has the mask 1, whatever it holds
abbrev pub collapse : ℕ → List ℤ → ℕ
collapse b v = cond (leb b 1) 1 (mask_bits (length v / b) b v)
