-- The bits that are left over at the end of a frame, RFC 6716, section 4.3.2.2: each halves the step of one fine energy (unquant_energy_finalise).
use Rattle.std.specs.Prelude.{ℕ, ◌+◌, ◌-◌, ◌^◌, List, Bool, false, cond, ◌&&◌, ltb, leb, eqb, pos, negsuc, get_or, set, Float}
use Rattle.std.specs.Float.{nan, fin, binary32}
use Rattle.std.specs.Float.Ieee.{of_int, add, sub, mul, div}
use Rattle.laws.specs.Places.{over_places}
use Rattle.entcode.specs.Sym.Shape.{raw}
use Rattle.entdec.specs.declared.Reader.{Reader}
use Rattle.entdec.specs.Symbols.{read_sym}
use Rattle.quant_bands.specs.Coarse.{EnergiesAfter, energies_after}

-- (bit - 0.5) * 2^(13 - fine) * (1 / 16384), each operation rounded once; the three values are 0.5, 1 and 16384
unfoldable pub offset_of : ℕ → ℕ → Float
offset_of bit fine =
    mul binary32 (mul binary32 (sub binary32 (of_int binary32 (pos bit)) (fin false 1 (negsuc 0))) (of_int binary32 (pos (2 ^ (13 - fine)))))
    (div binary32 (fin false 1 (pos 0)) (fin false 1 (pos 14)))

-- from band to band: the energies, the bits left, and the reader
pub record Spending : Type 0 where
  pub energies : List Float
  pub left : ℕ
  pub next : Reader

-- made of its three parts
abbrev pub spending : List Float → ℕ → Reader → Spending
spending es left d = record { energies = es; left = left; next = d }

-- the energy at place k takes one raw bit
unfoldable pub spend_at : ℕ → List ℕ → ℕ → Spending → Spending
spend_at fine s k g =
    let y = read_sym (raw 1) s g.next in
    spending (set g.energies k (add binary32 (get_or g.energies k nan) (offset_of y.value fine))) (g.left - 1) y.next

-- a band with 8 fine bits takes no more, a band of the other priority has its place in the other pass, and a band takes a bit for each of its
-- channels or none
unfoldable pub takes_bit : ℕ → ℕ → ℕ → ℕ → ℕ → Bool
takes_bit c pass fine priority left = ltb fine 8 && eqb priority pass && leb c left

-- band i of c channels in the pass of a priority
unfoldable pub spend_band : ℕ → ℕ → (ℕ → ℕ) → (ℕ → ℕ) → List ℕ → ℕ → Spending → Spending
spend_band c pass fine priority s i g =
    cond (takes_bit c pass (fine i) (priority i) g.left)
    (cond (leb 2 c) (spend_at (fine i) s (i + 21) (spend_at (fine i) s i g)) (spend_at (fine i) s i g))
    g

-- the bands start..end-1 in the pass of a priority
unfoldable pub spend_pass : ℕ → ℕ → (ℕ → ℕ) → (ℕ → ℕ) → ℕ → ℕ → List ℕ → Spending → Spending
spend_pass c pass fine priority start end s g = over_places (spend_band c pass fine priority s) start (end - start) g

-- priority 0 goes first
unfoldable pub finalise : ℕ → (ℕ → ℕ) → (ℕ → ℕ) → ℕ → ℕ → ℕ → List ℕ → Reader → List Float → EnergiesAfter
finalise c fine priority start end left s d es =
    let g = spend_pass c 1 fine priority start end s (spend_pass c 0 fine priority start end s (spending es left d)) in energies_after g.energies g.next
