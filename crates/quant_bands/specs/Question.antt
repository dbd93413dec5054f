-- What the two calls are handed, and when they are refused: document 01, "Domain in numbers" and "When the answer is no".
use Rattle.std.specs.Prelude.{ℕ, Bool, ◌&&◌, List, eqb, ℤ, pos, length, get_or, Float}
use Rattle.std.specs.Int.Signed.{lt_z, le_z}
use Rattle.std.specs.Float.Ieee.Scale.{finite}
use Rattle.laws.specs.Lists.{every}
use Rattle.laws.specs.Signs.{clip, in_range}
use Rattle.entdec.specs.declared.Reader.{Reader}
use Rattle.entdec.specs.Rule.{read_refusal}

-- ---- the tests

-- an energy for each of 21 bands and two channels (2)
abbrev pub energies_sized : ℕ → Bool
energies_sized n = eqb n 42

-- every energy is finite, the list whole (3)
abbrev pub energies_ok : List Float → Bool
energies_ok es = every finite es

-- C 1..2 and 0 ≤ start < end ≤ 21 (1)
unfoldable pub bands_ok : ℤ → ℤ → ℤ → Bool
bands_ok c start end = in_range (pos 1) (pos 2) c && le_z (pos 0) start && lt_z start end && le_z end (pos 21)

-- with LM 0..3 and intra 0 or 1 (1)
unfoldable pub coarse_ok : ℤ → ℤ → ℤ → ℤ → ℤ → Bool
coarse_ok c lm start end intra = bands_ok c start end && in_range (pos 0) (pos 3) lm && in_range (pos 0) (pos 1) intra

-- fine bits 0..8 and priorities 0 or 1, each list whole (3)
abbrev pub fines_ok : List ℤ → List ℤ → Bool
fines_ok fine priorities = every (in_range (pos 0) (pos 8)) fine && every (in_range (pos 0) (pos 1)) priorities

-- ---- the numbers of the refusals, 0 for none

-- of a coarse decode of the packet s
unfoldable pub refusal_coarse : ℤ → ℤ → ℤ → ℤ → ℤ → List ℕ → Reader → List Float → ℕ
refusal_coarse c lm start end intra s d es =
    read_refusal (length s) d (energies_sized (length es)) (coarse_ok c lm start end intra) (energies_ok es) 0

-- of the last bits
unfoldable pub refusal_finalise : ℤ → ℤ → ℤ → List ℤ → List ℤ → List ℕ → Reader → List Float → ℕ
refusal_finalise c start end fine priorities s d es =
    read_refusal (length s) d (energies_sized (length es) && eqb (length fine) 21 && eqb (length priorities) 21) (bands_ok c start end)
    (energies_ok es && fines_ok fine priorities) 0

-- ---- as the definitions take it

-- whether a frame is intra
abbrev pub is_intra : ℤ → Bool
is_intra z = lt_z (pos 0) z

-- a band's entry of a list, as a count
abbrev pub count_at : List ℤ → ℕ → ℕ
count_at l i = clip (get_or l i (pos 0))
