-- What the two calls say, by document 01's number of the refusal and the reader after them, and what the lent energies then hold.
use Rattle.std.specs.Prelude.{ℕ, List, ℤ, Float, Result}
use Rattle.entcode.specs.declared.reasons.Refusal.{Refusal}
use Rattle.laws.specs.Signs.{clip}
use Rattle.entcode.specs.Said.{Said, answer, lent_after, said}
use Rattle.entdec.specs.declared.Reader.{Reader}
use Rattle.quant_bands.specs.Coarse.{EnergiesAfter, coarse}
use Rattle.quant_bands.specs.Finalise.{finalise}
use Rattle.quant_bands.specs.Question.{refusal_coarse, refusal_finalise, is_intra, count_at}

-- what is said, and the lent energies after the call
pub record After : Type 0 where
  pub said : Said Reader
  pub energies : List Float

-- made of its two parts
abbrev pub after : Result Reader Refusal → List Float → After
after r es = record { said = said r; energies = es }

-- number 0: the reader and the energies of the definition; any other: that refusal, and the energies as they were
abbrev pub answer_r : ℕ → EnergiesAfter → List Float → After
answer_r n y es = record { said = answer n y.next; energies = lent_after n y.energies es }

-- a checked coarse decode
abbrev pub coarse_reading : ℤ → ℤ → ℤ → ℤ → ℤ → List ℕ → Reader → List Float → After
coarse_reading c lm start end intra s d es =
    answer_r (refusal_coarse c lm start end intra s d es) (coarse (clip c) (clip lm) (is_intra intra) (clip start) (clip end) s d es) es

-- the last bits, checked; a negative number of bits left reads as 0
abbrev pub finalise_reading : ℤ → ℤ → ℤ → List ℤ → List ℤ → ℤ → List ℕ → Reader → List Float → After
finalise_reading c start end fine priorities left s d es =
    answer_r (refusal_finalise c start end fine priorities s d es)
    (finalise (clip c) (count_at fine) (count_at priorities) (clip start) (clip end) (clip left) s d es)
    es
