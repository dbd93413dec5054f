-- The energies of the bands, exported: quant_bands' calls, over lists.
use Rattle.std.specs.Prelude.{ℕ, List, ℤ, Float}
use Rattle.quant_bands.specs.Answer.{coarse_reading, finalise_reading}
use Rattle.gurthapen_answer.specs.Result.{Result, exported}
use Rattle.gurthapen_state.specs.State.{reader_of, is_stored}
use Rattle.gurthapen_answer.specs.Energies.{lists_energies}

-- a coarse decode from the packet s of the energies es; energies that are not 42 are 2 with the other lengths, by the call's own order
abbrev pub coarse_call : ℤ → ℤ → ℤ → ℤ → ℤ → List ℕ → List ℤ → List Float → Result (List ℤ × List Float)
coarse_call c lm start end intra s l es =
    exported (is_stored l) (lists_energies (coarse_reading c lm start end intra s (reader_of l) es)) (l, es)

-- the bits left over, spent on the energies es
abbrev pub finalise_call : ℤ → ℤ → ℤ → List ℤ → List ℤ → ℤ → List ℕ → List ℤ → List Float → Result (List ℤ × List Float)
finalise_call c start end fine priorities bits s l es =
    exported (is_stored l) (lists_energies (finalise_reading c start end fine priorities bits s (reader_of l) es)) (l, es)
