-- ec_enc_carry_out: the held byte rem (256: none) and a run of ext bytes 255 wait; c comes next, with 256 in it for a carry. RFC 6716, section 5.1.1.2.
use Rattle.std.specs.Prelude.{ℕ, ◌+◌, ◌/◌, ◌%◌, cond, List, [], ◌∷◌, ◌++◌, replicate, ltb, eqb}

-- the held byte with the carry k
abbrev pub lead : ℕ → ℕ → List ℕ
lead rem k = cond (ltb rem 256) (((rem + k) % 256) ∷ []) []

-- the bytes that settle: none where c is 255, which a later carry may still pass
abbrev pub settled : ℕ → ℕ → ℕ → List ℕ
settled rem ext c = cond (eqb c 255) [] (lead rem (c / 256) ++ replicate ext ((255 + c / 256) % 256))

-- the byte held after c
abbrev pub held_by : ℕ → ℕ → ℕ
held_by rem c = cond (eqb c 255) rem (c % 256)

-- the run that waits after c
abbrev pub run_by : ℕ → ℕ → ℕ
run_by ext c = cond (eqb c 255) (ext + 1) 0
