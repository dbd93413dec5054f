-- Document 01's example of a request and its answer, as a statement. Its proof, in proofs/Example.antt, computes it through every definition.
use Rattle.std.specs.Prelude.{◌≡◌, [], ◌∷◌}
use Rattle.lister_answer.specs.Answer.{listing_of_line}

-- line 1, `1 0 0 1 5 64 00` with tabs in the place of the blanks, is answered with `R 1 1 0 0 0` and `B 0 8 7 1`
abbrev pub Example : Type 0
Example =
    listing_of_line 1 (49 ∷ 9 ∷ 48 ∷ 9 ∷ 48 ∷ 9 ∷ 49 ∷ 9 ∷ 53 ∷ 9 ∷ 54 ∷ 52 ∷ 9 ∷ 48 ∷ 48 ∷ [])
    ≡ 82 ∷ 9 ∷ 49 ∷ 9 ∷ 49 ∷ 9 ∷ 48 ∷ 9 ∷ 48 ∷ 9 ∷ 48 ∷ 10 ∷ 66 ∷ 9 ∷ 48 ∷ 9 ∷ 56 ∷ 9 ∷ 55 ∷ 9 ∷ 49 ∷ 10 ∷ []
