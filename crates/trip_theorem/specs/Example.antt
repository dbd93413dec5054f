-- A small trip: a symbol of each kind, and an allocation over two channels in which intensity and dual stereo are coded. proofs/Witness.antt
-- computes that it was sent, so that the demand speaks of something.
use Rattle.std.specs.Prelude.{ℕ, List, [], ◌∷◌, ℤ, pos, negsuc, replicate}
use Rattle.rate.specs.declared.AllocNumbers.{AllocNumbers}
use Rattle.rate.specs.declared.Wishes.{Wishes}
use Rattle.rate.specs.Question.{Lists, alloc_numbers, no_entries, no_lists, wishes}
use Rattle.trip_theorem.specs.Calls.{Symbol, symbol}
use Rattle.trip_theorem.specs.Calls.Kind.{bit, table, uniform, raw, laplace}
use Rattle.trip_theorem.specs.Demand.{Sent}

-- what is lent to the writer: 24 bytes, which are no zeros
unfoldable pub example_bytes : List ℕ
example_bytes = replicate 24 170

-- and the lists for the allocation
unfoldable pub example_lists : Lists
example_lists = no_lists

-- the symbols; the Laplace value is -3, of the first pair of the coarse-energy model
unfoldable pub example_symbols : List Symbol
example_symbols =
    symbol (bit 3) 1 ∷ symbol (table (2 ∷ 1 ∷ 0 ∷ []) 2) 1 ∷ symbol (uniform 1000) 777 ∷ symbol (raw 5) 21 ∷ symbol (laplace 9216 8128) (negsuc 2) ∷ []

-- five bands of two channels, 800 eighth bits
unfoldable pub example_numbers : AllocNumbers
example_numbers = alloc_numbers (pos 2) (pos 1) (pos 0) (pos 5) (pos 5) (pos 800)

-- no boosts
unfoldable pub example_boosts : List ℤ
example_boosts = no_entries

-- caps of 200
unfoldable pub example_caps : List ℤ
example_caps = replicate 21 (pos 200)

-- the channels are coded as one from band 3 on and are apart below
unfoldable pub example_wishes : Wishes
example_wishes = wishes (pos 3) (pos 1) (pos 4) (pos 4)

-- it is sent
abbrev pub ExampleSent : Type 0
ExampleSent = Sent example_bytes example_symbols example_numbers example_boosts example_caps example_wishes example_lists
