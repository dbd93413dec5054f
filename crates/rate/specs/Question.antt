-- What an allocation is asked, as it is handed in, and when it is refused: document 01, "Domain in numbers" and "When the answer is no".
use Rattle.std.specs.Prelude.{ℕ, Bool, ◌&&◌, ◌||◌, List, map, eqb, ℤ, pos, length, replicate}
use Rattle.std.specs.Int.Signed.{lt_z, le_z}
use Rattle.laws.specs.Lists.{every}
use Rattle.laws.specs.Signs.{clip, in_range}
use Rattle.entdec.specs.declared.Reader.{Reader}
use Rattle.entdec.specs.Rule.{read_refusal}
use Rattle.entenc.specs.Write.{Wr}
use Rattle.entenc.specs.Rule.{write_refusal}
use Rattle.rate_spec.specs.Types.{AllocIn}
use Rattle.rate_bands.specs.declared.AllocCounts.{AllocCounts}
use Rattle.rate_bands.specs.Inputs.{alloc_in}
use Rattle.rate_skip.specs.declared.choice.Wished.{Wished}
use Rattle.rate.specs.declared.AllocNumbers.{AllocNumbers}
use Rattle.rate.specs.declared.Wishes.{Wishes}

-- the question's numbers, for calls that are handed them one by one
abbrev pub alloc_numbers : ℤ → ℤ → ℤ → ℤ → ℤ → ℤ → AllocNumbers
alloc_numbers c lm start end trim total = record { c = c; lm = lm; start = start; end = end; trim = trim; total = total }

-- the numbers as counts: a negative total reads as 0, and the others are not negative where they are accepted
unfoldable pub alloc_counts : AllocNumbers → AllocCounts
alloc_counts q =
    record { c = clip q.c; lm = clip q.lm; start = clip q.start; end = clip q.end; trim = clip q.trim; total = clip q.total }

-- the definition's question: band j's boost and cap are entry j of a list
abbrev pub alloc_input : AllocNumbers → List ℤ → List ℤ → AllocIn
alloc_input q offsets caps = alloc_in (alloc_counts q) (map clip offsets) (map clip caps)

-- an encoder's wishes, in the same way
abbrev pub wishes : ℤ → ℤ → ℤ → ℤ → Wishes
wishes intensity dual previous bandwidth = record { intensity = intensity; dual = dual; previous = previous; bandwidth = bandwidth }

-- the wishes in the work's numbers: the intensity as a count, and dual stereo as a flag
abbrev pub wished_of : Wishes → Wished
wished_of h = record { intensity = clip h.intensity; dual = lt_z (pos 0) h.dual; previous = h.previous; bandwidth = h.bandwidth }

-- the lists that are lent for the answer
pub record Lists : Type 0 where
  pub pulses : List ℤ
  pub fine : List ℤ
  pub priorities : List ℤ

-- the three as one
abbrev pub lists : List ℤ → List ℤ → List ℤ → Lists
lists pulses fine priorities = record { pulses = pulses; fine = fine; priorities = priorities }

-- a list of 21 zeros: no boosts, and a list that is lent before anything is written into it
unfoldable pub no_entries : List ℤ
no_entries = replicate 21 (pos 0)

-- three of them, lent for an answer
abbrev pub no_lists : Lists
no_lists = lists no_entries no_entries no_entries

-- ---- the tests

-- each of the five lists has an entry for each of the 21 bands (2)
abbrev pub lengths_ok : ℕ → ℕ → ℕ → ℕ → ℕ → Bool
lengths_ok offsets caps pulses fine priorities = eqb offsets 21 && eqb caps 21 && eqb pulses 21 && eqb fine 21 && eqb priorities 21

-- C 1..2, LM 0..3, 0 ≤ start < end ≤ 21, trim 0..10, total up to 81,600 (1)
unfoldable pub numbers_ok : AllocNumbers → Bool
numbers_ok q =
    in_range (pos 1) (pos 2) q.c && in_range (pos 0) (pos 3) q.lm && le_z (pos 0) q.start && lt_z q.start q.end && le_z q.end (pos 21)
    && in_range (pos 0) (pos 10) q.trim && le_z q.total (pos 81600)

-- with two channels, intensity is start..end and dual stereo 0 or 1; with one, any (1)
unfoldable pub stereo_ok : AllocNumbers → Wishes → Bool
stereo_ok q h = le_z q.c (pos 1) || in_range q.start q.end h.intensity && in_range (pos 0) (pos 1) h.dual

-- offsets 0..81,600 and caps 0..32,767, each list whole (3)
abbrev pub entries_ok : List ℤ → List ℤ → Bool
entries_ok offsets caps = every (in_range (pos 0) (pos 81600)) offsets && every (in_range (pos 0) (pos 32767)) caps

-- ---- the numbers of the refusals, 0 for none

module _ (q : AllocNumbers) (offsets caps : List ℤ) (l : Lists) where
  -- the five lists of a call have 21 entries each
  abbrev pub sized : Bool
  sized = lengths_ok (length offsets) (length caps) (length l.pulses) (length l.fine) (length l.priorities)

  -- of reading from the packet s
  unfoldable pub refusal_read : List ℕ → Reader → ℕ
  refusal_read s d = read_refusal (length s) d sized (numbers_ok q) (entries_ok offsets caps) 0

  -- of writing
  unfoldable pub refusal_write : Wishes → Wr → ℕ
  refusal_write h w =
      write_refusal (length w.bytes) w.st sized (numbers_ok q && stereo_ok q h) (entries_ok offsets caps) 0
