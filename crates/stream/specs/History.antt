-- What a stream of frame calls does to a record: each number is applied once, in order. The theorems stand here as statements; their proofs
-- are in proofs/Once.antt, proofs/Again.antt, proofs/Mono.antt and proofs/Uses.antt.
use Rattle.std.specs.Prelude.{ℕ, zero, suc, ◌+◌, ◌-◌, ◌≤◌, ◌<◌, ◌≡◌, Bool, true, cond, ◌&&◌, List, [], ◌∷◌, ltb, eqb, pos, Float, length, get_or}
use Rattle.std.specs.Float.{nan, binary32}
use Rattle.std.specs.Float.Ieee.{fits}
use Rattle.std.specs.Float.Ieee.Scale.{finite}
use Rattle.laws.specs.Lists.{every}
use Rattle.entdec.specs.Rule.{reader_ok}
use Rattle.stream.specs.declared.Record.{Record}
use Rattle.stream.specs.Frame.{Call, fresh, numbers_ok, frame_refused, framed}

-- the record after some calls, whatever each of them answered
unfoldable pub record_after : Record → List Call → Record
record_after r [] = r
record_after r (q ∷ qs) = record_after (framed r q).rec qs

-- the numbers of those calls that were applied, in their order
unfoldable pub applied_in : Record → List Call → List ℕ
applied_in r [] = []
applied_in r (q ∷ qs) = cond (eqb (framed r q).code 0) (q.number ∷ applied_in (framed r q).rec qs) (applied_in (framed r q).rec qs)

-- n, n + 1, .., n + k - 1
unfoldable pub numbers_from : ℕ → ℕ → List ℕ
numbers_from n zero = []
numbers_from n (suc k) = n ∷ numbers_from (suc n) k

-- how often n stands in a list
unfoldable pub times : ℕ → List ℕ → ℕ
times n [] = 0
times n (m ∷ l) = cond (eqb m n) (suc (times n l)) (times n l)

-- ---- theorems

-- a frame that is applied has the next number, and the number then goes up by one
abbrev pub OnlyTheNext : Type 0
OnlyTheNext = (r : Record) (q : Call) → (framed r q).code ≡ 0 → (q.number ≡ r.next) × ((framed r q).rec.next ≡ r.next + 1)

-- a frame that is refused changes neither the record nor the reader
abbrev pub RefusedChangesNothing : Type 0
RefusedChangesNothing = (r : Record) (q : Call) → ((framed r q).code ≡ 0 → ⊥) → framed r q ≡ frame_refused (framed r q).code r q.coder

-- from a fresh record, the numbers applied are 0, 1, .., one below the next, in this order, whatever was refused between them
abbrev pub InOrder : Type 0
InOrder = (qs : List Call) → applied_in fresh qs ≡ numbers_from 0 (record_after fresh qs).next

-- so each number below the next was applied exactly once, and no other was
abbrev pub EachOnce : Type 0
EachOnce = (qs : List Call) (n : ℕ) → times n (applied_in fresh qs) ≡ cond (ltb n (record_after fresh qs).next) 1 0

-- from any record, the numbers applied count up by one from its next number, and that number never falls
abbrev pub CountsUp : Type 0
CountsUp =
    (r : Record) (qs : List Call) → (r.next ≤ (record_after r qs).next) × (applied_in r qs ≡ numbers_from r.next ((record_after r qs).next - r.next))

-- ---- a number that comes again

-- over any record and any calls: a number that was applied is never applied again, whatever calls come between
abbrev pub NeverAgain : Type 0
NeverAgain =
    (r : Record) (q : Call) (qs : List Call) (q' : Call) → (framed r q).code ≡ 0 → q'.number ≡ q.number
    → (framed (record_after (framed r q).rec qs) q').code ≡ 0 → ⊥

-- refusals 2 and 1 do not apply to a call: its bytes are as many as its reader's storage, its reader is sound, its numbers are in their domain
abbrev pub well_put : Record → Call → Bool
well_put r q =
    eqb q.coder.storage (length q.packet) && reader_ok q.coder
    && numbers_ok r.next q.number q.c q.lm q.start q.end q.intra

-- over any record: where 2, 1 and 3 do not apply, a number below the next is refused as 10, and record and reader stay as they were
abbrev pub BelowRefused : Type 0
BelowRefused =
    (r : Record) (q : Call) → well_put r q ≡ true → every finite r.energies ≡ true → q.number < r.next → framed r q ≡ frame_refused 10 r q.coder

-- and nothing else is: 10 says that 2, 1 and 3 do not apply, and that the number is below the next
abbrev pub TenIsBelow : Type 0
TenIsBelow =
    (r : Record) (q : Call) → (framed r q).code ≡ 10 → (well_put r q ≡ true) × (every finite r.energies ≡ true) × (q.number < r.next)

-- over any record whose next number is outside its domain: every frame is refused, as 2 where its bytes are not as many as its reader's storage,
-- else as 1, and record and reader stay as they were
abbrev pub PastRefused : Type 0
PastRefused =
    (r : Record) (q : Call) → 4294967295 < r.next
    → framed r q ≡ frame_refused (cond (eqb q.coder.storage (length q.packet)) 1 2) r q.coder

-- a finite f32
abbrev pub finite32 : Float → Bool
finite32 x = fits binary32 x && finite x

-- a record of 42 finite f32, as a fresh one is and every frame leaves it
pub record Usable (r : Record) : Type 0 where
  pub long : length r.energies ≡ 42
  pub all : every finite32 r.energies ≡ true

-- whatever calls come between, a call with a number that was applied is refused as 10, and the record stays as it is
abbrev pub AgainRefused : Type 0
AgainRefused =
    (r : Record) (q : Call) (qs : List Call) (q' : Call) → Usable r → (framed r q).code ≡ 0 → q'.number ≡ q.number
    → let r' = record_after (framed r q).rec qs in well_put r' q' ≡ true → framed r' q' ≡ frame_refused 10 r' q'.coder

-- so of a frame that is applied twice the second is refused as 10, and the record is as after the first
abbrev pub TwiceRefused : Type 0
TwiceRefused = (r : Record) (q : Call) → Usable r → (framed r q).code ≡ 0 → framed (framed r q).rec q ≡ frame_refused 10 (framed r q).rec q.coder

-- ---- a mono frame

-- a mono frame changes no energy of channel 1
abbrev pub MonoKeepsSecond : Type 0
MonoKeepsSecond = (r : Record) (q : Call) → q.c ≡ pos 1 → (k : ℕ) → 21 ≤ k → get_or (framed r q).rec.energies k nan ≡ get_or r.energies k nan

-- the same energies in channel 0
abbrev pub SameFirst : Record → Record → Type 0
SameFirst r r' = (k : ℕ) → k < 21 → get_or r.energies k nan ≡ get_or r'.energies k nan

-- and uses none: of two records that are the same but for channel 1 it makes the same, but for channel 1
abbrev pub MonoUsesFirst : Type 0
MonoUsesFirst =
    (r r' : Record) (q : Call) → q.c ≡ pos 1 → Usable r → Usable r' → r.next ≡ r'.next → SameFirst r r'
    → ((framed r q).code ≡ (framed r' q).code) × ((framed r q).next ≡ (framed r' q).next) × SameFirst (framed r q).rec (framed r' q).rec
