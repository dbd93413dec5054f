-- Document 01, "When the answer is no": the numbers, and the one order in which they are tried.
use Rattle.std.specs.Prelude.{ℕ, Bool, cond, eqb}
use Rattle.entcode.specs.declared.reasons.Refusal.{Refusal}
use Rattle.entcode.specs.declared.reasons.Refusal.TheVariants.{
  Number,
  Length,
  Entry,
  PastEnd,
  NoRow,
  Index,
  Count,
  Sum,
  Rotation,
  BelowNext,
  AboveNext,
  Closed,
}

-- document 01's number of each refusal
abbrev pub number_of : Refusal → ℕ
number_of Number = 1
number_of Length = 2
number_of Entry = 3
number_of PastEnd = 4
number_of NoRow = 5
number_of Index = 6
number_of Count = 7
number_of Sum = 8
number_of Rotation = 9
number_of BelowNext = 10
number_of AboveNext = 11
number_of Closed = 12

-- the two that come last. unclosed: the call reads, or its writer is open (12). tell_fits: tell is not above 8 * storage + 32 (4)
abbrev pub last_two : Bool → Bool → ℕ
last_two unclosed tell_fits = cond unclosed (cond tell_fits 0 4) 12

-- The number of the refusal, 0 for none. lengths: every lent length is right (2). numbers: every number is in its domain (1). lists: every
-- entry is in its range (3). special: the first of 5 to 11 that the call's special rules give, rising, 0 for none
unfoldable pub refusal : Bool → Bool → Bool → ℕ → Bool → Bool → ℕ
refusal lengths numbers lists special unclosed tell_fits =
    cond lengths (cond numbers (cond lists (cond (eqb special 0) (last_two unclosed tell_fits) special) 3) 1) 2
