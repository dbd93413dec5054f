-- The reader's side: what the code compares is the definition's comparison. Assumes nothing.
use Rattle.std.specs.Prelude.{Result, Ok, Err, Option, None, Some}
use Rattle.entcode.specs.declared.reasons.Refusal.{Refusal}
use Prim.Native.Nat.{ℕ, ◌/◌}
use mathlib.Core.Path.{◌≡◌, sym, ◌∙◌}
use mathlib.Core.Bool.{Bool, false, ◌&&◌, and-false}
use mathlib.Core.List.{List}
use lib.IntN.{ℤ}
use lib.ListN.{length}
use Rattle.entdec.specs.declared.Reader.{Reader}
use Rattle.entenc.specs.declared.Writer.{Writer}
use Rattle.entenc.specs.Write.{wr}
use Rattle.rate.specs.declared.AllocNumbers.{AllocNumbers}
use Rattle.rate.specs.Allocations.{ReadAllocation, WrittenAllocation}
use Rattle.rate.specs.Question.{Lists, no_lists}
use Rattle.rate.specs.Answer.{after_read, reading}
use Rattle.trip_theorem.specs.Calls.{tells_r, tells_w}
use Rattle.trip_theorem.specs.Rows.{kinds, read_all, write_all}
use Rattle.trip_call.specs.Given.{symbols_of}
use Rattle.trip_call.specs.declared.rows.Pair.{Pair}
use Rattle.trip_call.specs.ReadBack.{row_agrees, shares_agree}
use Rattle.trip_call.specs.Runs.{pair_from, pairs_of}
use Rattle.trip_call.specs.Same.{same_ints, same_numbers, same_tells}
use Rattle.trip_call.proofs.Joining.{pairs_are, row-differs, row_same}

-- ---- the allocation, by the code's answer r, which left the lists n

module _ (q : AllocNumbers) (offsets caps : List ℤ) (y : WrittenAllocation) (m : Lists) (s : List ℕ) (e : Reader)
    {r : Result ReadAllocation Refusal} (n : Lists)
    (p : after_read r n ≡ reading q offsets caps s e no_lists) where
  -- an allocation that was read is compared
  pub shares-done : (x : ReadAllocation) {b : Bool} → r ≡ Ok x
      → b ≡ (same_numbers y x && same_ints m.pulses n.pulses && same_ints m.fine n.fine && same_ints m.priorities n.priorities && same_tells
      (tells_w y.next) (tells_r x.next))
      → b ≡ shares_agree q offsets caps y m s e
  shares-done x h k = rw (← p, h) k

  -- a refused one does not agree
  pub shares_no : {k : Refusal} → r ≡ Err k → false ≡ shares_agree q offsets caps y m s e
  shares_no h = rw (← p, h)

-- ---- the symbols, by the code's answer a, which left the bytes k; f is what it found before the first

module _ (l t : List ℕ) (q : AllocNumbers) (offsets caps : List ℤ) (y : WrittenAllocation) (m : Lists) (s : List ℕ) (w : Writer) (bytes : List ℕ) (d : Reader)
    (a : Option Pair) (k : List ℕ)
    (e : pairs_of a k ≡ pair_from l t s (length l / 5) 0 (wr w bytes) d) where
  -- after a row that agrees, the allocation decides
  pub back_same : {f b : Bool} (p : Pair) → a ≡ Some p → f ≡ same_tells (tells_w w) (tells_r d) → b ≡ shares_agree q offsets caps y m s p.reader
      → (f && b) ≡ (same_tells (tells_w w) (tells_r d) && row_agrees q offsets caps y m s (write_all (symbols_of l t) (wr w bytes))
      (read_all (kinds (symbols_of l t)) s d))
  back_same p g h c =
      let x = (rw g at e) ∙ pairs_are l t s (length l / 5) 0 (wr w bytes) d in
      rw (h, c, row_same q offsets caps y m s (write_all (symbols_of l t) (wr w bytes)) (read_all (kinds (symbols_of l t)) s d) (wr p.writer k) p.reader x)

  -- a row that differs does not agree
  pub back_differs : a ≡ None
      → false ≡ (same_tells (tells_w w) (tells_r d) && row_agrees q offsets caps y m s (write_all (symbols_of l t) (wr w bytes))
      (read_all (kinds (symbols_of l t)) s d))
  back_differs g =
      let x = (rw g at e) ∙ pairs_are l t s (length l / 5) 0 (wr w bytes) d in
      rw (row-differs q offsets caps y m s (write_all (symbols_of l t) (wr w bytes)) (read_all (kinds (symbols_of l t)) s d) x)
      (sym (and-false (same_tells (tells_w w) (tells_r d))))
