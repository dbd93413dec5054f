-- A state's list holds the state: what was stored is loaded again. And a list with a number that does not fit is a state that every call
-- refuses, as 1 unless a length is wrong. Assumes nothing.
use Prim.Native.Nat.{ℕ, ◌≤◌}
use mathlib.Core.Path.{◌≡◌, refl, sym}
use mathlib.Core.Bool.{Bool, true, false, cond, and-false}
use mathlib.Core.List.{List}
use native.Mathlib.Omega.{arith}
use lib.Dec.{eqb, leb}
use lib.IntN.{ℤ, pos, negsuc}
use borrow.Author.Tests.{le-leb, eqb-true, eqb-false}
use Rattle.laws.specs.Lists.{every}
use Rattle.laws.proofs.Tests.{split_on}
use Rattle.entcode.specs.Counts.{counts_ok}
use Rattle.entcode.specs.Refusal.{refusal}
use Rattle.entdec.specs.Rule.{reader_ok, read_refusal}
use Rattle.entenc.specs.Rule.{writer_ok, write_refusal, refusal_close}
use Rattle.gurthapen_state.specs.State.{is_count, count_of, mark_of, held_of, held_fits, list_held, range_of, entry, reader_fits, writer_fits, reader_of}
use Rattle.gurthapen_state.specs.State.{list_of_reader, writer_of, list_of_writer}
use Rattle.gurthapen_state.specs.Back.{Count, ReaderBack, WriterBack, DamagedNotRead, DamagedNotWritten, DamagedNotClosed}

-- ---- one number

-- a number of 32 bits passes the test
fits : {n : ℕ} → Count n → is_count (pos n) ≡ true
fits {n} h = rw (le-leb 0 n (omega arith), le-leb n 4294967295 (omega arith))

-- and is read as itself
count_back : {n : ℕ} → Count n → count_of (pos n) ≡ n
unfolding count_of
count_back h = rw (fits h)

-- not 256, so a byte
below : {n : ℕ} → n ≤ 256 → eqb n 256 ≡ false → n ≤ 255
below {n} h e = let ne = eqb-false n 256 e in omega arith

-- a reader's mark, and a writer's closed
flag_back : (b : Bool) → mark_of (cond b (pos 1) (pos 0)) ≡ b
flag_back true = refl
flag_back false = refl

-- a writer's error mark
fault_back : (b : Bool) → mark_of (cond b (negsuc 0) (pos 0)) ≡ b
fault_back true = refl
fault_back false = refl

-- a held byte is read as itself, and none as none
held_back : {n : ℕ} → n ≤ 256 → held_of (list_held n) ≡ n
unfolding held_of list_held
held_back {n} h =
    split_on (eqb n 256) (λ e. rw e (sym (eqb-true n 256 e)))
    (λ e. let l : n ≤ 255 = below h e in rw (e, le-leb 0 n (omega arith), le-leb n 255 l))

-- and passes the test
held_fits_lem : {n : ℕ} → n ≤ 256 → held_fits (list_held n) ≡ true
unfolding list_held
held_fits_lem {n} h = split_on (eqb n 256) (λ e. rw e) (λ e. let l : n ≤ 255 = below h e in rw (e, le-leb n 255 l))

-- ---- a reader

-- each number by itself
pub reader_back : ReaderBack
unfolding reader_of list_of_reader range_of every
reader_back d f =
    rw (
      fits f.storage,
      fits f.ends,
      fits f.window,
      fits f.waiting,
      fits f.total,
      fits f.offs,
      fits f.rng,
      fits f.val,
      fits f.ext,
      fits f.rem,
      count_back f.storage,
      count_back f.ends,
      count_back f.window,
      count_back f.waiting,
      count_back f.total,
      count_back f.offs,
      count_back f.rng,
      count_back f.val,
      count_back f.ext,
      count_back f.rem,
      flag_back d.error,
    )

-- ---- a writer

-- each number by itself
pub writer_back : WriterBack
unfolding writer_of list_of_writer range_of every
writer_back w f =
    rw (
      fits f.storage,
      fits f.ends,
      fits f.window,
      fits f.waiting,
      fits f.total,
      fits f.offs,
      fits f.rng,
      fits f.val,
      fits f.ext,
      held_fits_lem f.rem,
      count_back f.storage,
      count_back f.ends,
      count_back f.window,
      count_back f.waiting,
      count_back f.total,
      count_back f.offs,
      count_back f.rng,
      count_back f.val,
      count_back f.ext,
      held_back f.rem,
      fault_back w.sink.error,
      flag_back w.closed,
    )

-- ---- a list with a number that does not fit

-- a range of 0 breaks the rule that both states share
no_range : (storage waiting total : ℕ) → counts_ok storage 0 waiting total ≡ false
unfolding counts_ok
no_range storage waiting total = rw (and-false (leb storage 1275))

-- a number that does not fit leaves no range
reader_damaged : (l : List ℤ) → reader_fits l ≡ false → reader_ok (reader_of l) ≡ false
unfolding reader_ok reader_of range_of
reader_damaged l e = rw (e, no_range (count_of (entry l 0)) (count_of (entry l 3)) (count_of (entry l 4)))

-- of a writer
writer_damaged : (l : List ℤ) → writer_fits l ≡ false → writer_ok (writer_of l) ≡ false
unfolding writer_ok writer_of range_of
writer_damaged l e = rw (e, no_range (count_of (entry l 0)) (count_of (entry l 3)) (count_of (entry l 4)))

-- a state that breaks its rule is 1, where no length is wrong
pub damaged_not_read : DamagedNotRead
unfolding read_refusal refusal
damaged_not_read l e n lengths numbers lists special = rw (reader_damaged l e)

-- of a writer
pub damaged_not_written : DamagedNotWritten
unfolding write_refusal refusal
damaged_not_written l e n lengths numbers lists special = rw (writer_damaged l e)

-- of close
pub damaged_not_closed : DamagedNotClosed
unfolding refusal_close refusal
damaged_not_closed l e b = rw (writer_damaged l e)
