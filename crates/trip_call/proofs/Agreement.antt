-- By the theorem of round_trip the reader agrees with all that was written. Assumes nothing.
use Rattle.std.specs.Prelude.{Ok}
use Prim.Native.Nat.{ℕ}
use mathlib.Core.Path.{◌≡◌, refl, ap, sym, ◌∙◌}
use mathlib.Core.Bool.{Bool, true, false, cond}
use mathlib.Core.List.{List}
use native.Mathlib.Omega.{arith}
use lib.IntN.{ℤ}
use lib.ListN.{length}
use Rattle.laws.specs.Lists.{Bytes}
use Rattle.entcode.specs.Said.{Said}
use Rattle.entcode.specs.Said.Said.{done, refused}
use Rattle.entenc.specs.declared.Writer.{Writer}
use Rattle.entenc.specs.Answer.{closing, start_of}
use Rattle.entenc.specs.Write.{Wr, wr}
use Rattle.rate.specs.declared.AllocNumbers.{AllocNumbers}
use Rattle.rate.specs.declared.Wishes.{Wishes}
use Rattle.rate.specs.Allocations.{WrittenAllocation}
use Rattle.rate.specs.Question.{Lists, no_lists}
use Rattle.rate.specs.Answer.{after_write, writing}
use Rattle.trip_theorem.specs.Calls.{Symbol, Tells, value_count, tells_r, tells_w}
use Rattle.trip_theorem.specs.Rows.{WriteRow, write_all}
use Rattle.trip_theorem.specs.Rows.WriteRow.{write_row, write_row_refused}
use Rattle.trip_theorem.specs.Demand.{Agreed, Sent}
use Rattle.trip_theorem.proofs.Demand3.{demand3}
use Rattle.trip_call.specs.Outcome.{Ending, NeverDisagreed, ReaderAgrees, allot_outcome, close_outcome, new_outcome, row_outcome}
use Rattle.trip_call.specs.Outcome.Ending.{agreed, disagreed, not_closed, refused_by}
use Rattle.trip_call.specs.ReadBack.{agrees}
use Rattle.trip_call.specs.Same.{same_tells, same_value}
use Rattle.trip_call.proofs.Joining.{tells_equal}
use Rattle.trip_call.proofs.Sharing.{alike_self, ints_same, numbers-same}
use borrow.Author.Tests.{eq-eqb}

-- a value is the same as itself
value_same : (y : Symbol) → same_value y y ≡ true
value_same y = eq-eqb (value_count y.kind y.value) (value_count y.kind y.value) refl

-- and so is what writer and reader tell
tells-same : (t : Tells) → same_tells t t ≡ true
tells-same t = tells_equal t t refl

-- ---- what was sent is read as the definition compares it

module _ (q : AllocNumbers) (offsets caps : List ℤ) (h : Wishes) (bytes : List ℕ) (ys : List Symbol) (b : Bytes bytes) where
  module _ (k : Sent bytes ys q offsets caps h no_lists) where
    -- the theorem, for the lists that the call lends
    the_agreed : Agreed bytes ys q offsets caps h no_lists k no_lists
    the_agreed = demand3 bytes ys q offsets caps h no_lists k no_lists b (record { pulses = refl; fine = refl; priorities = refl })

    -- what was sent is read back, so the comparison says yes
    sent_agrees : agrees q offsets caps ys k.first (write_row k.row k.zs k.ts) k.shares k.lists k.packet ≡ true
    sent_agrees =
        let g = the_agreed in
        let n : g.lists ≡ k.lists = g.lists-read ∙ sym g.lists-written in
        rw (
          g.new,
          g.reads,
          tells_equal (tells_w k.first) (tells_r g.first) g.begins,
          alike_self same_value value_same k.zs,
          alike_self same_tells tells-same k.ts,
          g.allots,
          n,
          numbers-same k.shares g.shares g.coded g.balance g.intensity g.dual,
          ints_same k.lists.pulses,
          ints_same k.lists.fine,
          ints_same k.lists.priorities,
          tells_equal (tells_w k.shares.next) (tells_r g.shares.next) g.tells,
        )

  -- ---- each step of the writer's side

  -- after a close by whether it set the error mark
  by-mark : (t a : Bool) → (t ≡ false → a ≡ true)
      → cond t not_closed (cond a agreed disagreed) ≡ cond t not_closed agreed
  by-mark true a f = refl
  by-mark false a f = rw (f refl)

  module _ (w : Writer) (new : start_of (length bytes) ≡ done w) where
    module _ (v : Wr) (zs : List Symbol) (ts : List Tells) (writes : write_all ys (wr w bytes) ≡ write_row v zs ts) where
      -- after the close the two outcomes are the same
      close-agrees : (y : WrittenAllocation) (m : Lists) (filled : List ℕ) → writing q h offsets caps v no_lists ≡ after_write (Ok y) m filled
          → (r : Said Writer) (s : List ℕ) → closing (wr y.next filled) ≡ record { said = r; bytes = s }
          → close_outcome (agrees q offsets caps ys w (write_row v zs ts) y m) r s ≡ close_outcome (λ s. true) r s
      close-agrees y m filled allots (refused n) s e = refl
      close-agrees y m filled allots (done u) s e =
          by-mark u.sink.error (agrees q offsets caps ys w (write_row v zs ts) y m s)
          (λ f.
          sent_agrees
          (record {
            first = w;
            new = new;
            row = v;
            zs = zs;
            ts = ts;
            writes = writes;
            shares = y;
            lists = m;
            filled = filled;
            allots = allots;
            last = u;
            packet = s;
            closes = e;
            fits = f;
          }))

      -- so they are after the allocation
      allot-agrees : (r : Said WrittenAllocation) (m : Lists) (filled : List ℕ)
          → writing q h offsets caps v no_lists ≡ record { said = r; lent = m; bytes = filled }
          → allot_outcome (agrees q offsets caps ys w (write_row v zs ts)) r m filled ≡ allot_outcome (λ y m s. true) r m filled
      allot-agrees (refused n) m filled e = refl
      allot-agrees (done y) m filled e = close-agrees y m filled e (closing (wr y.next filled)).said (closing (wr y.next filled)).bytes refl

    -- after the symbols
    row-agrees : (a : WriteRow) → write_all ys (wr w bytes) ≡ a
        → row_outcome q offsets caps h (agrees q offsets caps ys) w a ≡ row_outcome q offsets caps h (λ w a y m s. true) w a
    row-agrees (write_row v zs ts) e =
        let x = writing q h offsets caps v no_lists in
        allot-agrees v zs ts e x.said x.lent x.bytes refl
    row-agrees (write_row_refused i n) e = refl

  -- and after the new writer
  new-agrees : (r : Said Writer) → start_of (length bytes) ≡ r
      → new_outcome q offsets caps h (agrees q offsets caps ys) bytes ys r ≡ new_outcome q offsets caps h (λ w a y m s. true) bytes ys r
  new-agrees (done w) e = row-agrees w e (write_all ys (wr w bytes)) refl
  new-agrees (refused n) e = refl

-- the trip ends as the writer's side alone says
pub reader-agrees : ReaderAgrees
reader-agrees q offsets caps h bytes ys b = new-agrees q offsets caps h bytes ys b (start_of (length bytes)) refl

-- ---- the writer's side alone does not say disagreed

-- a number for each ending
abbrev place_of : Ending → ℕ
place_of agreed = 0
place_of (refused_by by n) = 1
place_of not_closed = 2
place_of disagreed = 3

-- where no reader is asked, the close does not end in disagreed
close-not : (r : Said Writer) (s : List ℕ) → close_outcome (λ s. true) r s ≡ disagreed → ⊥
close-not (refused n) s e = let z : ◌≡◌ {A = ℕ} 1 3 = ap place_of e in omega arith
close-not (done u) s e = go u.sink.error e
  where
    go : (t : Bool) → cond t not_closed agreed ≡ disagreed → ⊥
    go true e = let z : ◌≡◌ {A = ℕ} 2 3 = ap place_of e in omega arith
    go false e = let z : ◌≡◌ {A = ℕ} 0 3 = ap place_of e in omega arith

-- nor does the allocation
allot-not : (r : Said WrittenAllocation) (m : Lists) (b : List ℕ) → allot_outcome (λ y m s. true) r m b ≡ disagreed → ⊥
allot-not (done y) m b e = close-not (closing (wr y.next b)).said (closing (wr y.next b)).bytes e
allot-not (refused n) m b e = let z : ◌≡◌ {A = ℕ} 1 3 = ap place_of e in omega arith

module _ (q : AllocNumbers) (offsets caps : List ℤ) (h : Wishes) where
  -- nor do the symbols
  row-not : (w : Writer) (a : WriteRow) → row_outcome q offsets caps h (λ w a y m s. true) w a ≡ disagreed → ⊥
  row-not w (write_row v zs ts) e = let x = writing q h offsets caps v no_lists in allot-not x.said x.lent x.bytes e
  row-not w (write_row_refused i n) e = let z : ◌≡◌ {A = ℕ} 1 3 = ap place_of e in omega arith

  -- nor the new writer
  new-not : (bytes : List ℕ) (ys : List Symbol) (r : Said Writer) → new_outcome q offsets caps h (λ w a y m s. true) bytes ys r ≡ disagreed → ⊥
  new-not bytes ys (done w) e = row-not w (write_all ys (wr w bytes)) e
  new-not bytes ys (refused n) e = let z : ◌≡◌ {A = ℕ} 1 3 = ap place_of e in omega arith

-- so no trip does
pub never_disagreed : NeverDisagreed
never_disagreed q offsets caps h bytes ys b e = new-not q offsets caps h bytes ys (start_of (length bytes))
    (sym (reader-agrees q offsets caps h bytes ys b) ∙ e)
