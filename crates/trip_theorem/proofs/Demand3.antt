-- Document 01's third demand: what an encoder wrote and closed without error a decoder reads, and both come to the definition's allocation.
-- Assumes nothing.
use Rattle.std.specs.Prelude.{Ok}
use Prim.Native.Nat.{ℕ, ◌-◌, ◌≤◌}
use mathlib.Core.Path.{◌≡◌, refl, ap, subst, sym, ◌∙◌}
use mathlib.Core.Bool.{true, false}
use mathlib.Core.List.{List, [], ◌++◌}
use native.Mathlib.Omega.{arith}
use lib.IntN.{ℤ, pos}
use lib.ListN.{length}
use lib.Signed.{lt_z}
use Rattle.laws.specs.Lists.{Bytes}
use Rattle.laws.specs.Signs.{clip}
use Rattle.laws.proofs.Lists.{fill_in}
use Rattle.entcode.specs.Said.{answer, lent_after}
use Rattle.entcode.specs.Sym.{Sym}
use Rattle.entdec.specs.declared.Reader.{Reader}
use Rattle.entdec.specs.Read.{fresh_reader}
use Rattle.entenc.specs.declared.Writer.{Writer}
use Rattle.entenc.specs.Write.{Wr, wr, fresh_writer}
use Rattle.entenc.specs.Close.{close_w}
use Rattle.entenc.specs.Rule.{writer_ok}
use Rattle.rate_spec.specs.Types.{Band, AllocIn, AllocOut}
use Rattle.rate.specs.declared.AllocNumbers.{AllocNumbers}
use Rattle.rate.specs.declared.Wishes.{Wishes}
use Rattle.rate.specs.Question.{Lists, alloc_input, entries_ok, numbers_ok, refusal_read, sized}
use Rattle.rate.specs.Answer.{answer_read, after_read, with_figure, lists_of, read_alloc, read_figures, write_wished, written_figures}
use Rattle.rate.specs.Allocations.{WrittenAllocation}
use Rattle.rate.proofs.Accepts.{sized as sizes-of}
use Rattle.rate.proofs.Coded.{write_traced, write_replayed, read_follows}
use Rattle.entenc.specs.Symbols.{write_syms}
use Rattle.trip_symbols.specs.Along.{Along, Meets}
use Rattle.trip_symbols.proofs.Trip.{Back, along}
use Rattle.trip_symbols.proofs.Rows.{AllSymsOk}
use Rattle.trip_theorem.specs.Calls.{Symbol, Tells, tells_r, tells_w}
use Rattle.trip_theorem.specs.Rows.{write_all, read_all, kinds}
use Rattle.trip_theorem.specs.Rows.WriteRow.{write_row}
use Rattle.trip_theorem.specs.Rows.ReadRow.{read_row}
use Rattle.trip_theorem.specs.Demand.{Agreed, CodedOnce, Demand3, Row3, SameIn, SameSizes, Sent, SentAlike, came_to}
use Rattle.trip_theorem.proofs.Symbols.{same-tells, opens}
use Rattle.trip_theorem.proofs.RowsBack.{syms, write_append, fine_append, meets_first, all_done, rule-before, row_back}
use Rattle.trip_theorem.proofs.Allocation.{alloc_syms, reads_on, write_syms_lem, write-fine}
use Rattle.trip_theorem.proofs.Gates.{new-writer, new-reader, closed, Allotted, allotted}

-- ---- the row, and symbols after it that no gate looks at

-- w is the new writer, v the writer after the row, s the bytes that are left when all is closed, d their reader after the row
record Whole (ys : List Symbol) (more : List Sym) (n : ℕ) (w v : Wr) (zs : List Symbol) (ts : List Tells) (s : List ℕ) (d : Reader) : Type 0 where
  length-is : length s ≡ n
  meets : Meets s w.st (fresh_reader s)
  begins : tells_r (fresh_reader s) ≡ tells_w w.st
  reads : read_all (kinds ys) s (fresh_reader s) ≡ read_row d zs ts
  goes : Along more s v d

-- the same with the reader after the row beside it
abbrev WholeOf : List Symbol → List Sym → ℕ → Wr → Wr → List Symbol → List Tells → List ℕ → Type 0
WholeOf ys more n w v zs ts s = (d : Reader) × Whole ys more n w v zs ts s d

-- u is the writer after the symbols `more`
whole-at : (bytes : List ℕ) (ys : List Symbol) (more : List Sym) (v u : Wr) (zs : List Symbol) (ts : List Tells) → Bytes bytes
    → write_all ys (wr (fresh_writer (length bytes)) bytes) ≡ write_row v zs ts → writer_ok v.st ≡ true → AllSymsOk more
    → write_syms (syms ys ++ more) (wr (fresh_writer (length bytes)) bytes) ≡ u → (close_w u).st.sink.error ≡ false
    → WholeOf ys more (length bytes) (wr (fresh_writer (length bytes)) bytes) v zs ts (close_w u).bytes
whole-at bytes ys more v u zs ts b e r f p ok =
    let w = wr (fresh_writer (length bytes)) bytes in
    let k : Back (syms ys ++ more) (length bytes) (wr (fresh_writer (length bytes)) bytes) (close_w u).bytes
    = rw p at (along bytes (syms ys ++ more) b (fine_append (syms ys) more (all_done ys w v zs ts e).fines f) (rw p ok)) in
    let s = (close_w u).bytes in
    let x = row_back ys more s (fresh_reader s) w v zs ts e r k.goes in
    let m = meets_first (syms ys ++ more) s w (fresh_reader s) k.goes in (
      x.last,
      record {
        length-is = k.length-is;
        meets = m;
        begins = same-tells s w.st (fresh_reader s) m (rule-before ys w v zs ts e r);
        reads = x.reads;
        goes = x.goes;
      },
    )

-- by the names of the calls
whole : (bytes : List ℕ) (ys : List Symbol) (more : List Sym) (first : Writer) (v u : Wr) (zs : List Symbol) (ts : List Tells) (s : List ℕ) → Bytes bytes
    → first ≡ fresh_writer (length bytes) → write_all ys (wr first bytes) ≡ write_row v zs ts → writer_ok v.st ≡ true → AllSymsOk more
    → write_syms more v ≡ u → s ≡ (close_w u).bytes → (close_w u).st.sink.error ≡ false
    → WholeOf ys more (length bytes) (wr first bytes) v zs ts s
whole bytes ys more first v u zs ts s b n e r f p c ok =
    let w = wr (fresh_writer (length bytes)) bytes in
    let g : write_all ys (wr (fresh_writer (length bytes)) bytes)
    ≡ write_row v zs ts = subst (λ (x : Writer). write_all ys (wr x bytes) ≡ write_row v zs ts) n e in
    let d = all_done ys w v zs ts g in
    rw (n, c) (whole-at bytes ys more v u zs ts b g r f (write_append (syms ys) more w ∙ ap (write_syms more) d.same ∙ p) ok)

-- ---- lists

-- one figure of the same bands, in lists of 21
same_in : (a : AllocIn) (o : AllocOut) (figure : Band → ℕ) (x y : List ℤ) → length x ≡ 21 → length y ≡ 21 → a.end ≤ 21
    → SameIn a (with_figure a figure o x) (with_figure a figure o y)
same_in a o figure x y p q h j l u =
    let f : ℕ → ℤ = λ j. pos (figure (o.band j)) in
    fill_in f (a.end - a.start) a.start j x (pos 0) l (omega arith) (omega arith)
    ∙ sym (fill_in f (a.end - a.start) a.start j y (pos 0) l (omega arith) (omega arith))

-- number 0: the allocation is the answer
done-read : (n : ℕ) (a : AllocIn) (x : AllocOut × Reader) (l : Lists) → n ≡ 0
    → answer_read n a x l ≡ after_read (Ok (read_figures x)) (lists_of a x.0 l)
unfolding answer_read answer lent_after
done-read n a x l z = rw z

-- the writer after an allocation
same_writer : (y : WrittenAllocation) (o : AllocOut × Wr) (b : List ℕ) → y ≡ written_figures o → b ≡ o.1.bytes → wr y.next b ≡ o.1
same_writer y o b p q = rw (p, q)

-- ---- the demand

module _ (bytes : List ℕ) (ys : List Symbol) (q : AllocNumbers) (offsets caps : List ℤ) (h : Wishes) (l : Lists) (k : Sent bytes ys q offsets caps h l)
    (m : Lists) where
  -- the definition's input
  abbrev a : AllocIn
  a = alloc_input q offsets caps

  -- the encoder's run
  abbrev run : AllocOut × Wr
  run = write_wished a h k.row

  -- the writer after the allocation, with its bytes
  abbrev after_it : Wr
  after_it = wr k.shares.next k.filled

  -- what holds once the reader has read the row, which leaves it at d, and come to the encoder's result, which leaves it at e
  agreed : SameSizes l m → length bytes ≤ 1275 → Allotted q h offsets caps k.row l k.shares k.lists k.filled → after_it ≡ run.1
      → writer_ok k.shares.next ≡ true
      → (d e : Reader) → Whole ys (alloc_syms a run.0) (length bytes) (wr k.first bytes) k.row k.zs k.ts k.packet d
      → Meets k.packet k.row.st d
      → read_alloc a k.packet d ≡ (run.0, e) → Meets k.packet k.shares.next e → Agreed bytes ys q offsets caps h l k m
  unfolding refusal_read
  agreed z n g v c d e x w s t =
      let o = run.0 in
      let u = g.shows in
      let p = sizes-of (length offsets) (length caps) (length l.pulses) (length l.fine) (length l.priorities) g.sizes in
      let j : sized q offsets caps m ≡ true = rw (z.pulses, z.fine, z.priorities) g.sizes in
      let f = opens k.packet k.row.st d (sized q offsets caps m) (numbers_ok q) (entries_ok offsets caps) w g.rule g.tell-fits j g.known
      g.ranges in
      record {
        first = fresh_reader k.packet;
        new = new-reader k.packet (omega (arith, x.length-is));
        storage = x.meets.storage;
        begins = x.begins;
        row = d;
        reads = x.reads;
        shares = read_figures (o, e);
        lists = lists_of a o m;
        allots =
            done-read (refusal_read q offsets caps m k.packet d) a (read_alloc a k.packet d) m f
            ∙ ap (λ (y : AllocOut × Reader). after_read (Ok (read_figures y)) (lists_of a y.0 m)) s;
        coded = ap (λ (y : WrittenAllocation). y.coded) (sym u);
        balance = ap (λ (y : WrittenAllocation). y.balance) (sym u);
        intensity = ap (λ (y : WrittenAllocation). y.intensity) (sym u);
        dual = ap (λ (y : WrittenAllocation). y.dual) (sym u);
        pulses = rw g.lists (same_in a o (λ b. b.pulses) m.pulses l.pulses (z.pulses ∙ p.pulses-is) p.pulses-is g.asked.end-le);
        fine = rw g.lists (same_in a o (λ b. b.fine) m.fine l.fine (z.fine ∙ p.fine-is) p.fine-is g.asked.end-le);
        priorities = rw g.lists (same_in a o (λ b. b.prio) m.priorities l.priorities (z.priorities ∙ p.priorities-is) p.priorities-is
            g.asked.end-le);
        storage-last = t.storage;
        tells = same-tells k.packet k.shares.next e t c;
        error = t.error;
        out = o;
        given = sym (write_replayed a h.previous h.bandwidth (clip h.intensity) (lt_z (pos 0) h.dual) k.row);
        symbols = v ∙ write_traced a h.previous h.bandwidth (clip h.intensity) (lt_z (pos 0) h.dual) k.row;
        figures-written = u ∙ ap (λ (y : Wr). written_figures (o, y)) (sym v);
        lists-written = g.lists;
        figures-read = refl;
        lists-read = refl;
      }

  -- the encoder's symbols read back from the closed bytes: the reader d after the row, and e after the allocation, to whose result it comes
  record Read (d e : Reader) : Type 0 where
    allotted_by : Allotted q h offsets caps k.row l k.shares k.lists k.filled
    short : length bytes ≤ 1275
    writer : after_it ≡ run.1
    rule : writer_ok k.shares.next ≡ true
    whole_of : Whole ys (alloc_syms a run.0) (length bytes) (wr k.first bytes) k.row k.zs k.ts k.packet d
    meets : Meets k.packet k.row.st d
    allots : read_alloc a k.packet d ≡ (run.0, e)
    meets_last : Meets k.packet k.shares.next e

  -- over bytes there are such readers
  read_out : Bytes bytes → (d : Reader) × (e : Reader) × Read d e
  read_out b =
      let n = new-writer (length bytes) k.first k.new in
      let g = allotted q h offsets caps k.row l k.shares k.lists k.filled k.allots in
      let c = closed after_it k.last k.packet k.closes in
      let i = clip h.intensity in
      let e = lt_z (pos 0) h.dual in
      let v = same_writer k.shares run k.filled g.shows g.bytes in
      let y = write_syms_lem a g.asked h.previous h.bandwidth i e k.row in
      let x = whole bytes ys (alloc_syms a run.0) k.first k.row after_it k.zs k.ts k.packet b n.1 k.writes g.rule
      (write-fine a g.asked h.previous h.bandwidth i e k.row) (sym y ∙ sym v) c.bytes
      (ap (λ (u : Writer). u.sink.error) (sym c.state) ∙ k.fits) in
      let r = reads_on k.packet a run.0 k.row x.0 x.1.goes in (
        x.0,
        r.last,
        record {
          allotted_by = g;
          short = n.0;
          writer = v;
          rule = c.rule;
          whole_of = x.1;
          meets = meets_first (alloc_syms a run.0) k.packet k.row x.0 x.1.goes;
          allots = read_follows a h.previous h.bandwidth i e k.row k.packet x.0 r.last r.agrees;
          meets_last = subst (λ (u : Wr). Meets k.packet u.st r.last) (sym y ∙ sym v) r.meets;
        },
      )

-- document 01's third demand
pub demand3 : Demand3
demand3 bytes ys q offsets caps h l k m b z =
    let r = read_out bytes ys q offsets caps h l k m b in
    let x = r.2 in
    agreed bytes ys q offsets caps h l k m z x.short x.allotted_by x.writer x.rule r.0 r.1 x.whole_of x.meets x.allots
    x.meets_last

-- ---- what was coded is in the writer and its bytes

-- the same trip with the other wishes
alike : (bytes : List ℕ) (ys : List Symbol) (q : AllocNumbers) (offsets caps : List ℤ) (h g : Wishes) (l m : Lists) (k : Sent bytes ys q offsets caps h l)
    → SentAlike bytes ys q offsets caps h l k g m → Sent bytes ys q offsets caps g m
alike bytes ys q offsets caps h g l m k s =
    record {
      first = k.first;
      new = k.new;
      row = k.row;
      zs = k.zs;
      ts = k.ts;
      writes = k.writes;
      shares = s.shares;
      lists = s.lists;
      filled = s.filled;
      allots = s.allots;
      last = k.last;
      packet = k.packet;
      closes = rw (s.same_writer, s.same_bytes) k.closes;
      fits = k.fits;
    }

-- one reader reads one row and one allocation from the packet that both closes leave
row_once : {a b : Reader} {x y : List Symbol} {t u : List Tells} → read_row a x t ≡ read_row b y u → a ≡ b
row_once e = cc

-- the same writer and bytes mean that the same was coded: a reader of them reads both
pub coded_once : CodedOnce
unfolding alike
coded_once bytes ys q offsets caps h g l m k b s =
    let i = alloc_input q offsets caps in
    let o = alike bytes ys q offsets caps h g l m k s in
    let x = read_out bytes ys q offsets caps h l k l b in
    let y = read_out bytes ys q offsets caps g m o m b in
    let d : y.0 ≡ x.0 = row_once (sym y.2.whole_of.reads ∙ x.2.whole_of.reads) in
    let e : came_to q offsets caps g k.row ≡ came_to q offsets caps h k.row
    = ap (λ (p : AllocOut × Reader). p.0) (sym y.2.allots ∙ ap (λ (r : Reader). read_alloc i k.packet r) d ∙ x.2.allots) in
    record {
      flags = ap (λ (p : AllocOut). p.flags) e;
      intensity-coded = ap (λ (p : AllocOut). p.intensity_coded) e;
      intensity = ap (λ (p : AllocOut). p.intensity) e;
      dual-coded = ap (λ (p : AllocOut). p.dual_coded) e;
      dual = ap (λ (p : AllocOut). p.dual) e;
    }

-- ---- symbols alone

-- the demand of symbols alone
pub row3 : Row3
unfolding write_syms
row3 bytes ys k b =
    let n = new-writer (length bytes) k.first k.new in
    let c = closed k.row k.last k.packet k.closes in
    let x = whole bytes ys [] k.first k.row k.row k.zs k.ts k.packet b n.1 k.writes c.rule tt refl c.bytes
    (ap (λ (u : Writer). u.sink.error) (sym c.state) ∙ k.unmarked) in
    record {
      first = fresh_reader k.packet;
      new = new-reader k.packet (omega (arith, x.1.length-is, n.0));
      storage = x.1.meets.storage;
      begins = x.1.begins;
      row = x.0;
      reads = x.1.reads;
      storage-last = x.1.goes.storage;
      error = x.1.goes.error;
    }
