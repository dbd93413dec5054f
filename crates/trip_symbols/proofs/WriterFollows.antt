-- A writer follows the ideal coder, step by step. What it says of bytes holds as long as the error mark is not set.
use Prim.Native.Nat.{ℕ, ◌+◌, ◌-◌, ◌*◌, ◌/◌, ◌%◌, ◌^◌, ◌≤◌, ◌<◌}
use mathlib.Core.Path.{◌≡◌, refl, ap, sym, ◌∙◌}
use mathlib.Core.Bool.{false}
use mathlib.Core.List.{List, [], ◌∷◌}
use native.Mathlib.Nat.{mul-add, mul_assoc, mul_comm}
use native.Mathlib.Omega.{arith}
use lib.ListN.{length}
use lib.Dec.{leb}
use lib.Pow.{pow-add}
use lib.Arith.{digits_lt}
use lib.Bits.{bit_or, or_shifted_r}
use borrow.Author.Tests.{leb-true, leb-false}
use Rattle.laws.proofs.Tests.{split_on}
use Rattle.entcode.specs.Range.{renorm_steps, cut_start, cut_width}
use Rattle.entcode.specs.Sym.{Piece}
use Rattle.entcode.specs.Sym.Piece.{cut, bits}
use Rattle.entcode.proofs.Cuts.{CutOk, cut_in}
use Rattle.entcode.proofs.RenormSteps.{steps_ind}
use Rattle.entenc.specs.declared.Writer.{Writer}
use Rattle.entenc_sink.specs.Carry.{settled, held_by, run_by}
use Rattle.entenc_sink.specs.Fit.{Fit}
use Rattle.entenc.specs.Write.{Wr, wr, out_of, shift_w, shifts_w, narrowed, cut_w, flush_w, topped_w, bits_w, fresh_writer}
use Rattle.entenc.specs.Symbols.{write_pieces}
use Rattle.entenc.proofs.Shifts.{held-le}
use Rattle.entcode.proofs.Pieces.{BitsOk, PiecesOk}
use Rattle.trip_symbols.proofs.Front.{code, ones}
use Rattle.trip_symbols.proofs.Back.{back_with}
use Rattle.trip_symbols.proofs.Carry.{so_far, held_count, limit, settles, limit_most, limit_carry, limit_shift}
use Rattle.trip_symbols.proofs.Ideal.{Ideal, fresh_i, shift_i, shifts_i, narrowed_i, cut_i, bits_i, pieces_i, raw_of, Ready, piece_ready}
use Rattle.trip_symbols.proofs.Sent.{raw_held, emit-ok, emit-error, emitted_raw, flush-ok, flush-error, left_lt}

-- the numbers of the state are the ideal ones, and no carry can come where none can be taken
pub record WriterNumbers (w : Writer) (g : Ideal) : Type 0 where
  pub range_is : w.rng ≡ g.rng
  pub total : w.total ≡ 9 + 8 * g.at + g.raws
  pub end-le : w.val + w.rng ≤ limit w.rem
  pub rem : w.rem ≤ 256
  pub win : w.window < 2 ^ w.waiting
  pub wait : w.waiting ≤ 32

-- the bytes that are out and held, with the low end, are the ideal low end; r gives the raw bits, with what comes above them
pub record WriterBytes (w : Wr) (g : Ideal) (r : ℕ → ℕ) : Type 0 where
  pub fit : Fit (out_of w)
  pub low : so_far (code w.bytes w.st.sink.offs) w.st.rem w.st.ext * 2147483648 + w.st.val ≡ g.low
  pub count : w.st.sink.offs + held_count w.st.rem w.st.ext + 3 ≡ g.at
  pub raw : (q : ℕ) → r q ≡ raw_held (out_of w) w.st.window w.st.waiting q

-- the writer w stands where g does
pub record WriterAt (w : Wr) (g : Ideal) (r : ℕ → ℕ) : Type 0 where
  pub numbers : WriterNumbers w.st g
  pub bytes : w.st.sink.error ≡ false → WriterBytes w g r

-- ---- a step

-- the numbers of one step
shift-numbers : (w : Wr) (g : Ideal) → WriterNumbers w.st g → g.rng ≤ 8388608 → WriterNumbers (shift_w w).st (shift_i g)
unfolding shift_w
shift-numbers w g t h =
    record {
      range_is = ap (λ (n : ℕ). n * 256) t.range_is;
      total = omega (arith, t.total);
      end-le = limit_shift w.st.rem w.st.val w.st.rng t.end-le (omega (arith, t.range_is));
      rem = held-le w.st.rem (w.st.val / 8388608) t.rem;
      win = t.win;
      wait = t.wait;
    }

-- the low end with a byte more
shift-low : (n n' val low : ℕ) → n' ≡ n * 256 + val / 8388608 → n * 2147483648 + val ≡ low → n' * 2147483648 + val % 8388608 * 256 ≡ low * 256
shift-low n n' val low p q = omega arith

-- the bytes of one step
pub shift-bytes : (w : Wr) (g : Ideal) (r : ℕ → ℕ) → WriterNumbers w.st g → 0 < g.rng → WriterBytes w g r → (shift_w w).st.sink.error ≡ false
    → WriterBytes (shift_w w) (shift_i g) r
unfolding shift_w
shift-bytes w g r t p b h =
    let c = w.st.val / 8388608 in
    let e = emit-ok (settled w.st.rem w.st.ext (w.st.val / 8388608)) (out_of w) b.fit h in
    let m : w.st.val / 8388608 < 512 = omega (arith, t.end-le, limit_most w.st.rem) in
    let z = settles (code w.bytes w.st.sink.offs) w.st.rem w.st.ext (w.st.val / 8388608) m
    (λ k. limit_carry w.st.rem w.st.val w.st.rng t.end-le (omega (arith, t.range_is)) k) in
    record {
      fit = e.fit;
      low =
          shift-low (so_far (code w.bytes w.st.sink.offs) w.st.rem w.st.ext) _ w.st.val g.low
          (ap (λ (n : ℕ). so_far n (held_by w.st.rem c) (run_by w.st.ext c)) e.number ∙ z.number) b.low;
      count = omega (arith, e.offs, z.count, b.count);
      raw = λ q. b.raw q ∙ emitted_raw _ (out_of w) _ e w.st.window w.st.waiting q;
    }

-- a step that leaves no mark found none
pub shift-error : (w : Wr) → (shift_w w).st.sink.error ≡ false → w.st.sink.error ≡ false
unfolding shift_w
shift-error w h = emit-error (settled w.st.rem w.st.ext (w.st.val / 8388608)) (out_of w) h

-- one step
pub shift-at : (w : Wr) (g : Ideal) (r : ℕ → ℕ) → 0 < g.rng → g.rng ≤ 8388608 → WriterAt w g r → WriterAt (shift_w w) (shift_i g) r
shift-at w g r p q i = record { numbers = shift-numbers w g i.numbers q; bytes = λ h. shift-bytes w g r i.numbers p (i.bytes (shift-error w h)) h }

-- ---- a symbol

-- the steps that a range takes
shifts_at : (r : ℕ → ℕ) (n : ℕ) → 0 < n → n ≤ 2147483648 → (w : Wr) (g : Ideal) → g.rng ≡ n → WriterAt w g r
    → WriterAt (shifts_w (renorm_steps n) w) (shifts_i (renorm_steps n) g) r
unfolding shifts_w shifts_i
shifts_at r =
    steps_ind (λ k n. (w : Wr) (g : Ideal) → g.rng ≡ n → WriterAt w g r → WriterAt (shifts_w k w) (shifts_i k g) r)
    (λ n h m w g e i. i)
    (λ k n h m f w g e i. f (shift_w w) (shift_i g) (ap (λ (n : ℕ). n * 256) e) (shift-at w g r (omega arith) (omega arith) i))

-- a part of the range
pub narrowed_at : (w : Wr) (g : Ideal) (r : ℕ → ℕ) (add size : ℕ) → add + size ≤ g.rng → WriterAt w g r
    → WriterAt (narrowed add size w) (narrowed_i add size g) r
narrowed_at w g r add size h i =
    let t = i.numbers in
    record {
      numbers =
          record {
            range_is = refl;
            total = t.total;
            end-le = omega (arith, t.end-le, t.range_is);
            rem = t.rem;
            win = t.win;
            wait = t.wait;
          };
      bytes = λ e.
          let b = i.bytes e in
          record { fit = b.fit; low = omega (arith, b.low); count = b.count; raw = b.raw };
    }

-- a cut
pub cut_at : (w : Wr) (g : Ideal) (r : ℕ → ℕ) (fl fh ft : ℕ) → Ready g → CutOk fl fh ft → WriterAt w g r → WriterAt (cut_w fl fh ft w) (cut_i fl fh ft g) r
unfolding cut_w cut_i
cut_at w g r fl fh ft y ok i =
    let c = cut_in g.rng fl fh ft ok y.range_gt in
    rw i.numbers.range_is
    (shifts_at r (cut_width g.rng fl fh ft) c.width-pos (omega arith) (narrowed (cut_start g.rng fl ft) (cut_width g.rng fl fh ft) w) _ refl
    (narrowed_at w g r (cut_start g.rng fl ft) (cut_width g.rng fl fh ft) (omega arith) i))

-- ---- raw bits

-- whole bytes of raw bits go out
flush-at : (k : ℕ) (w : Wr) (g : Ideal) (r : ℕ → ℕ) → 8 * k ≤ w.st.waiting → WriterAt w g r → WriterAt (flush_w k w) g r
flush-at k w g r h i =
    let t = i.numbers in
    let z : w.st.waiting - 8 * k + 8 * k ≡ w.st.waiting = omega arith in
    record {
      numbers =
          record {
            range_is = t.range_is;
            total = t.total;
            end-le = t.end-le;
            rem = t.rem;
            win = left_lt k w.st.window (w.st.waiting - 8 * k) (rw z t.win);
            wait = omega (arith, t.wait);
          };
      bytes = λ e.
          let b = i.bytes (flush-error k w.st.window (out_of w) e) in
          let f = flush-ok k w.st.window (w.st.waiting - 8 * k) (out_of w) b.fit e in
          record {
            fit = f.fit;
            low = ap (λ (n : ℕ). so_far n w.st.rem w.st.ext * 2147483648 + w.st.val) f.number ∙ b.low;
            count = omega (arith, f.offs, b.count);
            raw = λ q. b.raw q ∙ sym (rw z at (f.raw q));
          };
    }

-- raw bits on top of a window
top-num : (window p v b q : ℕ) → window + p * (v + b * q) ≡ v * p + window + p * b * q
top-num window p v b q = omega (arith, mul-add p v (b * q), mul_assoc p b q, mul_comm v p)

-- raw bits beside those that wait
topped-at : (b v : ℕ) (w : Wr) (g : Ideal) (r : ℕ → ℕ) → w.st.waiting + b ≤ 32 → BitsOk b v → WriterAt w g r
    → WriterAt (topped_w b v w) (bits_i b g) (λ q. r (v + 2 ^ b * q))
topped-at b v w g r h ok i =
    let t = i.numbers in
    let o : bit_or w.st.window (v * 2 ^ w.st.waiting) ≡ v * 2 ^ w.st.waiting + w.st.window
    = or_shifted_r v w.st.waiting w.st.window t.win in
    let p : 2 ^ (w.st.waiting + b) ≡ 2 ^ w.st.waiting * 2 ^ b = pow-add 2 w.st.waiting b in
    record {
      numbers =
          record {
            range_is = t.range_is;
            total = omega (arith, t.total);
            end-le = t.end-le;
            rem = t.rem;
            win = rw (o, p) (omega (arith, digits_lt ok.value-lt t.win, mul_comm (2 ^ b) (2 ^ w.st.waiting)));
            wait = h;
          };
      bytes = λ e.
          let y = i.bytes e in
          record {
            fit = y.fit;
            low = y.low;
            count = y.count;
            raw = λ q.
                y.raw (v + 2 ^ b * q)
                ∙ ap (λ (n : ℕ). back_with w.bytes 0 w.st.sink.ends n) (top-num w.st.window (2 ^ w.st.waiting) v (2 ^ b) q)
                ∙ rw (o, p);
          };
    }

-- raw bits
pub bits_at : (b v : ℕ) (w : Wr) (g : Ideal) (r : ℕ → ℕ) → BitsOk b v → WriterAt w g r → WriterAt (bits_w b v w) (bits_i b g) (λ q. r (v + 2 ^ b * q))
unfolding bits_w
bits_at b v w g r ok i =
    split_on (leb (w.st.waiting + b) 32)
    (λ t.
    let u = leb-true (w.st.waiting + b) 32 t in
    simp t (topped-at b v (flush_w 0 w) g r (omega arith) ok (flush-at 0 w g r (omega arith) i)))
    (λ t.
    let u = leb-false (w.st.waiting + b) 32 t in
    simp t (topped-at b v (flush_w (w.st.waiting / 8) w) g r (omega (arith, ok.bits-le)) ok (flush-at (w.st.waiting / 8) w g r (omega arith) i)))

-- a new writer stands where the ideal coder begins
pub fresh_writer-at : (bytes : List ℕ) (n : ℕ) → length bytes ≡ n → WriterAt (wr (fresh_writer n) bytes) fresh_i (λ q. q)
unfolding limit so_far held_count code ones back_with
fresh_writer-at bytes n h =
    record {
      numbers = record { range_is = refl; total = refl; end-le = omega arith; rem = omega arith; win = omega arith; wait = omega arith };
      bytes = λ e. record { fit = record { len = sym h; room = omega arith }; low = refl; count = refl; raw = λ q. omega arith };
    }

-- ---- a symbol's pieces

-- pieces
pub pieces_at : (ps : List Piece) (w : Wr) (g : Ideal) (r : ℕ → ℕ) → Ready g → PiecesOk ps → WriterAt w g r
    → WriterAt (write_pieces ps w) (pieces_i ps g) (λ q. r (raw_of ps q))
unfolding write_pieces pieces_i raw_of
pieces_at [] w g r y ok i = i
pieces_at (cut fl fh ft ∷ ps) w g r y ok i =
    pieces_at ps (cut_w fl fh ft w) (cut_i fl fh ft g) r (piece_ready (cut fl fh ft) g y ok.0) ok.1 (cut_at w g r fl fh ft y ok.0 i)
pieces_at (bits b v ∷ ps) w g r y ok i =
    pieces_at ps (bits_w b v w) (bits_i b g) (λ q. r (v + 2 ^ b * q)) (piece_ready (bits b v) g y ok.0) ok.1 (bits_at b v w g r ok.0 i)
