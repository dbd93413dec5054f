-- A writer that closes without error leaves bytes whose number lies in its range, and its raw bits.
use Prim.Native.Nat.{ℕ, zero, suc, ◌+◌, ◌-◌, ◌*◌, ◌/◌, ◌%◌, ◌^◌, ◌≤◌, ◌<◌}
use mathlib.Core.Path.{◌≡◌, refl, ap, sym, ◌∙◌}
use mathlib.Core.Bool.{false}
use mathlib.Core.List.{List}
use native.Mathlib.Nat.{mul_assoc}
use native.Mathlib.Omega.{arith}
use lib.ListN.{length}
use lib.Pow.{pow_pos}
use Rattle.laws.specs.Lists.{Bytes}
use Rattle.entenc_sink.specs.Out.{Out, flushed, left_of}
use Rattle.entenc_sink.specs.Carry.{settled}
use Rattle.entenc_sink.specs.Fit.{Fit}
use Rattle.entenc.specs.Write.{Wr, out_of, shift_w, shifts_w}
use Rattle.entenc.specs.Close.{tail_bits, tail_end, byte_count, ending_at, end_w, rest_out, close_out}
use Rattle.trip_symbols.proofs.Front.{code, seen, seen_three, ones}
use Rattle.trip_symbols.proofs.Back.{back_from}
use Rattle.trip_symbols.proofs.Ideal.{Ideal, shift_i, shifts_i, narrowed_i, Ready}
use Rattle.trip_symbols.proofs.Nested.{Inside, inside_shifts}
use Rattle.trip_symbols.proofs.Carry.{so_far, held_count, settles, limit_most}
use Rattle.trip_symbols.proofs.Sent.{raw_held, emit-ok, emit-error, emitted_raw, flush-ok, flush-error, left_lt}
use Rattle.trip_symbols.proofs.WriterFollows.{WriterBytes, WriterAt, shift-bytes, shift-error, shift-at, narrowed_at}
use Rattle.trip_symbols.proofs.LastNumber.{Chosen, chosen, spare_of, by_digits, part_one, multiple, LastDigits, last_digits_lem}
use Rattle.trip_symbols.proofs.LastBytes.{Ends, finished-ends, finished-error}

-- ---- the last digits

-- two steps at most, the second from a range that is small enough
shifts_bytes : (k : ℕ) (w : Wr) (g : Ideal) (r : ℕ → ℕ) → k ≤ 2 → (k ≡ 2 → g.rng ≤ 8388608) → 0 < g.rng → WriterAt w g r
    → (shifts_w k w).st.sink.error ≡ false
    → WriterBytes (shifts_w k w) (shifts_i k g) r
unfolding shifts_w shifts_i
shifts_bytes zero w g r h s p i e = i.bytes e
shifts_bytes (suc zero) w g r h s p i e = shift-bytes w g r i.numbers p (i.bytes (shift-error w e)) e
shifts_bytes (suc (suc zero)) w g r h s p i e =
    let j = shift-at w g r p (s refl) i in
    shift-bytes (shift_w w) (shift_i g) r j.numbers (omega arith) (j.bytes (shift-error (shift_w w) e)) e
shifts_bytes (suc (suc (suc k))) w g r h s p i e = absurd (omega arith)

-- a mark that is not set after the steps was not set before them
shifts_error : (k : ℕ) (w : Wr) → (shifts_w k w).st.sink.error ≡ false → w.st.sink.error ≡ false
unfolding shifts_w
shifts_error zero w e = e
shifts_error (suc k) w e = shift-error w (shifts_error k (shift_w w) e)

-- the steps leave the raw bits
shifts_window : (k : ℕ) (w : Wr) → ((shifts_w k w).st.window ≡ w.st.window) × ((shifts_w k w).st.waiting ≡ w.st.waiting)
unfolding shifts_w shift_w
shifts_window zero w = (refl, refl)
shifts_window (suc k) w = shifts_window k (shift_w w)

-- nothing is left of the low end when its digits are out
Spent : ℕ → Type 0
Spent l = (k : ℕ) (w : Wr) → w.st.val ≡ k * 2 ^ (31 - l) → (l ≡ 0 → k ≡ 0) → (shifts_w (byte_count l) w).st.val ≡ 0

-- one digit
shift-spent : (v n : ℕ) → v ≡ n * 8388608 → v % 8388608 * 256 ≡ 0
shift-spent v n e = omega (arith, multiple v n 8388608 e)

-- up to 8 bits
one_spent : (l : ℕ) → 0 < l → l ≤ 8 → Spent l
unfolding Spent shifts_w shift_w
one_spent l a h k w e z =
    let t : byte_count l ≡ 1 = omega arith in
    rw t (shift-spent w.st.val (k * 2 ^ (8 - l)) (e ∙ ap (λ (x : ℕ). k * x) (part_one l h) ∙ sym (mul_assoc k (2 ^ (8 - l)) 8388608)))

-- 9 bits
two-spent : (v k : ℕ) → v ≡ k * 4194304 → v % 8388608 * 256 % 8388608 * 256 ≡ 0
two-spent v k e =
    let z : v % 8388608 ≡ k % 2 * 4194304 = omega arith in
    shift-spent (v % 8388608 * 256) (k % 2 * 128) (omega arith)

-- all
spent : (l : ℕ) → l ≤ 9 → (k : ℕ) (w : Wr) → w.st.val ≡ k * 2 ^ (31 - l) → (l ≡ 0 → k ≡ 0) → (shifts_w (byte_count l) w).st.val ≡ 0
unfolding Spent shifts_w shift_w
spent = by_digits Spent (λ k w e z. let y = z refl in omega arith) one_spent (λ k w e z. two-spent w.st.val k e)

-- ---- all that is held goes out

-- o is where w's bytes went, with nothing held
record Rest (w : Wr) (g : Ideal) (r : ℕ → ℕ) (o : Out) : Type 0 where
  fit : Fit o
  number : code o.bytes o.sink.offs ≡ so_far (code w.bytes w.st.sink.offs) w.st.rem w.st.ext
  count : o.sink.offs + 3 ≡ g.at
  raw : (q : ℕ) → r q ≡ raw_held o w.st.window w.st.waiting q

-- nothing is held any more
rest-number : (a rem ext n : ℕ) → so_far n 0 0 ≡ so_far a rem ext * 256 + 0 → n ≡ so_far a rem ext
unfolding so_far ones
rest-number a rem ext n h = omega arith

-- and nothing waits
rest-count : (n rem ext : ℕ) → n + held_count 0 0 ≡ held_count rem ext + 1 → n ≡ held_count rem ext
unfolding held_count
rest-count n rem ext h = omega arith

-- what is held goes out as plain bytes
rest : (w : Wr) (g : Ideal) (r : ℕ → ℕ) → WriterBytes w g r → (rest_out w).sink.error ≡ false → Rest w g r (rest_out w)
rest w g r b h =
    let e = emit-ok (settled w.st.rem w.st.ext 0) (out_of w) b.fit h in
    let z = settles (code w.bytes w.st.sink.offs) w.st.rem w.st.ext 0 (omega arith) (λ k. absurd (omega arith)) in
    let n = rest-count (length (settled w.st.rem w.st.ext 0)) w.st.rem w.st.ext z.count in
    record {
      fit = e.fit;
      number = e.number ∙ rest-number (code w.bytes w.st.sink.offs) w.st.rem w.st.ext _ z.number;
      count = omega (arith, e.offs, b.count);
      raw = λ q. b.raw q ∙ emitted_raw _ (out_of w) _ e w.st.window w.st.waiting q;
    }

-- ---- the whole

-- s holds a number of g's range, and the raw bits r with something above them
pub record ClosedBytes (s : List ℕ) (g : Ideal) (r : ℕ → ℕ) : Type 0 where
  pub has : Inside s g
  pub above : ℕ
  pub raw : back_from s 0 ≡ r above

-- the number of the front lies in a range that ends with it
ends-inside : (s : List ℕ) (g : Ideal) (f spare offs : ℕ) (r : ℕ → ℕ) → Bytes s → Ends s f spare offs r → offs + 3 ≡ g.at → g.low ≡ f * 2147483648
    → g.rng ≡ 2 ^ spare * 2147483648 → Inside s g
ends-inside s g f spare offs r b c n l z =
    let e : suc (suc (suc offs)) ≡ g.at = omega arith in
    let a = seen_three s offs b in
    let d = ap (seen s) e in
    record { from = omega (arith, a.0, c.from); to = omega (arith, a.1, c.to) }

module _ (w : Wr) (g : Ideal) (r : ℕ → ℕ) (inv : WriterAt w g r) (ready : Ready g) (ok : (close_out w).sink.error ≡ false) where
  -- how many bits the close writes, the low end that it chooses, and the ideal coder cut down to it
  l : ℕ
  l = tail_bits w.st.val w.st.rng

  e : ℕ
  e = tail_end w.st.val w.st.rng

  g_e : Ideal
  g_e = narrowed_i (e - w.st.val) (2 ^ (31 - l)) g

  -- the number that the close chooses
  picked : Chosen w.st.val w.st.rng l e
  unfolding l e
  picked = let t = inv.numbers in chosen w.st.val w.st.rng (omega (arith, t.range_is, ready.range_gt))
      (omega (arith, t.end-le, limit_most w.st.rem))

  -- the close's errors, from the end
  flushed-ok : (flushed (w.st.waiting / 8) w.st.window (rest_out (end_w w))).sink.error ≡ false
  unfolding close_out
  flushed-ok = finished-error (left_of (w.st.waiting / 8) w.st.window) (w.st.waiting % 8) (spare_of (tail_bits w.st.val w.st.rng)) _ ok

  -- before the raw bytes
  rest_ok : (rest_out (end_w w)).sink.error ≡ false
  rest_ok = flush-error (w.st.waiting / 8) w.st.window (rest_out (end_w w)) flushed-ok

  -- before the held bytes
  end-ok : (end_w w).st.sink.error ≡ false
  end-ok = emit-error (settled (end_w w).st.rem (end_w w).st.ext 0) (out_of (end_w w)) rest_ok

  -- before the close
  close-error : w.st.sink.error ≡ false
  unfolding end_w
  close-error = shifts_error (byte_count (tail_bits w.st.val w.st.rng)) _ end-ok

  -- the writer cut down to the number chosen
  ending_at_lem : WriterAt (ending_at e (2 ^ (31 - l)) w) g_e r
  unfolding g_e
  ending_at_lem =
      let c = picked in
      let t = inv.numbers in
      let z : w.st.val + (e - w.st.val) ≡ e = omega (arith, c.from) in
      rw z at (narrowed_at w g r (e - w.st.val) (2 ^ (31 - l)) (omega (arith, c.from, c.to, t.range_is)) inv)

  -- after its digits
  end-bytes : WriterBytes (end_w w) (shifts_i (byte_count l) g_e) r
  unfolding end_w l e g_e
  end-bytes =
      let c = picked in
      shifts_bytes (byte_count l) (ending_at e (2 ^ (31 - l)) w) g_e r (omega (arith, c.bits-le))
      (λ k. let y : l ≡ 9 = omega (arith, c.bits-le) in let p : 2 ^ (31 - l) ≡ 4194304 = rw y in omega arith)
      (pow_pos (31 - l)) ending_at_lem end-ok

  -- nothing of the low end is left
  end-spent : (end_w w).st.val ≡ 0
  unfolding end_w l e
  end-spent =
      let c = picked in
      let t = inv.numbers in
      spent l c.bits-le c.times (ending_at e (2 ^ (31 - l)) w) c.many
      (λ z.
      let p : 2 ^ (31 - l) ≡ 2147483648 = rw z in
      let q : e ≡ c.times * 2147483648 = c.many ∙ ap (λ (n : ℕ). c.times * n) p in
      omega (arith, c.to, t.end-le, t.range_is, ready.range_le, limit_most w.st.rem))

  -- the number of all bytes of the front
  f : ℕ
  f = so_far (code (end_w w).bytes (end_w w).st.sink.offs) (end_w w).st.rem (end_w w).st.ext

  -- so the ideal low end is the number of the front
  end_low : (shifts_i (byte_count l) g_e).low ≡ f * 2147483648
  unfolding f
  end_low = let b = end-bytes in omega (arith, b.low, end-spent)

  -- whose spare bits are free
  end-digits : LastDigits l f g_e
  unfolding g_e
  end-digits =
      let c = picked in
      let b = inv.bytes close-error in
      last_digits_lem l c.bits-le (so_far (code w.bytes w.st.sink.offs) w.st.rem w.st.ext) c.times f g_e
      (omega (arith, b.low, c.from, c.many))
      refl end_low

  -- the last raw bits go beside it or into its spare bits
  closed : Ends (close_out w).bytes f (spare_of l) (flushed (w.st.waiting / 8) w.st.window (rest_out (end_w w))).sink.offs r
      × ((flushed (w.st.waiting / 8) w.st.window (rest_out (end_w w))).sink.offs + 3 ≡ (shifts_i (byte_count l) g_e).at)
  unfolding close_out l f end_w
  closed =
      let t = inv.numbers in
      let d = end-digits in
      let c = picked in
      let k = shifts_window (byte_count (tail_bits w.st.val w.st.rng))
      (ending_at (tail_end w.st.val w.st.rng) (2 ^ (31 - tail_bits w.st.val w.st.rng)) w) in
      let o = rest (end_w w) (shifts_i (byte_count l) g_e) r end-bytes rest_ok in
      let z : w.st.waiting % 8 + 8 * (w.st.waiting / 8) ≡ w.st.waiting = omega arith in
      let x = flush-ok (w.st.waiting / 8) w.st.window (w.st.waiting % 8) (rest_out (end_w w)) o.fit flushed-ok in (
        finished-ends (left_of (w.st.waiting / 8) w.st.window) (w.st.waiting % 8) (spare_of l) _ f r x.fit (x.number ∙ o.number) d.spare
            (omega (arith, c.bits-le))
            (left_lt (w.st.waiting / 8) w.st.window (w.st.waiting % 8) (rw z t.win)) (omega arith)
            (λ q. o.raw q ∙ rw (k.0, k.1) (sym (rw z at (x.raw q)))) ok,
        omega (arith, x.offs, o.count),
      )

  -- from the last bytes back to the range before them
  pub close_leaves : Bytes (close_out w).bytes → ClosedBytes (close_out w).bytes g r
  unfolding g_e
  close_leaves b =
      let c = picked in
      let t = inv.numbers in
      let y = closed in
      let h2 = ends-inside (close_out w).bytes (shifts_i (byte_count l) g_e) f (spare_of l) _ r b y.0 y.1 end_low end-digits.range_is in
      let h1 = inside_shifts (byte_count l) (close_out w).bytes g_e b h2 in
      record {
        has = record { from = omega (arith, h1.from); to = omega (arith, h1.to, c.from, c.to, t.range_is) };
        above = y.0.rest;
        raw = y.0.raw;
      }
