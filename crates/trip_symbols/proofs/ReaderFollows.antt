-- A reader follows the ideal coder, step by step, as long as the number of its bytes lies in the range.
use Prim.Native.Nat.{ℕ, zero, suc, ◌+◌, ◌-◌, ◌*◌, ◌/◌, ◌%◌, ◌^◌, ◌≤◌, ◌<◌, min}
use mathlib.Core.Path.{◌≡◌, refl, ap, subst, sym, ◌∙◌}
use mathlib.Core.Bool.{false}
use mathlib.Core.List.{List}
use mathlib.Core.Logic.{⊎_elim}
use native.Mathlib.Nat.{mul_comm, mul-add, mul_assoc, mul_left_comm, mul_right_comm, add-mul-mod_self_left}
use native.Mathlib.Nat.{add-mul-div_left, mod-eq_of_lt, div-eq_of_lt, le_refl}
use native.Mathlib.Omega.{arith}
use native.Mathlib.Numerals.{add-one}
use lib.ListN.{length, get_or, get_or-eq_default}
use lib.Dec.{ltb}
use lib.Pow.{pow-add, pow_pos, shr_lt}
use lib.Arith.{digits_lt}
use lib.Bits.{bit_or, or_shifted_r}
use borrow.Author.Tests.{lt-ltb, le-ltb, ltb-true, ltb-false}
use Rattle.laws.specs.Lists.{Bytes}
use Rattle.laws.proofs.Tests.{split_on, by_le}
use Rattle.entcode.specs.Range.{renorm_steps, cut_start, cut_width}
use Rattle.entcode.proofs.Cuts.{CutOk, cut_in}
use Rattle.entdec.specs.declared.Reader.{Reader}
use Rattle.entdec.specs.Read.{advanced, shifted_byte, pull, pulls, decoded_place, taken, update, byte_back, fetch, fetches, shed, read_bits, begun_reader}
use Rattle.entdec.specs.Read.{fresh_reader}
use Rattle.entdec.proofs.Places.{place-lt, place_ge}
use Rattle.trip_symbols.proofs.Front.{code, seen, seen_next, next-lt}
use Rattle.trip_symbols.proofs.Back.{back_from, back_from_step, back_from_end, byte_back-past, byte_back-lt}
use Rattle.trip_symbols.proofs.Ideal.{Ideal, ideal, fresh_i, shift_i, shifts_i, narrowed_i, cut_i, bits_i, Ready}
use Rattle.trip_symbols.proofs.Nested.{Inside, inside_shifts}

-- the reader d of the bytes s stands where g does; x is the raw bits still to come, as one number
pub record ReaderAt (s : List ℕ) (d : Reader) (g : Ideal) (x : ℕ) : Type 0 where
  pub range_is : d.rng ≡ g.rng
  pub val : d.val + seen s g.at + 1 ≡ g.low + g.rng
  pub total : d.total ≡ 9 + 8 * g.at + g.raws
  pub offs : d.offs ≡ min (suc g.at) (length s)
  pub rem : d.rem ≡ get_or s g.at 0
  pub raw : x ≡ d.window + 2 ^ d.waiting * back_from s d.ends
  pub win : d.window < 2 ^ d.waiting
  pub wait : d.waiting ≤ 32
  pub ends : d.ends ≤ length s
  pub len : d.storage ≡ length s
  pub error : d.error ≡ false

-- ---- a step

-- the next place, which stays at the end
advanced-min : (a n : ℕ) → advanced (min a n) n ≡ min (suc a) n
advanced-min a n =
    split_on (ltb (min a n) n)
    (λ t. let h = ltb-true (min a n) n t in simp t (omega arith))
    (λ t. let h = ltb-false (min a n) n t in simp t (omega arith))

-- past the end there are zeros
at-min : (s : List ℕ) (a : ℕ) → get_or s (min a (length s)) 0 ≡ get_or s a 0
at-min s a =
    by_le (length s) a
    (λ h. let e : min a (length s) ≡ length s = omega arith in rw e (get_or-eq_default s 0 (le_refl (length s)) ∙ sym (get_or-eq_default s 0 h)))
    (λ h. let e : min a (length s) ≡ a = omega arith in rw e)

-- the distance from the top of the range, with eight bits more
pull-val : (v n t rem b c d : ℕ) → rem ≡ c → b ≡ d → c % 2 * 128 + d / 2 < 256 → v + n + 1 ≡ t
    → v * 256 + (255 - shifted_byte rem b) + (n * 256 + (c % 2 * 128 + d / 2)) + 1 ≡ t * 256
pull-val v n t rem b c d p q h e = rw (p, q) (omega arith)

-- one step
pull-at : (s : List ℕ) (d : Reader) (g : Ideal) (x : ℕ) → Bytes s → ReaderAt s d g x → ReaderAt s (pull s d) (shift_i g) x
unfolding pull
pull-at s d g x b r =
    let e : get_or s d.offs 0 ≡ get_or s (suc g.at) 0 = ap (λ (i : ℕ). get_or s i 0) r.offs ∙ at-min s (suc g.at) in
    let a = seen_next s g.at in
    let k = pull-val d.val (seen s g.at) (g.low + g.rng) d.rem (get_or s d.offs 0) (get_or s g.at 0) (get_or s (suc g.at) 0) r.rem e
    (next-lt s g.at b) r.val in
    record {
      range_is = ap (λ (n : ℕ). n * 256) r.range_is;
      val = omega arith;
      total = omega (arith, r.total);
      offs = ap (λ (n : ℕ). advanced n (length s)) r.offs ∙ advanced-min (suc g.at) (length s);
      rem = e;
      raw = r.raw;
      win = r.win;
      wait = r.wait;
      ends = r.ends;
      len = r.len;
      error = r.error;
    }

-- k steps
pulls-at : (k : ℕ) (s : List ℕ) (d : Reader) (g : Ideal) (x : ℕ) → Bytes s → ReaderAt s d g x → ReaderAt s (pulls k s d) (shifts_i k g) x
unfolding pulls shifts_i
pulls-at zero s d g x b r = r
pulls-at (suc k) s d g x b r = pulls-at k s (pull s d) (shift_i g) x b (pull-at s d g x b r)

-- ---- the first state

-- before its steps
begun-at : (s : List ℕ) → Bytes s → ReaderAt s (begun_reader s) (ideal 0 0 128 0) (back_from s 0)
unfolding seen code
begun-at s b =
    let h = b 0 in
    record {
      range_is = refl;
      val = omega arith;
      total = refl;
      offs = split_on (ltb 0 (length s)) (λ t. let u = ltb-true 0 (length s) t in simp t (omega arith))
          (λ t. let u = ltb-false 0 (length s) t in simp t (omega arith));
      rem = refl;
      raw = omega arith;
      win = omega arith;
      wait = omega arith;
      ends = omega arith;
      len = refl;
      error = refl;
    }

-- after three steps
pub fresh_reader-at : (s : List ℕ) → Bytes s → ReaderAt s (fresh_reader s) fresh_i (back_from s 0)
unfolding fresh_reader shifts_i
fresh_reader-at s b = pulls-at 3 s (begun_reader s) (ideal 0 0 128 0) (back_from s 0) b (begun-at s b)

-- ---- a symbol

-- the place f is one of fl up to fh
pub record In (fl fh f : ℕ) : Type 0 where
  pub from : fl ≤ f
  pub to : f < fh

module _ (s : List ℕ) (d : Reader) (g : Ideal) (x fl fh ft : ℕ) (b : Bytes s) (r : ReaderAt s d g x) (ready : Ready g) (ok : CutOk fl fh ft)
    (h : Inside s (cut_i fl fh ft g)) where
  -- the bytes lie in the part of the symbol
  inner : Inside s (narrowed_i (cut_start g.rng fl ft) (cut_width g.rng fl fh ft) g)
  unfolding cut_i
  inner = inside_shifts (renorm_steps (cut_width g.rng fl fh ft)) s _ b h

  -- so the place lies among its places
  shown_in : In fl fh (ft - min (d.val / (g.rng / ft) + 1) ft)
  shown_in =
      let c = cut_in g.rng fl fh ft ok ready.range_gt in
      let k = inner in
      record {
        from = ⊎_elim (λ z. omega arith) (λ e. place_ge d.val (g.rng / ft) fl ft c.quot_pos (omega arith) (omega (arith, r.val))) c.start_is;
        to = place-lt d.val (g.rng / ft) fh ft c.quot_pos (omega arith) ok.le (omega (arith, r.val));
      }

  -- the place shown is one of the symbol that was written
  pub place_in : In fl fh (decoded_place ft d)
  unfolding decoded_place
  place_in = rw r.range_is shown_in

  -- before the steps
  taken_at : (ext : ℕ) → ReaderAt s (taken fl fh ft ext d) (narrowed_i (cut_start g.rng fl ft) (cut_width g.rng fl fh ft) g) x
  taken_at ext =
      let c = cut_in g.rng fl fh ft ok ready.range_gt in
      let k = inner in
      record {
        range_is = ap (λ (n : ℕ). cut_width n fl fh ft) r.range_is;
        val = rw r.range_is (omega (arith, r.val));
        total = r.total;
        offs = r.offs;
        rem = r.rem;
        raw = r.raw;
        win = r.win;
        wait = r.wait;
        ends = r.ends;
        len = r.len;
        error = r.error;
      }

  -- and taking that symbol follows the ideal coder
  pub update-at : (ext : ℕ) → ReaderAt s (update fl fh ft ext s d) (cut_i fl fh ft g) x
  unfolding update cut_i
  update-at ext =
      subst (λ (n : ℕ). ReaderAt s (pulls (renorm_steps (cut_width n fl fh ft)) s (taken fl fh ft ext d)) (cut_i fl fh ft g) x) (sym r.range_is)
      (pulls-at (renorm_steps (cut_width g.rng fl fh ft)) s (taken fl fh ft ext d) _ x b (taken_at ext))

-- ---- raw bits

-- the number of a window with one byte more
fetch-num : (w p t m : ℕ) → t * p + w + p * 256 * m ≡ w + p * (t + 256 * m)
fetch-num w p t m =
    omega (arith, mul-add p t (256 * m), mul_left_comm p 256 m, mul_right_comm p 256 m, mul_comm t p, mul_comm (p * m) 256)

-- one byte
fetch-at : (s : List ℕ) (d : Reader) (g : Ideal) (x : ℕ) → Bytes s → d.waiting ≤ 24 → ReaderAt s d g x → ReaderAt s (fetch s d) g x
unfolding fetch
fetch-at s d g x b h r =
    let o : bit_or d.window (byte_back s d.ends * 2 ^ d.waiting) ≡ byte_back s d.ends * 2 ^ d.waiting + d.window
    = or_shifted_r (byte_back s d.ends) d.waiting d.window r.win in
    let p : 2 ^ (d.waiting + 8) ≡ 2 ^ d.waiting * 256 = pow-add 2 d.waiting 8 in
    let y = byte_back-lt s d.ends b in
    record {
      range_is = r.range_is;
      val = r.val;
      total = r.total;
      offs = r.offs;
      rem = r.rem;
      raw =
          by_le (length s) d.ends
          (λ l.
          let z = back_from_end s d.ends l in
          let q = byte_back-past s d.ends l in
          simp (le-ltb d.ends (length s) l) (rw (o, p, z, q) (r.raw ∙ rw z (omega arith))))
          (λ l.
          simp (lt-ltb d.ends (length s) l)
          (rw (o, p, add-one d.ends)
          (r.raw ∙ ap (λ (n : ℕ). d.window + 2 ^ d.waiting * n) (back_from_step s d.ends l)
          ∙ sym (fetch-num d.window (2 ^ d.waiting) (byte_back s d.ends) (back_from s (suc d.ends))))));
      win = rw (o, p) (omega (arith, digits_lt y r.win));
      wait = omega arith;
      ends = split_on (ltb d.ends (length s)) (λ t. let u = ltb-true d.ends (length s) t in simp t (omega arith)) (λ t. simp t r.ends);
      len = r.len;
      error = r.error;
    }

-- eight bits more
fetch_waits : (s : List ℕ) (d : Reader) → (fetch s d).waiting ≡ d.waiting + 8
unfolding fetch
fetch_waits s d = refl

-- k bytes
fetches-at : (k : ℕ) (s : List ℕ) (d : Reader) (g : Ideal) (x : ℕ) → Bytes s → d.waiting + 8 * k ≤ 32 → ReaderAt s d g x
    → ReaderAt s (fetches k s d) g x × ((fetches k s d).waiting ≡ d.waiting + 8 * k)
unfolding fetches
fetches-at zero s d g x b h r = (r, omega arith)
fetches-at (suc k) s d g x b h r =
    let a : (fetch s d).waiting ≡ d.waiting + 8 = fetch_waits s d in
    let f = fetches-at k s (fetch s d) g x b (omega arith) (fetch-at s d g x b (omega arith) r) in
    (f.0, omega (arith, f.1))

-- the lowest bits
shed-at : (b v x : ℕ) (s : List ℕ) (d : Reader) (g : Ideal) → v < 2 ^ b → b ≤ d.waiting → ReaderAt s d g (v + 2 ^ b * x)
    → ((shed b d).value ≡ v) × ReaderAt s (shed b d).next (bits_i b g) x
shed-at b v x s d g h l r =
    let w : d.waiting ≡ b + (d.waiting - b) = omega arith in
    let p : 2 ^ d.waiting ≡ 2 ^ b * 2 ^ (d.waiting - b) = ap (λ (n : ℕ). 2 ^ n) w ∙ pow-add 2 b (d.waiting - b) in
    let y = 2 ^ (d.waiting - b) * back_from s d.ends in
    let e : v + 2 ^ b * x ≡ d.window + 2 ^ b * (2 ^ (d.waiting - b) * back_from s d.ends)
    = r.raw ∙ ap (λ (n : ℕ). d.window + n) (ap (λ (n : ℕ). n * back_from s d.ends) p ∙ mul_assoc (2 ^ b) (2 ^ (d.waiting - b)) (back_from s d.ends)) in
    let m : d.window % 2 ^ b ≡ v
    = sym (add-mul-mod_self_left d.window (2 ^ b) (2 ^ (d.waiting - b) * back_from s d.ends))
    ∙ ap (λ (n : ℕ). n % 2 ^ b) (sym e) ∙ add-mul-mod_self_left v (2 ^ b) x ∙ mod-eq_of_lt h in
    let q : d.window / 2 ^ b + 2 ^ (d.waiting - b) * back_from s d.ends ≡ x
    = sym (add-mul-div_left d.window (2 ^ (d.waiting - b) * back_from s d.ends) (pow_pos b))
    ∙ ap (λ (n : ℕ). n / 2 ^ b) (sym e) ∙ add-mul-div_left v x (pow_pos b) ∙ ap (λ (n : ℕ). n + x) (div-eq_of_lt h) ∙ omega arith in
    let z : d.waiting - b + b ≡ d.waiting = omega arith in (
      m,
      record {
        range_is = r.range_is;
        val = r.val;
        total = omega (arith, r.total);
        offs = r.offs;
        rem = r.rem;
        raw = sym q;
        win = shr_lt (d.waiting - b) b (rw z r.win);
        wait = omega (arith, r.wait);
        ends = r.ends;
        len = r.len;
        error = r.error;
      },
    )

-- raw bits are those that were written
pub read_bits-at : (b v x : ℕ) (s : List ℕ) (d : Reader) (g : Ideal) → Bytes s → b ≤ 25 → v < 2 ^ b → ReaderAt s d g (v + 2 ^ b * x)
    → ((read_bits b s d).value ≡ v) × ReaderAt s (read_bits b s d).next (bits_i b g) x
unfolding read_bits
read_bits-at b v x s d g bs m h r =
    split_on (ltb d.waiting b)
    (λ t.
    let u = ltb-true d.waiting b t in
    let f = fetches-at ((32 - d.waiting) / 8) s d g _ bs (omega (arith, r.wait)) r in
    simp t (shed-at b v x s _ g h (omega (arith, f.1)) f.0))
    (λ t.
    let u = ltb-false d.waiting b t in
    let f = fetches-at 0 s d g _ bs (omega (arith, r.wait)) r in
    simp t (shed-at b v x s _ g h (omega (arith, f.1)) f.0))
