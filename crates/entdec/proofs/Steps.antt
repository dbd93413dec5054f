-- What a symbol does to a state, whatever the bytes: it stays in order, and its counts grow by little. Assumes nothing.
use Prim.Native.Nat.{ℕ, zero, suc, ◌+◌, ◌-◌, ◌*◌, ◌/◌, ◌^◌, ◌≤◌, ◌<◌}
use mathlib.Core.Path.{◌≡◌, refl, ap, ◌∙◌}
use mathlib.Core.Bool.{true, cond}
use mathlib.Core.List.{List}
use native.Mathlib.Nat.{le_trans}
use native.Mathlib.Omega.{arith}
use lib.Dec.{ltb, leb, eqb}
use lib.ListN.{length}
use borrow.Author.Tests.{ltb-true, eqb-true, eqb-false}
use Rattle.laws.specs.Lists.{Bytes}
use Rattle.laws.proofs.Tests.{cond-by, cond-le, between}
use Rattle.entcode.specs.Range.{ilog, renorm_steps, cut_width}
use Rattle.entcode.specs.Sym.{Model, Shape, bit_model, table_model, flat_model, low_bits, length_ok, shape_ok, list_ok}
use Rattle.entcode.specs.Sym.Shape.{bit, table, uint, raw, modelled}
use Rattle.entcode.proofs.Cuts.{CutOk, cut_in}
use Rattle.entcode.proofs.RenormSteps.{steps_scaled, steps_le}
use Rattle.entdec.specs.declared.Reader.{Reader}
use Rattle.entdec.specs.Coded.{ReadSymbol}
use Rattle.entdec.specs.Read.{decoded_place, taken, update, fetch, fetches, read_bits, read_of, with_raw}
use Rattle.entdec.specs.Symbols.{read_one, within, read_long, read_sym}
use Rattle.entdec.proofs.Places.{held_by_lem}
use Rattle.entdec.proofs.Pulls.{advanced-le, advanced_in, pulled}
use Rattle.entdec.proofs.Found.{Found, ShapeFound, bit_found, table-found, flat-found}
use Rattle.entdec.proofs.Uniform.{few, many}

-- between symbols
pub record Good (d : Reader) : Type 0 where
  pub range_gt : 8388608 < d.rng
  pub range_le : d.rng ≤ 2147483648
  pub val-lt : d.val < d.rng
  pub waiting-le : d.waiting ≤ 32

-- from d to e: a state between symbols, and no count grew by more than n
pub record Step (s : List ℕ) (n : ℕ) (d e : Reader) : Type 0 where
  pub good : Good e
  pub total_ge : d.total ≤ e.total
  pub total-le : e.total ≤ d.total + n
  pub offs-le : e.offs ≤ d.offs + n
  pub offs_in : d.offs ≤ length s → e.offs ≤ length s
  pub ends-le : e.ends ≤ d.ends + n
  pub ends_in : d.ends ≤ length s → e.ends ≤ length s
  pub storage-is : e.storage ≡ d.storage
  pub rem-le : Bytes s → d.rem ≤ 255 → e.rem ≤ 255

-- one step after another
pub step_then : (s : List ℕ) (n m k : ℕ) (d e f : Reader) → n + m ≤ k → Step s n d e → Step s m e f → Step s k d f
step_then s n m k d e f h a b =
    record {
      good = b.good;
      total_ge = omega (arith, a.total_ge, b.total_ge);
      total-le = omega (arith, a.total-le, b.total-le);
      offs-le = omega (arith, a.offs-le, b.offs-le);
      offs_in = λ p. b.offs_in (a.offs_in p);
      ends-le = omega (arith, a.ends-le, b.ends-le);
      ends_in = λ p. b.ends_in (a.ends_in p);
      storage-is = b.storage-is ∙ a.storage-is;
      rem-le = λ y p. b.rem-le y (a.rem-le y p);
    }

-- a larger bound
pub step-more : (s : List ℕ) (n k : ℕ) (d e : Reader) → n ≤ k → Step s n d e → Step s k d e
step-more s n k d e h a =
    record {
      good = a.good;
      total_ge = a.total_ge;
      total-le = omega (arith, a.total-le);
      offs-le = omega (arith, a.offs-le);
      offs_in = a.offs_in;
      ends-le = omega (arith, a.ends-le);
      ends_in = a.ends_in;
      storage-is = a.storage-is;
      rem-le = a.rem-le;
    }

-- ---- a part of the range

-- a cut that holds the value takes at most three steps of renormalization
pub update-step : (fl fh ft ext : ℕ) (s : List ℕ) (d : Reader) → Good d → CutOk fl fh ft → fl ≤ decoded_place ft d → decoded_place ft d < fh
    → Step s 24 d (update fl fh ft ext s d)
unfolding update
update-step fl fh ft ext s d g ok l u =
    let w = cut_width d.rng fl fh ft in
    let h = held_by_lem d fl fh ft ok g.range_gt g.val-lt l u in
    let c = cut_in d.rng fl fh ft ok g.range_gt in
    let z = steps_scaled w c.width-pos (le_trans h.width-le g.range_le) in
    let k = steps_le w in
    let p = pulled (renorm_steps w) s (taken fl fh ft ext d) in
    record {
      good = record {
        range_gt = rw p.range_is z.range_gt;
        range_le = rw p.range_is z.range_le;
        val-lt = p.val-lt h.rest_lt;
        waiting-le = rw p.waiting-is g.waiting-le;
      };
      total_ge = omega (arith, p.total-is);
      total-le = omega (arith, p.total-is);
      offs-le = omega (arith, p.offs-le);
      offs_in = p.offs_in;
      ends-le = omega (arith, p.ends_is);
      ends_in = λ q. rw p.ends_is q;
      storage-is = p.storage-is;
      rem-le = p.rem-le;
    }

-- a symbol that its model locates
pub one_step : (m : Model) (s : List ℕ) (d : Reader) → Good d → Found m d → Step s 24 d (read_one m s d).next
one_step m s d g f = update-step _ _ m.ft _ s d g f.ok f.from f.to

-- ---- raw bits

-- from d to e by k bytes from the end: each number
record Fetched (s : List ℕ) (k : ℕ) (d e : Reader) : Type 0 where
  range_is : e.rng ≡ d.rng
  val_is : e.val ≡ d.val
  waiting-is : e.waiting ≡ d.waiting + 8 * k
  total-is : e.total ≡ d.total
  offs-is : e.offs ≡ d.offs
  ends-le : e.ends ≤ d.ends + k
  ends_in : d.ends ≤ length s → e.ends ≤ length s
  storage-is : e.storage ≡ d.storage
  rem_is : e.rem ≡ d.rem

-- byte by byte
fetched : (k : ℕ) (s : List ℕ) (d : Reader) → Fetched s k d (fetches k s d)
unfolding fetches fetch
fetched zero s d =
    record {
      range_is = refl;
      val_is = refl;
      waiting-is = omega arith;
      total-is = refl;
      offs-is = refl;
      ends-le = omega arith;
      ends_in = λ h. h;
      storage-is = refl;
      rem_is = refl;
    }
fetched (suc k) s d =
    let p = fetched k s (fetch s d) in
    record {
      range_is = p.range_is;
      val_is = p.val_is;
      waiting-is = omega (arith, p.waiting-is);
      total-is = p.total-is;
      offs-is = p.offs-is;
      ends-le = omega (arith, p.ends-le, advanced-le d.ends (length s));
      ends_in = λ h. p.ends_in (advanced_in d.ends (length s) h);
      storage-is = p.storage-is;
      rem_is = p.rem_is;
    }

-- raw bits count as many bits
pub raw-total : (b : ℕ) (s : List ℕ) (d : Reader) → (read_bits b s d).next.total ≡ d.total + b
unfolding read_bits
raw-total b s d = ap (λ (n : ℕ). n + b) (fetched _ s d).total-is

-- and leave the range
pub raw-rng : (b : ℕ) (s : List ℕ) (d : Reader) → (read_bits b s d).next.rng ≡ d.rng
unfolding read_bits
raw-rng b s d = (fetched _ s d).range_is

-- raw bits, with at most four bytes fetched
pub raw-step : (b : ℕ) (s : List ℕ) (d : Reader) → Good d → b ≤ 25 → Step s 25 d (read_bits b s d).next
unfolding read_bits
raw-step b s d g h =
    let k = cond (ltb d.waiting b) ((32 - d.waiting) / 8) 0 in
    let l : k ≤ (32 - d.waiting) / 8 = cond-le (ltb d.waiting b) (λ e. omega arith) (λ e. omega arith) in
    let p = fetched k s d in
    let w = g.waiting-le in
    record {
      good = record {
        range_gt = rw p.range_is g.range_gt;
        range_le = rw p.range_is g.range_le;
        val-lt = rw (p.val_is, p.range_is) g.val-lt;
        waiting-le = omega (arith, p.waiting-is);
      };
      total_ge = omega (arith, p.total-is);
      total-le = omega (arith, p.total-is);
      offs-le = omega (arith, p.offs-is);
      offs_in = λ q. rw p.offs-is q;
      ends-le = omega (arith, p.ends-le);
      ends_in = p.ends_in;
      storage-is = p.storage-is;
      rem-le = λ y q. rw p.rem_is q;
    }

-- ---- uniform numbers

-- the mark changes no number
marked_step : (s : List ℕ) (n m : ℕ) (d e : Reader) → Step s n d e → Step s n d (with_raw e e.ends e.window e.waiting e.total true)
marked_step s n m d e a =
    record {
      good = record { range_gt = a.good.range_gt; range_le = a.good.range_le; val-lt = a.good.val-lt; waiting-le = a.good.waiting-le };
      total_ge = a.total_ge;
      total-le = a.total-le;
      offs-le = a.offs-le;
      offs_in = a.offs_in;
      ends-le = a.ends-le;
      ends_in = a.ends_in;
      storage-is = a.storage-is;
      rem-le = a.rem-le;
    }

-- nor does a value held to the last one
within_step : (s : List ℕ) (n m : ℕ) (d : Reader) (y : ReadSymbol) → Step s n d y.next → Step s n d (within m y).next
within_step s n m d y a =
    cond-by (λ (z : ReadSymbol). Step s n d z.next) (leb y.value m) (λ e. a) (λ e. marked_step s n m d y.next a)

-- a cut and raw bits
long-step : (m b : ℕ) (s : List ℕ) (d : Reader) → Good d → b ≤ 24 → m / 2 ^ b < 256 → Step s 49 d (read_long m b s d).next
long-step m b s d g h l =
    let y = read_one (flat_model (m / 2 ^ b + 1)) s d in
    let z = read_bits b s y.next in
    let p = one_step (flat_model (m / 2 ^ b + 1)) s d g (flat-found (m / 2 ^ b + 1) d (omega arith) (omega arith)) in
    let q = raw-step b s y.next p.good (omega arith) in
    within_step s 49 m d (read_of (y.value * 2 ^ b + z.value) z.next) (step_then s 24 25 49 d y.next z.next (omega arith) p q)

-- in one piece or in two
uint-step : (ft : ℕ) (s : List ℕ) (d : Reader) → Good d → 2 ≤ ft → ft ≤ 4294967295 → Step s 49 d (read_sym (uint ft) s d).next
unfolding read_sym
uint-step ft s d g h q =
    cond-by (λ (y : ReadSymbol). Step s 49 d y.next) (eqb (low_bits ft) 0)
    (λ e.
    let z = eqb-true (low_bits ft) 0 e in
    let f = few ft h (omega arith) (omega arith) in
    step-more s 24 49 d _ (omega arith) (one_step (flat_model ft) s d g (flat-found ft d (omega arith) (omega arith))))
    (λ e.
    let z = eqb-false (low_bits ft) 0 e in
    let i : 8 < ilog (ft - 1) = (let n : (ilog (ft - 1) ≤ 8) → ⊥ = λ a. z (omega arith) in omega (arith, n)) in
    let m = many (ft - 1) (omega arith) (omega arith) i in
    long-step (ft - 1) (low_bits ft) s d g m.bits-le m.upper_lt)

-- ---- a symbol of any kind

-- by the kind
pub read_step : (h : Shape) (s : List ℕ) (d : Reader) → Good d → length_ok h ≡ true → shape_ok h ≡ true → list_ok h ≡ true → ShapeFound h d
    → Step s 49 d (read_sym h s d).next
unfolding read_sym length_ok shape_ok list_ok
read_step (bit k) s d g a b c f =
    let r = between 1 k 15 b in
    step-more s 24 49 d _ (omega arith) (one_step (bit_model k) s d g (bit_found k d r.0 r.1))
read_step (table t k) s d g a b c f =
    let r = between 1 k 8 b in
    step-more s 24 49 d _ (omega arith) (one_step (table_model t k) s d g (table-found t k d (ltb-true 0 (length t) a) c r.0 r.1))
read_step (uint ft) s d g a b c f = let r = between 2 ft 4294967295 b in uint-step ft s d g r.0 r.1
read_step (raw n) s d g a b c f = step-more s 25 49 d _ (omega arith) (raw-step n s d g (between 1 n 25 b).1)
read_step (modelled m) s d g a b c f = step-more s 24 49 d _ (omega arith) (one_step m s d g f)
