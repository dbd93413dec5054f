-- The definitions of a symbol in the code's own terms: what the proofs of the workers depend on. Assumes nothing.
use Prim.Native.Nat.{ℕ, zero, suc, ◌+◌, ◌-◌, ◌*◌, ◌/◌, ◌%◌, ◌^◌, ◌≤◌, ◌<◌}
use mathlib.Core.Path.{◌≡◌, refl, ap, ◌∙◌}
use mathlib.Core.Bool.{true}
use mathlib.Core.List.{List, ◌∷◌}
use native.Mathlib.Nat.{mul-one, sub_self, mul-pos, mul-add}
use native.Mathlib.Numerals.{sub-one}
use native.Mathlib.Omega.{arith}
use lib.ListN.{length, get_or}
use lib.Pow.{pow_mono}
use borrow.Author.Tests.{eq-eqb, ne_eqb}
use Rattle.laws.proofs.Division.{div-some, share-le}
use Rattle.entcode.specs.Range.{ilog, renorm_steps, cut_start, cut_width}
use Rattle.entcode.specs.Sym.{falls, pieces_of, adjust, low_bits}
use Rattle.entcode.specs.Sym.Shape.{bit, table, uint, raw}
use Rattle.entcode.proofs.Cuts.{CutOk, Cut, cut_in}
use Rattle.entcode.proofs.Falls.{entry}
use Rattle.entcode.proofs.Pieces.{BitsOk, uint_many}
use Rattle.entenc.specs.Write.{Wr, shifts_w, narrowed, cut_w, bits_w}
use Rattle.entenc.specs.Symbols.{write_pieces, write_sym}
use Rattle.entenc.specs.Ready.{Ready}

-- the low end raised by add, the range rng, and as many steps as that takes
abbrev pub coded : ℕ → ℕ → Wr → Wr
coded add rng w = shifts_w (renorm_steps rng) (narrowed add rng w)

-- ---- the places fl up to fh of ft

-- a cut, from what the code computed of it
pub cut-is : (fl fh ft : ℕ) (w : Wr) (add rng : ℕ) → add ≡ cut_start w.st.rng fl ft → rng ≡ cut_width w.st.rng fl fh ft
    → coded add rng w ≡ cut_w fl fh ft w
unfolding cut_w
cut-is fl fh ft w add rng p q = rw (p, q)

-- what they take of the range, from what the worker needs
pub cut_of : {w : Wr} {fl fh ft : ℕ} → Ready 1 w × (fl < fh) × (fh ≤ ft) × (ft ≤ 32768) → Cut w.st.rng fl fh ft
cut_of {w} {fl} {fh} {ft} p = cut_in w.st.rng fl fh ft (record { lt = p.1; le = p.2; ft-le = p.3 }) p.0.sound.range_gt

-- ---- one bit

module _ (k : ℕ) (least : 1 ≤ k) (v : ℕ) (w : Wr) where
  -- a 0 has the lower part of the range
  pub put-zero : v ≡ 0 → coded 0 (w.st.rng - w.st.rng / 2 ^ k) w ≡ write_sym (bit k) v w
  unfolding write_pieces pieces_of adjust cut_w cut_start cut_width
  put-zero h =
      let a : 2 ^ 1 ≤ 2 ^ k = pow_mono least in
      let l : 2 ^ k - (2 ^ k - 1) ≡ 1 = omega arith in
      simp (eq-eqb v 0 h, l, mul-one)

  -- a 1 has the upper part
  pub put_one : (v ≡ 0 → ⊥) → coded (w.st.rng - w.st.rng / 2 ^ k) (w.st.rng / 2 ^ k) w ≡ write_sym (bit k) v w
  unfolding write_pieces pieces_of adjust cut_w cut_start cut_width
  put_one h =
      let a : 2 ^ 1 ≤ 2 ^ k = pow_mono least in
      let l : 2 ^ k - (2 ^ k - 1) ≡ 1 = omega arith in
      simp (ne_eqb v 0 h, ne_eqb (2 ^ k - 1) 0 (λ e. omega arith), l, mul-one)

-- ---- a table's symbol: the first, and one after another

module _ (k : ℕ) (t : List ℕ) (good : falls (2 ^ k) t ≡ true) (w : Wr) where
  -- the first symbol, in the terms of the definition
  put-first-at : 0 < length t → coded 0 (w.st.rng - w.st.rng / 2 ^ k * get_or t 0 0) w ≡ write_sym (table t k) 0 w
  unfolding write_pieces pieces_of adjust cut_w cut_start cut_width
  put-first-at h =
      let n = entry (2 ^ k) t 0 good h in
      let b : 2 ^ k - (2 ^ k - get_or t 0 0) ≡ get_or t 0 0 = omega (arith, n.lt) in
      simp (sub_self (2 ^ k), b)

  -- any other
  put-next-at : (i : ℕ) → suc i < length t
      → coded (w.st.rng - w.st.rng / 2 ^ k * get_or t i 0) (w.st.rng / 2 ^ k * (get_or t i 0 - get_or t (suc i) 0)) w ≡ write_sym (table t k) (suc i) w
  unfolding write_pieces pieces_of adjust cut_w cut_start cut_width
  put-next-at i h =
      let n = entry (2 ^ k) t (suc i) good h in
      let m = entry (2 ^ k) t i good (omega arith) in
      let b : (2 ^ k - get_or t (suc i) 0) - (2 ^ k - get_or t i 0) ≡ get_or t i 0 - get_or t (suc i) 0 = omega (arith, n.lt, n.le, m.lt, m.le) in
      let c : 2 ^ k - (2 ^ k - get_or t i 0) ≡ get_or t i 0 = omega (arith, m.lt, m.le) in
      simp (ne_eqb (2 ^ k - get_or t i 0) 0 (λ z. omega (arith, m.lt, m.le)), b, c)

  -- the first symbol
  pub put_first : (s x : ℕ) → s < length t → s ≡ 0 → x ≡ get_or t s 0 → coded 0 (w.st.rng - w.st.rng / 2 ^ k * x) w ≡ write_sym (table t k) s w
  put_first s x h z e = rw (e, z) (put-first-at (omega arith))

  -- any other
  pub put_next : (s x y : ℕ) → s < length t → (s ≡ 0 → ⊥) → x ≡ get_or t s 0 → y ≡ get_or t (s - 1) 0
      → coded (w.st.rng - w.st.rng / 2 ^ k * y) (w.st.rng / 2 ^ k * (y - x)) w ≡ write_sym (table t k) s w
  put_next zero x y h z e f = absurd (z refl)
  put_next (suc s) x y h z e f = rw (e, f) (let p : suc s - 1 ≡ s = omega arith in rw p (put-next-at s h))

-- the entry before
before_at : (p : ℕ) (t : List ℕ) (s : ℕ) → (s ≡ 0 → ⊥) → get_or (p ∷ t) s 0 ≡ get_or t (s - 1) 0
before_at p t zero z = absurd (z refl)
before_at p t (suc s) z = rw sub-one

-- what a symbol takes of the range r: its entry is x, the one before it y
pub record Taking (r ft x y : ℕ) : Type 0 where
  pub entry_lt : x < y
  pub upper-le : r / ft * y ≤ r
  pub width-pos : 0 < r / ft * (y - x)
  pub sum : r / ft * y ≡ r / ft * x + r / ft * (y - x)

-- from the order of the entries
taking : (r ft x y : ℕ) → x < y → y ≤ ft → ft ≤ r → Taking r ft x y
taking r ft x y h k m =
    let q : 0 < r / ft = div-some (omega arith) m in
    let e : y ≡ x + (y - x) = omega arith in
    record {
      entry_lt = h;
      upper-le = share-le r ft y k;
      width-pos = mul-pos q (omega arith);
      sum = ap (λ (n : ℕ). r / ft * n) e ∙ mul-add (r / ft) x (y - x);
    }

module _ (r k : ℕ) (t : List ℕ) (s x : ℕ) (good : falls (2 ^ k) t ≡ true) (within : s < length t) (e : x ≡ get_or t s 0)
    (few : k ≤ 8) (large : 8388608 < r) where
  -- what the first symbol takes
  pub takes_first : Taking r (2 ^ k) x (2 ^ k)
  takes_first =
      let n = entry (2 ^ k) t s good within in
      let a : 2 ^ k ≤ 2 ^ 8 = pow_mono few in
      taking r (2 ^ k) x (2 ^ k) (omega (arith, n.lt, n.le)) (omega arith) (omega arith)

  -- what another takes
  pub takes-next : (y : ℕ) → (s ≡ 0 → ⊥) → y ≡ get_or t (s - 1) 0 → Taking r (2 ^ k) x y
  takes-next y z f =
      let n = entry (2 ^ k) t s good within in
      let a : 2 ^ k ≤ 2 ^ 8 = pow_mono few in
      let b : get_or (2 ^ k ∷ t) s 0 ≡ get_or t (s - 1) 0 = before_at (2 ^ k) t s z in
      taking r (2 ^ k) x y (omega (arith, n.lt)) (omega (arith, n.le)) (omega arith)

-- ---- raw bits, and a uniform number in one or two pieces

-- raw bits are one piece
pub raw_one : (b v : ℕ) (w : Wr) → bits_w b v w ≡ write_sym (raw b) v w
unfolding write_pieces pieces_of adjust
raw_one b v w = refl

-- a uniform number of one piece
pub uint_one : (ft v : ℕ) (w : Wr) → low_bits ft ≡ 0 → cut_w v (v + 1) ft w ≡ write_sym (uint ft) v w
unfolding write_pieces pieces_of adjust
uint_one ft v w h = simp (eq-eqb (low_bits ft) 0 h)

-- a number v below ft of n binary digits, more than 8: b of them are raw, and u is the unit of the others
pub record Halves (ft v b u : ℕ) : Type 0 where
  pub long : low_bits ft ≡ 0 → ⊥
  pub bits_is : b ≡ low_bits ft
  pub raw-ok : BitsOk b (v % u)
  pub cut_ok : CutOk (v / u) (v / u + 1) ((ft - 1) / u + 1)
  pub unit_pos : 1 ≤ u
  pub upper_lt : (ft - 1) / u < 256

-- more than eight digits
pub halves : (ft v n u : ℕ) → n ≡ ilog (ft - 1) → 8 < n → u ≡ 2 ^ (n - 8) → ft < 4294967296 → v < ft → Halves ft v (n - 8) u
halves ft v n u e h d q l =
    let s : n - 8 ≡ low_bits ft = ap (λ (i : ℕ). i - 8) e in
    let g : low_bits ft ≡ 0 → ⊥ = λ z. omega (arith, z, e) in
    let m = uint_many ft v u q l g (d ∙ ap (λ (i : ℕ). 2 ^ i) s) in
    record {
      long = g;
      bits_is = s;
      raw-ok = record { bits_pos = omega (arith, m.bits_pos); bits-le = omega (arith, m.bits-le); value-lt = omega (arith, m.rest_lt, d) };
      cut_ok = record { lt = omega arith; le = omega (arith, m.upper-le); ft-le = omega (arith, m.upper_lt) };
      unit_pos = m.unit_pos;
      upper_lt = m.upper_lt;
    }

-- a uniform number of two pieces
pub uint-two : (ft v b u : ℕ) (w x : Wr) → Halves ft v b u → u ≡ 2 ^ b
    → x ≡ cut_w (v / u) (v / u + 1) ((ft - 1) / u + 1) w
    → bits_w b (v % u) x ≡ write_sym (uint ft) v w
unfolding write_pieces pieces_of adjust
uint-two ft v b u w x h e p = simp (ne_eqb (low_bits ft) 0 h.long) (let d = h.bits_is in rw (p, e, d))
