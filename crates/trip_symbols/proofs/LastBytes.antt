-- The last bytes: the gap cleared, and the last raw bits beside, or in, the range coder's last byte.
use Prim.Native.Nat.{ℕ, suc, ◌+◌, ◌-◌, ◌*◌, ◌/◌, ◌%◌, ◌^◌, ◌≤◌, ◌<◌}
use mathlib.Core.Path.{◌≡◌, refl, ap, sym, ◌∙◌}
use mathlib.Core.Bool.{Bool, true, false, cond, true≢false}
use mathlib.Core.List.{List}
use native.Mathlib.Nat.{mul-add, mul_assoc, mul_comm, mul-add-mod_self_right, div-add-mod'}
use native.Mathlib.Omega.{arith}
use lib.ListN.{length, get_or, length-set}
use lib.Seq.{get_or-set_same, get_or-set_other}
use lib.Dec.{leb, eqb}
use lib.Pow.{pow-add, pow_mono, pow_pos}
use lib.Bits.{bit_or, or_zero_l, or_shifted}
use borrow.Author.Tests.{ltb-false, leb-true, leb-false, eqb-true}
use Rattle.laws.proofs.Tests.{split_on}
use Rattle.entdec.specs.Read.{byte_back}
use Rattle.entenc_sink.specs.Out.{Out, out, marked}
use Rattle.entenc_sink.specs.Gap.{cleared, merged_byte, busts, finished}
use Rattle.entenc_sink.specs.Fit.{Fit}
use Rattle.entenc_sink.proofs.Keeping.{cleared-length}
use Rattle.trip_symbols.proofs.Front.{code, code_same, code_set, code_put}
use Rattle.trip_symbols.proofs.Back.{back_with, back_with_same, back_from, back_from_split, back_from_step, byte_back-at}
use Rattle.trip_symbols.proofs.Gap.{zeroed-below, zeroed-above, zeroed_in}
use Rattle.trip_symbols.proofs.Sent.{raw_held}

-- what a close leaves: the front bytes give f and at most spare bits more, the back bytes give the raw bits r
pub record Ends (s : List ℕ) (f spare offs : ℕ) (r : ℕ → ℕ) : Type 0 where
  pub from : f ≤ code s offs
  pub to : code s offs < f + 2 ^ spare
  pub rest : ℕ
  pub raw : back_from s 0 ≡ r rest

-- s agrees with the bytes but at one place, between
module _ (o : Out) (window used : ℕ) (r : ℕ → ℕ) (fit : Fit o) (raw : (q : ℕ) → r q ≡ raw_held o window used q) (s : List ℕ)
    (len : length s ≡ o.sink.storage)
    (same : (i : ℕ) → o.sink.storage - o.sink.ends ≤ i → get_or s i 0 ≡ get_or o.bytes i 0) where
  -- the bytes at the end agree
  ends_same : (j : ℕ) → j < o.sink.ends → byte_back s j ≡ byte_back o.bytes j
  ends_same j h =
      let a = fit.len in
      let b = fit.room in
      let e : length s - 1 - j ≡ length o.bytes - 1 - j = omega arith in
      byte_back-at s j (omega arith) ∙ same (length s - 1 - j) (omega arith) ∙ ap (λ (i : ℕ). get_or o.bytes i 0) e ∙ sym
      (byte_back-at o.bytes j (omega arith))

  -- so the raw bits are those of the bytes at the end and of what is between
  raw-by : (q : ℕ) → back_from s o.sink.ends ≡ window + 2 ^ used * q → back_from s 0 ≡ r q
  raw-by q e =
      let b = fit.room in
      let z : 0 + o.sink.ends ≡ o.sink.ends = omega arith in
      back_from_split s o.sink.ends 0 (omega arith)
      ∙ ap (λ (i : ℕ). back_with s 0 o.sink.ends (back_from s i)) z
      ∙ ap (λ (n : ℕ). back_with s 0 o.sink.ends n) e
      ∙ back_with_same s o.bytes 0 o.sink.ends _ (λ j h. ends_same j (omega arith))
      ∙ sym (raw q)

-- the byte with the last raw bits: x of them above nothing, or below a multiple of 2^spare
byte-gap : (used x l : ℕ) → used ≤ 8 → x + 256 * l ≡ x + 2 ^ used * (2 ^ (8 - used) * l)
byte-gap used x l h =
    let z : used + (8 - used) ≡ 8 = omega arith in
    let p : 2 ^ used * 2 ^ (8 - used) ≡ 256 = sym (pow-add 2 used (8 - used)) ∙ ap (λ (n : ℕ). 2 ^ n) z in
    ap (λ (n : ℕ). x + n * l) (sym p) ∙ ap (λ (n : ℕ). x + n) (mul_assoc (2 ^ used) (2 ^ (8 - used)) l)

-- the same, above a multiple of 2^spare
byte_shared : (used spare a x l : ℕ) → used ≤ spare → used ≤ 8
    → a * 2 ^ spare + x + 256 * l ≡ x + 2 ^ used * (2 ^ (spare - used) * a + 2 ^ (8 - used) * l)
byte_shared used spare a x l h k =
    let z : used + (spare - used) ≡ spare = omega arith in
    let p : 2 ^ spare ≡ 2 ^ used * 2 ^ (spare - used) = ap (λ (n : ℕ). 2 ^ n) (sym z) ∙ pow-add 2 used (spare - used) in
    let e : a * 2 ^ spare ≡ 2 ^ used * (2 ^ (spare - used) * a) = mul_comm a (2 ^ spare) ∙ ap (λ (n : ℕ). n * a) p ∙ mul_assoc (2 ^ used) (2 ^ (spare - used))
    a in
    omega (arith, byte-gap used x l k, mul-add (2 ^ used) (2 ^ (spare - used) * a) (2 ^ (8 - used) * l))

-- a byte below a multiple of 2^spare is one
byte_mod : (f c h spare : ℕ) → spare ≤ 8 → f ≡ c * 256 + h → f % 2 ^ spare ≡ 0 → h % 2 ^ spare ≡ 0
byte_mod f c h spare l e m =
    let z : (8 - spare) + spare ≡ 8 = omega arith in
    let p : 2 ^ (8 - spare) * 2 ^ spare ≡ 256 = sym (pow-add 2 (8 - spare) spare) ∙ ap (λ (n : ℕ). 2 ^ n) z in
    let q : f ≡ c * 2 ^ (8 - spare) * 2 ^ spare + h = e ∙ ap (λ (n : ℕ). c * n + h) (sym p) ∙ ap (λ (n : ℕ). n + h)
    (sym (mul_assoc c (2 ^ (8 - spare)) (2 ^ spare))) in
    sym (mul-add-mod_self_right (c * 2 ^ (8 - spare)) (2 ^ spare) h) ∙ ap (λ (n : ℕ). n % 2 ^ spare) (sym q) ∙ m

module _ (window used spare : ℕ) (o : Out) (f : ℕ) (r : ℕ → ℕ) (fit : Fit o) (number : code o.bytes o.sink.offs ≡ f)
    (whole : f % 2 ^ spare ≡ 0) (most : spare ≤ 8) (win : window < 2 ^ used) (few : used < 8)
    (raw : (q : ℕ) → r q ≡ raw_held o window used q) where
  -- how many bytes are free
  abbrev gap : ℕ
  gap = o.sink.storage - o.sink.ends - o.sink.offs

  -- clearing keeps the length
  clear-len : length (cleared o) ≡ o.sink.storage
  clear-len = cleared-length o ∙ sym fit.len

  -- the bytes at the end
  clear-same : (i : ℕ) → o.sink.storage - o.sink.ends ≤ i → get_or (cleared o) i 0 ≡ get_or o.bytes i 0
  clear-same i h = let b = fit.room in zeroed-above gap o.sink.offs o.bytes i (omega arith)

  -- and the number of the front
  clear_code : code (cleared o) o.sink.offs ≡ f
  clear_code = code_same (cleared o) o.bytes o.sink.offs (λ i h. zeroed-below gap o.sink.offs o.bytes i h) ∙ number

  -- no raw bits wait
  none : used ≡ 0 → Ends (cleared o) f spare o.sink.offs r
  none u =
      let p = pow_pos spare in
      let e : 2 ^ used ≡ 1 = rw u in
      let w : window ≡ 0 = omega arith in
      let c = clear_code in
      record {
        from = omega arith;
        to = omega arith;
        rest = back_from (cleared o) o.sink.ends;
        raw = raw-by o window used r fit raw (cleared o) clear-len clear-same _ (rw (w, u) (omega arith));
      }

  module _ (more : o.sink.ends < o.sink.storage) where
    -- the byte that takes the last raw bits
    abbrev at : ℕ
    at = o.sink.storage - o.sink.ends - 1

    abbrev byte : ℕ
    byte = get_or (cleared o) at 0

    -- the bytes with the last raw bits joined
    last : List ℕ
    last = merged_byte at (cleared o) (window % 256)

    -- the window is less than a byte
    win_byte : window % 256 ≡ window
    win_byte = let p : 2 ^ used ≤ 2 ^ 8 = pow_mono {i = used} {j = 8} (omega arith) in omega arith

    -- joining keeps the length
    last-len : length last ≡ o.sink.storage
    unfolding last
    last-len = length-set (cleared o) at _ ∙ clear-len

    -- the bytes at the end
    last-same : (i : ℕ) → o.sink.storage - o.sink.ends ≤ i → get_or last i 0 ≡ get_or o.bytes i 0
    unfolding last
    last-same i h = get_or-set_other (cleared o) at i _ 0 (λ e. omega arith) ∙ clear-same i h

    -- the byte joined
    last-at : get_or last at 0 ≡ bit_or byte window
    unfolding last
    last-at =
        get_or-set_same (cleared o) at _ 0 (omega (arith, clear-len))
        ∙ ap (λ (n : ℕ). bit_or byte n) win_byte

    -- the number of the back, from that byte on
    last-from : back_from last o.sink.ends ≡ bit_or byte window + 256 * back_from last (suc o.sink.ends)
    last-from =
        let n = last-len in
        let e : length last - 1 - o.sink.ends ≡ o.sink.storage - o.sink.ends - 1 = omega arith in
        back_from_step last o.sink.ends (omega arith)
        ∙ ap (λ (n : ℕ). n + 256 * back_from last (suc o.sink.ends))
        (byte_back-at last o.sink.ends (omega arith) ∙ ap (λ (i : ℕ). get_or last i 0) e ∙ last-at)

    -- a free byte leaves the number of the front
    free_code : o.sink.offs + o.sink.ends < o.sink.storage → code last o.sink.offs ≡ f
    unfolding last
    free_code h = code_set (cleared o) at _ o.sink.offs (omega arith) ∙ clear_code

    -- the front's last byte changes it
    last_code : code last (suc at)
        ≡ code (cleared o) at * 256 + bit_or byte window
    unfolding last
    last_code =
        code_put (cleared o) at _ (omega (arith, clear-len))
        ∙ ap (λ (n : ℕ). code (cleared o) at * 256 + bit_or byte n) win_byte

    -- by its last byte
    clear_step : code (cleared o) (suc at)
        ≡ code (cleared o) at * 256 + byte
    unfolding code
    clear_step = refl

    -- in a free byte
    free : o.sink.offs + o.sink.ends < o.sink.storage → Ends last f spare o.sink.offs r
    free h =
        let p = pow_pos spare in
        let a = fit.len in
        let z : byte ≡ 0
        = zeroed_in gap o.sink.offs o.bytes _ (omega arith) (omega arith) (omega arith) in
        let c : code last o.sink.offs ≡ f = free_code h in
        record {
          from = omega arith;
          to = omega arith;
          rest = 2 ^ (8 - used) * back_from last (suc o.sink.ends);
          raw =
              raw-by o window used r fit raw last last-len last-same _
              (last-from ∙ ap (λ (n : ℕ). n + 256 * back_from last (suc o.sink.ends)) (ap (λ (n : ℕ). bit_or n window) z ∙ or_zero_l window)
              ∙ byte-gap used window (back_from last (suc o.sink.ends)) (omega arith));
        }

    -- in the front's last byte
    shared : o.sink.storage ≤ o.sink.offs + o.sink.ends → used ≤ spare → Ends last f spare o.sink.offs r
    shared h k =
        let b = fit.room in
        let e : o.sink.offs ≡ suc at = omega arith in
        let c : f ≡ code (cleared o) at * 256 + byte
        = sym clear_code ∙ ap (λ (n : ℕ). code (cleared o) n) e ∙ clear_step in
        let z = byte_mod f (code (cleared o) at) byte spare most c whole in
        let d : byte ≡ byte / 2 ^ spare * 2 ^ spare
        = omega (arith, div-add-mod' byte (2 ^ spare)) in
        let p : 2 ^ used ≤ 2 ^ spare = pow_mono k in
        let g : bit_or byte window ≡ byte / 2 ^ spare * 2 ^ spare + window
        = ap (λ (n : ℕ). bit_or n window) d ∙ or_shifted (byte / 2 ^ spare) spare window (omega arith) in
        let n : code last o.sink.offs ≡ f + window = ap (λ (n : ℕ). code last n) e ∙ last_code ∙ omega arith in
        record {
          from = omega arith;
          to = omega arith;
          rest = 2 ^ (spare - used) * (byte / 2 ^ spare) + 2 ^ (8 - used) * back_from last (suc o.sink.ends);
          raw =
              raw-by o window used r fit raw last last-len last-same _
              (last-from ∙ ap (λ (n : ℕ). n + 256 * back_from last (suc o.sink.ends)) g
              ∙ byte_shared used spare (byte / 2 ^ spare) window (back_from last (suc o.sink.ends)) k (omega arith));
        }

    -- by whether a byte is free
    join-ok : busts o.sink used spare ≡ false → Ends (merged_byte at (cleared o) (window % 256)) f spare o.sink.offs r
    unfolding last
    join-ok b =
        split_on (leb o.sink.storage (o.sink.offs + o.sink.ends))
        (λ t. shared (leb-true _ _ t) (ltb-false spare used (simp t at b)))
        (λ t. free (leb-false _ _ t))

  -- the cases of the definition, each test by its value
  finish-at : (t1 t2 t3 t4 : Bool) → o.sink.error ≡ t1 → eqb used 0 ≡ t2 → leb o.sink.storage o.sink.ends ≡ t3 → busts o.sink used spare ≡ t4
      → (cond t1 o (cond t2 (out o.sink (cleared o)) (cond t3 (out (marked o.sink) (cleared o))
      (cond t4 (out (marked o.sink) (merged_byte (o.sink.storage - o.sink.ends - 1) (cleared o) (window % 2 ^ spare % 256)))
      (out o.sink (merged_byte (o.sink.storage - o.sink.ends - 1) (cleared o) (window % 256))))))).sink.error ≡ false
      → Ends (cond t1 o (cond t2 (out o.sink (cleared o)) (cond t3 (out (marked o.sink) (cleared o))
      (cond t4 (out (marked o.sink) (merged_byte (o.sink.storage - o.sink.ends - 1) (cleared o) (window % 2 ^ spare % 256)))
      (out o.sink (merged_byte (o.sink.storage - o.sink.ends - 1) (cleared o) (window % 256))))))).bytes f spare o.sink.offs r
  finish-at true t2 t3 t4 a b c d e = absurd (true≢false (sym a ∙ e))
  finish-at false true t3 t4 a b c d e = none (eqb-true used 0 b)
  finish-at false false true t4 a b c d e = absurd (true≢false e)
  finish-at false false false true a b c d e = absurd (true≢false e)
  finish-at false false false false a b c d e = join-ok (leb-false _ _ c) d

  -- by the cases of the definition
  pub finished-ends : (finished window used spare o).sink.error ≡ false → Ends (finished window used spare o).bytes f spare o.sink.offs r
  unfolding finished
  finished-ends e = finish-at o.sink.error (eqb used 0) (leb o.sink.storage o.sink.ends) (busts o.sink used spare) refl refl refl refl e

-- a close without a mark began without one
finish-error-at : (t1 t2 t3 t4 : Bool) (a b c d : Out) (o : Out) → o.sink.error ≡ t1 → (cond t1 o (cond t2 a (cond t3 b (cond t4 c d)))).sink.error ≡ false
    → o.sink.error ≡ false
finish-error-at true t2 t3 t4 a b c d o h e = e
finish-error-at false t2 t3 t4 a b c d o h e = h

-- a mark that is not set afterwards was not set before
pub finished-error : (window used spare : ℕ) (o : Out) → (finished window used spare o).sink.error ≡ false → o.sink.error ≡ false
unfolding finished
finished-error window used spare o e =
    finish-error-at o.sink.error (eqb used 0) (leb o.sink.storage o.sink.ends) (busts o.sink used spare) _ _ _ _ o refl e
