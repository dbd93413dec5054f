-- What bytes put at the front and at the end do to the two numbers of the bytes, where the error mark is not set afterwards.
use Prim.Native.Nat.{ℕ, zero, suc, ◌+◌, ◌-◌, ◌*◌, ◌/◌, ◌%◌, ◌^◌, ◌<◌}
use mathlib.Core.Path.{◌≡◌, refl, ap, sym, ◌∙◌}
use mathlib.Core.Bool.{Bool, true, false, cond, true≢false}
use mathlib.Core.List.{List, [], ◌∷◌}
use native.Mathlib.Nat.{mul_right_comm}
use native.Mathlib.Omega.{arith}
use native.Mathlib.Numerals.{add-one}
use lib.ListN.{length, set, length-set}
use lib.Pow.{pow-add}
use borrow.Author.Tests.{ltb-true}
use Rattle.entdec.specs.Read.{byte_back}
use Rattle.entenc_sink.specs.Out.{Out, is_room, stored, stored_end, missed, put_front, put_end, emit, flushed, left_of}
use Rattle.entenc_sink.specs.Fit.{Fit}
use Rattle.trip_symbols.proofs.Front.{code, code_set, code_put, horner}
use Rattle.trip_symbols.proofs.Back.{back_with, back_with_last, back_with_same, byte_back_other, byte_back-set}

-- a mark that is not set after a byte was not set before it
error-before : (x o : Out) (t : Bool) → x.sink.error ≡ o.sink.error → (cond t x (missed o)).sink.error ≡ false → o.sink.error ≡ false
error-before x o true e h = sym e ∙ h
error-before x o false e h = absurd (true≢false h)

-- ---- at the front

-- o' is o with the bytes ds at the front
pub record Emitted (ds : List ℕ) (o o' : Out) : Type 0 where
  pub fit : Fit o'
  pub offs : o'.sink.offs ≡ o.sink.offs + length ds
  pub ends : o'.sink.ends ≡ o.sink.ends
  pub number : code o'.bytes o'.sink.offs ≡ horner (code o.bytes o.sink.offs) ds
  pub same : (i : ℕ) → i < o.sink.ends → byte_back o'.bytes i ≡ byte_back o.bytes i

-- by whether there is room
put-at : (b : ℕ) (o : Out) → Fit o → (t : Bool) → is_room o.sink ≡ t → (cond t (stored b o) (missed o)).sink.error ≡ false
    → Emitted (b ∷ []) o (cond t (stored b o) (missed o))
unfolding horner
put-at b o f true e h =
    let l = ltb-true (o.sink.offs + o.sink.ends) o.sink.storage e in
    let y = f.len in
    record {
      fit = record { len = simp length-set f.len; room = omega arith };
      offs = refl;
      ends = refl;
      number = ap (λ (n : ℕ). code (set o.bytes o.sink.offs b) n) (add-one o.sink.offs) ∙ code_put o.bytes o.sink.offs b (omega arith);
      same = λ i k. byte_back_other o.bytes o.sink.offs b i (λ z. omega arith);
    }
put-at b o f false e h = absurd (true≢false h)

-- one byte
put-ok : (b : ℕ) (o : Out) → Fit o → (put_front b o).sink.error ≡ false → Emitted (b ∷ []) o (put_front b o)
unfolding put_front
put-ok b o f h = put-at b o f (is_room o.sink) refl h

-- bytes that leave no mark found none
pub emit-error : (bs : List ℕ) (o : Out) → (emit bs o).sink.error ≡ false → o.sink.error ≡ false
unfolding emit put_front
emit-error [] o h = h
emit-error (b ∷ bs) o h = error-before (stored b o) o (is_room o.sink) refl (emit-error bs (put_front b o) h)

-- bytes one after the other
pub emit-ok : (ds : List ℕ) (o : Out) → Fit o → (emit ds o).sink.error ≡ false → Emitted ds o (emit ds o)
unfolding emit horner
emit-ok [] o f h =
    record { fit = f; offs = omega arith; ends = refl; number = refl; same = λ i k. refl }
emit-ok (b ∷ ds) o f h =
    let p = put-ok b o f (emit-error ds (put_front b o) h) in
    let r = emit-ok ds (put_front b o) p.fit h in
    record {
      fit = r.fit;
      offs = omega (arith, r.offs, p.offs);
      ends = r.ends ∙ p.ends;
      number = r.number ∙ ap (λ (n : ℕ). horner n ds) p.number;
      same = λ i k. r.same i (omega (arith, p.ends)) ∙ p.same i k;
    }

-- ---- at the end

-- the bytes at the end, the waiting bits of a window, and q above them, as one number
abbrev pub raw_held : Out → ℕ → ℕ → ℕ → ℕ
raw_held o window waiting q = back_with o.bytes 0 o.sink.ends (window + 2 ^ waiting * q)

-- bytes at the front leave it
pub emitted_raw : (ds : List ℕ) (o o' : Out) → Emitted ds o o' → (window waiting q : ℕ) → raw_held o window waiting q ≡ raw_held o' window waiting q
emitted_raw ds o o' e window waiting q =
    ap (λ (n : ℕ). back_with o.bytes 0 n (window + 2 ^ waiting * q)) (sym e.ends)
    ∙ sym (back_with_same o'.bytes o.bytes 0 o'.sink.ends _ (λ j m. e.same j (omega (arith, e.ends))))

-- o' is o with whole bytes of the window at the end: the numbers of both sides stay
pub record Flushed (window waiting : ℕ) (o : Out) (window' waiting' : ℕ) (o' : Out) : Type 0 where
  pub fit : Fit o'
  pub offs : o'.sink.offs ≡ o.sink.offs
  pub number : code o'.bytes o'.sink.offs ≡ code o.bytes o.sink.offs
  pub raw : (q : ℕ) → raw_held o' window' waiting' q ≡ raw_held o window waiting q

-- the lowest byte apart
byte_off : (window p q : ℕ) → window % 256 + 256 * (window / 256 + p * q) ≡ window + p * 256 * q
byte_off window p q = omega (arith, mul_right_comm p 256 q)

-- by whether there is room
end-at : (window waiting : ℕ) (o : Out) → Fit o → (t : Bool) → is_room o.sink ≡ t
    → (cond t (stored_end (window % 256) o) (missed o)).sink.error ≡ false
    → Flushed window (waiting + 8) o (window / 256) waiting (cond t (stored_end (window % 256) o) (missed o))
end-at window waiting o f true e h =
    let l = ltb-true (o.sink.offs + o.sink.ends) o.sink.storage e in
    let y = f.len in
    let p : 2 ^ (waiting + 8) ≡ 2 ^ waiting * 256 = pow-add 2 waiting 8 in
    let k : o.sink.storage - (o.sink.ends + 1) ≡ length o.bytes - 1 - o.sink.ends = omega arith in
    let bs = set o.bytes (o.sink.storage - (o.sink.ends + 1)) (window % 256) in
    let a : byte_back (set o.bytes (o.sink.storage - (o.sink.ends + 1)) (window % 256)) (0 + o.sink.ends) ≡ window % 256
    = let z : 0 + o.sink.ends ≡ o.sink.ends = omega arith in rw (k, z) (byte_back-set o.bytes o.sink.ends (window % 256) (omega arith)) in
    record {
      fit = record { len = simp length-set f.len; room = omega arith };
      offs = refl;
      number = code_set o.bytes (o.sink.storage - (o.sink.ends + 1)) (window % 256) o.sink.offs (omega arith);
      raw = λ q.
          ap (λ (n : ℕ). back_with bs 0 n (window / 256 + 2 ^ waiting * q)) (add-one o.sink.ends)
          ∙ back_with_last bs 0 o.sink.ends (window / 256 + 2 ^ waiting * q)
          ∙ ap (λ (n : ℕ). back_with bs 0 o.sink.ends (n + 256 * (window / 256 + 2 ^ waiting * q))) a
          ∙ back_with_same bs o.bytes 0 o.sink.ends _ (λ j m. byte_back_other o.bytes (o.sink.storage - (o.sink.ends + 1)) (window % 256) j
          (λ z. omega arith))
          ∙ ap (λ (n : ℕ). back_with o.bytes 0 o.sink.ends n) (byte_off window (2 ^ waiting) q ∙ ap (λ (n : ℕ). window + n * q) (sym p));
    }
end-at window waiting o f false e h = absurd (true≢false h)

-- one byte of a window
end-ok : (window waiting : ℕ) (o : Out) → Fit o → (put_end (window % 256) o).sink.error ≡ false
    → Flushed window (waiting + 8) o (window / 256) waiting (put_end (window % 256) o)
unfolding put_end
end-ok window waiting o f h = end-at window waiting o f (is_room o.sink) refl h

-- the same of bytes at the end
pub flush-error : (k window : ℕ) (o : Out) → (flushed k window o).sink.error ≡ false → o.sink.error ≡ false
unfolding flushed put_end
flush-error zero window o h = h
flush-error (suc k) window o h = error-before (stored_end (window % 256) o) o (is_room o.sink) refl (flush-error k (window / 256) (put_end (window % 256) o) h)

-- whole bytes of a window
pub flush-ok : (k window waiting : ℕ) (o : Out) → Fit o → (flushed k window o).sink.error ≡ false
    → Flushed window (waiting + 8 * k) o (left_of k window) waiting (flushed k window o)
unfolding flushed left_of
flush-ok zero window waiting o f h =
    let z : waiting + 8 * 0 ≡ waiting = omega arith in
    record { fit = f; offs = refl; number = refl; raw = λ q. rw z }
flush-ok (suc k) window waiting o f h =
    let z : waiting + 8 * suc k ≡ waiting + 8 * k + 8 = omega arith in
    let p = end-ok window (waiting + 8 * k) o f (flush-error k (window / 256) (put_end (window % 256) o) h) in
    let r = flush-ok k (window / 256) waiting (put_end (window % 256) o) p.fit h in
    rw z
    (record {
      fit = r.fit;
      offs = r.offs ∙ p.offs;
      number = r.number ∙ p.number;
      raw = λ q. r.raw q ∙ p.raw q;
    })

-- what is left of the window fits the bits that are left
pub left_lt : (k window waiting : ℕ) → window < 2 ^ (waiting + 8 * k) → left_of k window < 2 ^ waiting
unfolding left_of
left_lt zero window waiting h = let z : waiting + 8 * 0 ≡ waiting = omega arith in rw z at h
left_lt (suc k) window waiting h =
    let z : waiting + 8 * suc k ≡ waiting + 8 * k + 8 = omega arith in
    let p : 2 ^ (waiting + 8 * suc k) ≡ 2 ^ (waiting + 8 * k) * 256 = ap (λ (n : ℕ). 2 ^ n) z ∙ pow-add 2 (waiting + 8 * k) 8 in
    left_lt k (window / 256) waiting (omega arith)
