-- What the workers' values come to, and the two answers of each public call by the number. Assumes nothing.
use Rattle.std.specs.Prelude.{Ok}
use Prim.Native.Nat.{ℕ, zero, suc, ◌/◌}
use mathlib.Core.Path.{◌≡◌, ap, sym, ◌∙◌}
use mathlib.Core.Bool.{Bool, true, ◌&&◌}
use mathlib.Core.List.{List}
use native.Mathlib.Nat.{suc-ne-zero}
use native.Mathlib.Omega.{arith}
use lib.IntN.{ℤ}
use lib.ListN.{length}
use Rattle.modes.specs.Laplace.{legal}
use Rattle.modes.proofs.Laplace.{Legal}
use Rattle.entcode.specs.Said.Said.{refused}
use Rattle.entcode.specs.Said.{answer, lent_after, said}
use Rattle.entcode.specs.Sym.{pieces_of, adjust, length_ok, shape_ok, list_ok, value_ok}
use Rattle.entdec.specs.declared.Reader.{Reader}
use Rattle.entdec.specs.Read.{decoded_place, update}
use Rattle.entdec.specs.Symbols.{read_sym}
use Rattle.entdec.specs.Rule.{read_refusal, refusal_r}
use Rattle.entdec.specs.Ready.{Ready}
use Rattle.entdec.proofs.Accepted.{opened_for}
use Rattle.entdec.proofs.Chain.{sound_ready}
use Rattle.entdec.proofs.Places.{place_less}
use Rattle.entenc.specs.Write.{Wr, wr, cut_w}
use Rattle.entenc.specs.Symbols.{write_pieces}
use Rattle.entenc.specs.Rule.{write_refusal, refusal_w}
use Rattle.entenc.specs.Ready.{Ready as Writable}
use Rattle.entenc.proofs.Taken.{ready_of, taken}
use Rattle.laplace.specs.Coded.{LapSym, LapDone}
use Rattle.laplace.specs.declared.chain.Span.{Span}
use Rattle.laplace.specs.Chain.{locate}
use Rattle.laplace.specs.Signed.{in_domain, value_in, span_z, adjusted}
use Rattle.laplace.specs.Pairs.{pair_known}
use Rattle.laplace.specs.Model.{code_of, value_at, lap_model}
use Rattle.laplace.specs.Answer.{lap, read_lap, written_as, write_lap, after, answer_w, writing}
use Rattle.laplace.proofs.Known.{known-legal}
use Rattle.laplace.proofs.Values.{value_code, domain_code}
use Rattle.laplace.proofs.Lawful.{place_span, adjust-places}

-- ---- reading

-- r is what is located at the place shown
pub read_is : (s : List ℕ) (d n : Reader) (fs dec : ℕ) → Legal fs dec → (r : Span) (v : ℤ) → r ≡ locate (decoded_place 32768 d) fs dec → v ≡ value_in r
    → n ≡ update r.fl r.fh 32768 (d.rng / 32768) s d → record { value = v; next = n } ≡ read_lap fs dec s d
unfolding read_sym
read_is s d n fs dec ok r v q x y =
    rw (y, x, q, place_span fs dec ok (decoded_place 32768 d) (place_less 32768 d (omega arith)), value_code (value_in (locate (decoded_place 32768 d) fs dec)))

-- the gate's number, in the contract's terms
pub read_number : (fs dec : ℕ) (s : List ℕ) (d : Reader) (n : ℕ) (known : Bool) → known ≡ pair_known fs dec → n ≡ read_refusal (length s) d true known true 0
    → n ≡ refusal_r (lap fs dec) s d
unfolding refusal_r length_ok shape_ok list_ok
read_number fs dec s d n known k e = e ∙ ap (λ (b : Bool). read_refusal (length s) d true b true 0) k

-- number 0 gives what the worker asks
pub read_needs : (fs dec : ℕ) (s : List ℕ) (d : Reader) (n : ℕ) → n ≡ refusal_r (lap fs dec) s d → n ≡ 0 → Ready 1 d × (legal fs dec ≡ true)
unfolding shape_ok
read_needs fs dec s d n e z =
    let o = opened_for (lap fs dec) s d (sym e ∙ z) in
    (sound_ready 1 d o.state (omega arith), known-legal fs dec o.known)

-- number 0: what was read
pub said_got : (n k : ℕ) (y y' : LapSym) → n ≡ k → n ≡ 0 → y ≡ y' → said (Ok y) ≡ answer k y'
unfolding answer
said_got n zero y y' e z h = rw h
said_got n (suc k) y y' e z h = absurd (suc-ne-zero k (sym e ∙ z))

-- any other: the refusal
pub said-refused : (n k : ℕ) (y : LapSym) → n ≡ k → (n ≡ 0 → ⊥) → refused n ≡ answer k y
unfolding answer
said-refused n zero y e z = absurd (z e)
said-refused n (suc k) y e z = rw e

-- ---- writing

module _ (fs dec : ℕ) (z : ℤ) where
  -- what counts as written, by its count or as a whole number
  pub written_is : written_as fs dec z ≡ adjusted z fs dec
  unfolding adjust
  written_is = value_code (adjusted (value_at (code_of z)) fs dec) ∙ ap (λ (x : ℤ). adjusted x fs dec) (value_code z)

  -- r is what stands for z
  pub written-value : (r : Span) (v : ℤ) → r ≡ span_z z fs dec → v ≡ value_in r → v ≡ written_as fs dec z
  written-value r v e h = h ∙ ap value_in e ∙ sym written_is

  -- its places are those of what counts as written
  pub write-is : Legal fs dec → (r : Span) (w w' : Wr) → r ≡ span_z z fs dec → w' ≡ cut_w r.fl r.fh 32768 w → w' ≡ write_lap fs dec z w
  unfolding write_pieces pieces_of adjust
  write-is ok r w w' e h =
      let p : span_z (value_at ((lap_model fs dec).adjust (code_of z))) fs dec ≡ r
      = adjust-places fs dec ok (code_of z) ∙ ap (λ (x : ℤ). span_z x fs dec) (value_code z) ∙ sym e in
      rw p h

  -- the gate's number, in the contract's terms
  pub write-number : (w : Wr) (n : ℕ) (ok : Bool) → ok ≡ (pair_known fs dec && in_domain z) → n ≡ write_refusal (length w.bytes) w.st true ok true 0
      → n ≡ refusal_w (lap fs dec) (code_of z) w
  unfolding refusal_w length_ok shape_ok value_ok list_ok
  write-number w n ok k e =
      e ∙ ap (λ (b : Bool). write_refusal (length w.bytes) w.st true b true 0) (k ∙ ap (λ (b : Bool). pair_known fs dec && b) (sym (domain_code z)))

  -- number 0 gives what the worker asks
  pub write_needs : (w : Wr) (n : ℕ) → n ≡ refusal_w (lap fs dec) (code_of z) w → n ≡ 0 → Writable 1 w × (legal fs dec ≡ true)
  unfolding shape_ok
  write_needs w n e h =
      let t = taken (lap fs dec) (code_of z) w (sym e ∙ h) in
      (ready_of 1 w (omega arith) t.rule t.len, known-legal fs dec t.shape)

-- number 0: what counts as written, and the bytes after it
next_w : (n k : ℕ) (v : ℤ) (y : LapDone) (w w' : Wr) (l : List ℕ) → n ≡ k → n ≡ 0 → y.value ≡ v → wr y.next l ≡ w'
    → after (Ok y) l ≡ answer_w k v w w'
unfolding answer lent_after
next_w n zero v y w w' l e z p q = rw (sym p, sym q)
next_w n (suc k) v y w w' l e z p q = absurd (suc-ne-zero k (sym e ∙ z))

-- z is the value as it was handed on
pub said-next : (fs dec : ℕ) (z z' : ℤ) (w : Wr) (n : ℕ) (y : LapDone) (l : List ℕ) → z ≡ z' → n ≡ refusal_w (lap fs dec) (code_of z') w → n ≡ 0
    → y.value ≡ written_as fs dec z → wr y.next l ≡ write_lap fs dec z w → after (Ok y) l ≡ writing fs dec z' w
said-next fs dec z z' w n y l t e h p q =
    next_w n _ _ y w _ l e h (p ∙ ap (λ (x : ℤ). written_as fs dec x) t) (q ∙ ap (λ (x : ℤ). write_lap fs dec x w) t)

-- any other: the refusal, and the bytes as they were
pub said_no : (n k : ℕ) (v : ℤ) (w w' : Wr) → n ≡ k → (n ≡ 0 → ⊥) → record { said = refused n; bytes = w.bytes } ≡ answer_w k v w w'
unfolding answer lent_after
said_no n zero v w w' e z = absurd (z e)
said_no n (suc k) v w w' e z = rw e
