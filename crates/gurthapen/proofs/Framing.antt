-- A frame of the record and the reader that lent lists hold. Assumes nothing.
use Prim.Native.Nat.{ℕ}
use mathlib.Core.Path.{◌≡◌}
use mathlib.Core.Bool.{true, false, ◌&&◌, and-eq-true_iff}
use mathlib.Core.List.{List}
use lib.Dec.{eqb}
use lib.Ieee.{Float}
use lib.IntN.{ℤ}
use lib.ListN.{length}
use mir.Syntax.{w32}
use mir.Val.{SFits, to_z, of_z}
use mir.Facts.{to_z-of_z}
use Rattle.entcode.specs.Said.{answer}
use Rattle.entdec.specs.declared.Reader.{Reader}
use Rattle.entdec.proofs.Lengths.{wrong_lengths}
use Rattle.stream.specs.declared.Record.{Record}
use Rattle.stream.specs.Frame.{Framed, call, refusal_frame, frame_answer, framed}
use Rattle.gurthapen_state.specs.Record.{is_record}
use Rattle.gurthapen_state.specs.State.{is_stored}
use Rattle.gurthapen_answer.specs.Result.{result, result_of}
use Rattle.gurthapen_answer.specs.Record.{lists_framed}
use Rattle.gurthapen_answer.proofs.Exports.{both, stored}

-- three lengths are right
pub record Three (a m b n d k : ℕ) : Type 0 where
  pub one : a ≡ m
  pub two : b ≡ n
  pub three : d ≡ k

-- from the guard
pub all_three : (e : List Float) (n : List ℕ) (l : List ℤ) → (is_record e n && is_stored l) ≡ true → Three (length e) 42 (length n) 1 (length l) 12
all_three e n l h =
    let p = (and-eq-true_iff (is_record e n) (is_stored l)).0 h in
    let q = both (length e) 42 (length n) 1 p.0 in
    record { one = q.one; two = q.two; three = stored l p.1 }

-- a number that was handed on
abbrev back : ℤ → ℤ
back z = to_z w32 (of_z w32 z)

-- what is left of it, with numbers that were handed on
pub frame_of : {y : Framed} {r : ℕ} {x' : (List Float × List ℕ) × List ℤ} (x : (List Float × List ℕ) × List ℤ) {h h' : Record} {d d' : Reader}
    (s : List ℕ) (number : ℕ) {c lm start end intra : ℤ} → SFits w32 c → SFits w32 lm → SFits w32 start → SFits w32 end → SFits w32 intra
    → h ≡ h' → d ≡ d' → y ≡ framed h (call d s number (back c) (back lm) (back start) (back end) (back intra))
    → result r x' ≡ result_of (lists_framed y) x → result r x' ≡ result_of (lists_framed (framed h' (call d' s number c lm start end intra))) x
frame_of x s number c lm start end intra same-h same-d e l =
    rw (rw (to_z-of_z c, to_z-of_z lm, to_z-of_z start, to_z-of_z end, to_z-of_z intra, same-h, same-d) at e) at l

-- bytes of another count than the state's storage are 2, whatever the record is
pub frame_unsized : {d d' : Reader} (h : Record) (x : (List Float × List ℕ) × List ℤ) (s : List ℕ) (number : ℕ) (c lm start end intra : ℤ)
    → d ≡ d' → (eqb d.storage (length s) && true) ≡ false
    → result 2 x ≡ result_of (lists_framed (framed h (call d' s number c lm start end intra))) x
unfolding refusal_frame frame_answer answer result_of
frame_unsized {d} {d'} h x s number c lm start end intra same e = rw (wrong_lengths (length s) d' true _ _ _ (rw same at e))
