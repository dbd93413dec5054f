-- Frame numbers count up by one across saved lines. Assumes nothing.
use Prim.Native.Nat.{ℕ, zero, suc, ◌≤◌}
use mathlib.Core.Path.{◌≡◌, refl, sym, ap, ◌∙◌, subst}
use mathlib.Core.Bool.{◌&&◌, and-eq-true_iff}
use mathlib.Core.List.{List, [], ◌∷◌}
use native.Mathlib.Omega.{arith}
use lib.Dec.{eqb}
use lib.ListN.{get_or}
use borrow.Author.Tests.{eqb-true}
use Rattle.laws.proofs.Tests.{cond-by}
use Rattle.text.specs.Numbers.{number_of}
use Rattle.text.proofs.Back.{decimal_back}
use Rattle.stream.specs.declared.Record.{Record}
use Rattle.stream.specs.Frame.{framed}
use Rattle.stream.specs.History.{times}
use Rattle.stream.proofs.Once.{Counted, counted_none, counted-frame, counted_is, times-most}
use Rattle.stream_saved.specs.Lines.{saved_line, refusal_save, the_number, refusal_line, record_read, answer_restored, restoring}
use Rattle.stream_saved.specs.Back.{Event, reloaded, record_over, applied_over, CountsAcross, OnceAcross}
use Rattle.stream_saved.specs.Back.Event.{frame, reload}
use Rattle.stream_saved.proofs.Placed.{save-opens}
use Rattle.stream_saved.proofs.Round.{fields_are}
use Rattle.stream_saved.proofs.Sound.{code_is}

-- an accepted line gives the record that it stands for
answer-is : (n : ℕ) (r : Record) → n ≡ 0 → (answer_restored n r).rec ≡ r
unfolding answer_restored
answer-is zero r h = refl
answer-is (suc n) r h = absurd (omega arith)

-- the line of a record has its next number
next-read : (r : Record) → r.next ≤ 4294967295 → (record_read (saved_line r)).next ≡ r.next
next-read r h =
    ap (λ (fs : List (List ℕ)). the_number (number_of 4294967295 (get_or fs 1 []))) (fields_are r)
    ∙ ap the_number (decimal_back 4294967295 r.next (omega arith) h)

-- so a record that its line restores has it too
restored-next : (r : Record) → r.next ≤ 4294967295 → (restoring (saved_line r)).code ≡ 0 → (restoring (saved_line r)).rec.next ≡ r.next
restored-next r h e =
    let z : refusal_line (saved_line r) ≡ 0 = sym (code_is (refusal_line (saved_line r)) (record_read (saved_line r))) ∙ e in
    ap (λ (x : Record). x.next) (answer-is (refusal_line (saved_line r)) (record_read (saved_line r)) z) ∙ next-read r h

-- a record that is saved and restored keeps its next number
reload-next : (n : ℕ) (r : Record) → (reloaded n r).next ≡ r.next
reload-next n r =
    cond-by (λ (x : Record). x.next ≡ r.next) (eqb (refusal_save n r) 0 && eqb (restoring (saved_line r)).code 0)
    (λ e.
    let p = (and-eq-true_iff (eqb (refusal_save n r) 0) (eqb (restoring (saved_line r)).code 0)).0 e in
    restored-next r (save-opens n r (eqb-true (refusal_save n r) 0 p.0)).1 (eqb-true (restoring (saved_line r)).code 0 p.1))
    (λ e. refl)

-- event by event
counted-over : (es : List Event) (r : Record) → Counted r.next (applied_over r es) (record_over r es).next
unfolding applied_over record_over
counted-over [] r = counted_none r.next
counted-over (frame q ∷ es) r =
    counted-frame r q (applied_over (framed r q).rec es) (record_over (framed r q).rec es).next (counted-over es (framed r q).rec)
counted-over (reload n ∷ es) r =
    subst (λ (k : ℕ). Counted k (applied_over (reloaded n r) es) (record_over (reloaded n r) es).next) (reload-next n r) (counted-over es (reloaded n r))

-- what was counted is from the next number to the last
pub counts_across : CountsAcross
counts_across r es = counted_is r.next (applied_over r es) (record_over r es).next (counted-over es r)

-- numbers that count up stand once
pub once_across : OnceAcross
once_across r es n = subst (λ (l : List ℕ). times n l ≤ 1) (sym (counts_across r es).1) (times-most n r.next _)
