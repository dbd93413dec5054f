-- The promises of specs/Promises.antt, each from the lemma that says more. Assumes nothing.
use Prim.Native.Nat.{ℕ}
use mathlib.Core.Path.{◌≡◌, ap₂}
use mathlib.Core.Bool.{true}
use mathlib.Core.List.{List, [], ◌∷◌}
use lib.ListN.{length}
use Rattle.entcode.specs.Sym.{Shape, Sym}
use Rattle.entcode.specs.Sym.Shape.{bit, table, uint, raw, modelled}
use Rattle.entcode.specs.Tell.{tell_of, tell_frac_of}
use Rattle.entcode.proofs.Pieces.{ModelOk}
use Rattle.entcode.proofs.Said.{answer-refused, lent-refused}
use Rattle.entenc.specs.Write.{Wr, wr, fresh_writer}
use Rattle.entenc.specs.Symbols.{write_sym, write_syms}
use Rattle.entenc.specs.Close.{close_w}
use Rattle.entenc.specs.Rule.{writer_ok, refusal_w, refusal_close}
use Rattle.entenc.specs.Answer.{answer_w}
use Rattle.entenc.specs.Promises.{says_no, RefusedChangesNothing, LengthStays, NewAccepted, HasPlaces, StaysAccepted, AllTaken, AcceptedFromNew}
use Rattle.entenc.specs.Promises.{ClosedAccepted, MarkStays, TellsAlike}
use Rattle.entenc.proofs.Long.{writing-long, closing-long}
use Rattle.entenc.proofs.Stays.{Paid, paid-new, fresh_ok, accepted_within, accepted_paid, close_accepted}
use Rattle.entenc.proofs.Sticky.{sym-keeps, close-keeps}
use Rattle.entenc.proofs.Alike.{sym-alike}

-- the same as facts by name
placed : (h : Shape) (v : ℕ) → HasPlaces h v → ModelOk h v
placed (bit k) v p = tt
placed (table t k) v p = tt
placed (uint ft) v p = tt
placed (raw b) v p = tt
placed (modelled m) v p = record { lt = p.0; le = p.1; ft-le = p.2 }

-- a number that is not 0 answers with it, and with the bytes before
says_no_lem : (n : ℕ) (w w' : Wr) → (n ≡ 0 → ⊥) → answer_w n w w' ≡ says_no n w
says_no_lem n w w' h = rw (answer-refused n w'.st h, lent-refused n w'.bytes w.bytes h)

-- by the number, whatever would have been written
pub refused_changes_nothing : RefusedChangesNothing
refused_changes_nothing = (λ h v w z. says_no_lem (refusal_w h v w) w (write_sym h v w) z, λ w z. says_no_lem (refusal_close w) w (close_w w) z)

-- every store keeps the length
pub length_stays : LengthStays
length_stays = (writing-long, closing-long)

-- the numbers of a new writer meet the rule
pub new_accepted : NewAccepted
new_accepted = fresh_ok

-- refusal 4 leaves the counts room for one symbol
pub stays_accepted : StaysAccepted
stays_accepted h v w b z e = accepted_within h v w z (placed h v b) e

-- a row from a writer whose run is paid for
row_accepted : (ys : List Sym) (w : Wr) → Paid w.st → writer_ok w.st ≡ true → AllTaken ys w → writer_ok (write_syms ys w).st ≡ true
unfolding write_syms
row_accepted [] w f e t = e
row_accepted (y ∷ ys) w f e t =
    let p = accepted_paid y.shape y.value w t.1 (placed y.shape y.value t.0) f in
    row_accepted ys (write_sym y.shape y.value w) p.0 p.1 t.2

-- each held byte has cost eight bits of the count, which refusal 4 bounds
pub accepted_from_new : AcceptedFromNew
accepted_from_new bytes ys h t =
    row_accepted ys (wr (fresh_writer (length bytes)) bytes) (paid-new (length bytes)) (fresh_ok (length bytes) h) t

-- a close holds nothing back, and leaves the places within the storage
pub closed_accepted : ClosedAccepted
closed_accepted = close_accepted

-- every byte that goes out, and every one for which there is no room, keeps a mark that is set
pub mark_stays : MarkStays
mark_stays = (λ h v w. (sym-keeps h v w).mark, λ w. (close-keeps w).mark)

-- the range and the bit count after a symbol are those after it from the other writer
pub tells_alike : TellsAlike
tells_alike h v w x r t =
    let a = sym-alike h v w x r t in
    (ap₂ tell_of a.total a.rng, ap₂ tell_frac_of a.total a.rng)
