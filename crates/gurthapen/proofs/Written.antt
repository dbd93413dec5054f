-- A line that a call writes into lent bytes, and its length beside them: by the call's answer. A refusal leaves both as they were. Assumes
-- nothing.
use Prim.Native.Nat.{ℕ, ◌<◌}
use mathlib.Core.Path.{◌≡◌, ap}
use mathlib.Core.List.{List}
use lib.ListN.{length}
use borrow.Author.Tests.{lt-leb}
use Rattle.entcode.specs.Refusal.{refusal}
use Rattle.entcode.specs.Said.{Said, answer, lent_after}
use Rattle.stream.specs.declared.Record.{Record}
use Rattle.stream_saved.specs.Lines.{After, refusal_save, saving}
use Rattle.lister_answer.specs.Answer.{After as Listing, listing}
use Rattle.gurthapen_answer.specs.Result.{also, result, result_of, lists_number}
use Rattle.gurthapen_answer.specs.Record.{lists_saved}
use Rattle.gurthapen_answer.proofs.Exports.{joined}
use Rattle.gurthapen_answer.specs.Requests.{lists_listed}

-- a record's line
pub line_saved : {a : Said ℕ} {b v' : List ℕ} {r : ℕ} (v : List ℕ) (n size : ℕ) (written buf : List ℕ)
    → ◌≡◌ {A = After} (record { said = a; bytes = b }) (record { said = answer n size; bytes = lent_after n written buf })
    → result r v' ≡ result_of (lists_number a) v
    → result {A = List ℕ × List ℕ} r (v', b) ≡ result_of (also (lists_number (answer n size)) (lent_after n written buf)) (v, buf)
line_saved v n size written buf e h = joined _ n size written buf v (ap (λ (y : After). y.said) e) (ap (λ (y : After). y.bytes) e) h

-- fewer than 390 bytes are 2, whatever the record is
pub no_room : (v buf : List ℕ) (rec : Record) → length buf < 390 → result 2 (v, buf) ≡ result_of (lists_saved (saving rec buf)) (v, buf)
unfolding refusal_save refusal answer lent_after result_of
no_room v buf rec h = rw (lt-leb 390 (length buf) h)

-- the lister's lines
pub lines_listed : {a : Said ℕ} {b v' : List ℕ} {r : ℕ} (v : List ℕ) (number : ℕ) (line out : List ℕ)
    → ◌≡◌ {A = Listing} (record { said = a; lent = b }) (listing number line out)
    → result r v' ≡ result_of (lists_number a) v → result {A = List ℕ × List ℕ} r (v', b) ≡ result_of (lists_listed (listing number line out)) (v, out)
unfolding listing
lines_listed v number line out e h = joined _ _ _ _ out v (ap (λ (y : Listing). y.said) e) (ap (λ (y : Listing). y.lent) e) h
