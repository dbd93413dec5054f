-- An allocation that was read or written, with its lists, and what is left after it. Assumes nothing.
use Prim.Native.Nat.{ℕ, zero, suc}
use mathlib.Core.Path.{◌≡◌, ap, ◌∙◌}
use mathlib.Core.List.{List}
use lib.IntN.{ℤ}
use mir.Syntax.{w32}
use mir.Val.{SFits, to_z, of_z}
use mir.Facts.{to_z-of_z}
use Rattle.entcode.specs.Said.{Said, answer, lent_after}
use Rattle.entdec.specs.declared.Reader.{Reader}
use Rattle.entenc.specs.declared.Writer.{Writer}
use Rattle.entenc.specs.Write.{Wr, wr}
use Rattle.rate_spec.specs.Types.{AllocIn, AllocOut}
use Rattle.rate.specs.Question.{Lists, alloc_numbers, wishes}
use Rattle.rate.specs.Answer.{AfterRead, AfterWrite, answer_read, answer_written, reading, writing}
use Rattle.rate.specs.Allocations.{ReadAllocation, WrittenAllocation}
use Rattle.rate.specs.declared.AllocNumbers.{AllocNumbers}
use Rattle.rate.specs.declared.Wishes.{Wishes}
use Rattle.gurthapen_answer.specs.Result.{result, result_of}
use Rattle.gurthapen_answer.proofs.Exports.{beside}
use Rattle.gurthapen_answer.specs.Allocation.{lists_read, lists_wrote, lists_all_read, lists_all_wrote}

-- ---- numbers that are handed on

-- a number as it comes back from an i32
abbrev pub back : ℤ → ℤ
back z = to_z w32 (of_z w32 z)

-- an allocation's numbers come back as they were
pub numbers_back : {c lm start end trim total : ℤ} → SFits w32 c → SFits w32 lm → SFits w32 start → SFits w32 end → SFits w32 trim
    → SFits w32 total → alloc_numbers (back c) (back lm) (back start) (back end) (back trim) (back total) ≡ alloc_numbers c lm start end trim total
numbers_back c lm start end trim total = rw (to_z-of_z c, to_z-of_z lm, to_z-of_z start, to_z-of_z end, to_z-of_z trim, to_z-of_z total)

-- and so do wishes
pub wishes_back : {intensity dual previous bandwidth : ℤ} → SFits w32 intensity → SFits w32 dual → SFits w32 previous → SFits w32 bandwidth
    → wishes (back intensity) (back dual) (back previous) (back bandwidth) ≡ wishes intensity dual previous bandwidth
wishes_back intensity dual previous bandwidth = rw (to_z-of_z intensity, to_z-of_z dual, to_z-of_z previous, to_z-of_z bandwidth)

-- ---- reading

-- by the number of the answer
read_by : {a : Said ReadAllocation} {p : Lists} {x' : List ℤ × List ℤ} {r : ℕ} (x : List ℤ × List ℤ) (n : ℕ) (i : AllocIn) (o : AllocOut × Reader) (l : Lists)
    → ◌≡◌ {A = AfterRead} (record { said = a; lent = p }) (answer_read n i o l) → result r x' ≡ result_of (lists_read a) x
    → result {A = (List ℤ × List ℤ) × Lists} r (x', p) ≡ result_of (lists_all_read (answer_read n i o l)) (x, l)
unfolding answer_read answer lent_after result_of
read_by x zero i o l e h = beside (rw (ap (λ (t : AfterRead). t.said) e) at h) (ap (λ (t : AfterRead). t.lent) e)
read_by x (suc n) i o l e h = beside (rw (ap (λ (t : AfterRead). t.said) e) at h) (ap (λ (t : AfterRead). t.lent) e)

-- what is left after an allocation that was read, by numbers and a reader that came back
pub bands-read : {a : Said ReadAllocation} {p : Lists} {x' : List ℤ × List ℤ} {r : ℕ} (x : List ℤ × List ℤ) {q q' : AllocNumbers} {d d' : Reader}
    (offsets caps : List ℤ) (s : List ℕ) (l : Lists) → q ≡ q' → d ≡ d' → ◌≡◌ {A = AfterRead} (record { said = a; lent = p }) (reading q offsets caps s d l)
    → result r x' ≡ result_of (lists_read a) x
    → result {A = (List ℤ × List ℤ) × Lists} r (x', p) ≡ result_of (lists_all_read (reading q' offsets caps s d' l)) (x, l)
bands-read x {q' = q'} {d = d} offsets caps s l same-q same-d e h =
    read_by x _ _ _ _
    (e ∙ ap (λ (q : AllocNumbers). reading q offsets caps s d l) same-q ∙ ap (λ (d : Reader). reading q' offsets caps s d l) same-d) h

-- ---- writing

-- by the number of the answer
wrote_by : {a : Said WrittenAllocation} {p : Lists} {b : List ℕ} {x' : List ℤ × List ℤ} {r : ℕ} (x : List ℤ × List ℤ) (n : ℕ) (i : AllocIn) (o : AllocOut × Wr)
    (l : Lists) (w : Wr)
    → ◌≡◌ {A = AfterWrite} (record { said = a; lent = p; bytes = b }) (answer_written n i o l w) → result r x' ≡ result_of (lists_wrote a) x
    → result {A = (List ℤ × List ℤ) × (Lists × List ℕ)} r (x', (p, b)) ≡ result_of (lists_all_wrote (answer_written n i o l w)) (x, (l, w.bytes))
unfolding answer_written answer lent_after result_of
wrote_by x zero i o l w e h = beside (rw (ap (λ (t : AfterWrite). t.said) e) at h) (ap (λ (t : AfterWrite). (t.lent, t.bytes)) e)
wrote_by x (suc n) i o l w e h = beside (rw (ap (λ (t : AfterWrite). t.said) e) at h) (ap (λ (t : AfterWrite). (t.lent, t.bytes)) e)

-- what is left after an allocation that was written, in the same way
pub bands-wrote : {a : Said WrittenAllocation} {p : Lists} {b' : List ℕ} {x' : List ℤ × List ℤ} {r : ℕ} (x : List ℤ × List ℤ) {q q' : AllocNumbers}
    {h h' : Wishes} {w w' : Writer}
    (offsets caps : List ℤ) (b : List ℕ) (l : Lists) → q ≡ q' → h ≡ h' → w ≡ w' → ◌≡◌ {A = AfterWrite} (record { said = a; lent = p; bytes = b' })
    (writing q h offsets caps (wr w b) l)
    → result r x' ≡ result_of (lists_wrote a) x
    → result {A = (List ℤ × List ℤ) × (Lists × List ℕ)} r (x', (p, b')) ≡ result_of (lists_all_wrote (writing q' h' offsets caps (wr w' b) l)) (x, (l, b))
bands-wrote x {q' = q'} {h = h} {h' = h'} {w = w} offsets caps b l same-q same-h same_w e g =
    wrote_by x _ _ _ _ _
    (e ∙ ap (λ (q : AllocNumbers). writing q h offsets caps (wr w b) l) same-q ∙ ap (λ (h : Wishes). writing q' h offsets caps (wr w b) l) same-h
    ∙ ap (λ (w : Writer). writing q' h' offsets caps (wr w b) l) same_w)
    g
