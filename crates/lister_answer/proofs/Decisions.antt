-- Decisions: which lines are refused, and that a decision's text is the line's listing. Assumes nothing.
use Rattle.std.specs.Prelude.{Option, Some, None}
use Prim.Native.Nat.{ℕ, ◌/◌, ◌≤◌}
use mathlib.Core.Path.{◌≡◌, refl, sym, ap, ◌∙◌}
use mathlib.Core.Bool.{Bool, true, false, cond}
use mathlib.Core.List.{List}
use native.Mathlib.Omega.{arith}
use lib.ListN.{length}
use Rattle.laws.specs.Signs.{clip}
use Rattle.entdec.specs.declared.Reader.{Reader}
use Rattle.entdec.specs.Read.{fresh_reader}
use Rattle.rate.specs.declared.AllocNumbers.{AllocNumbers}
use Rattle.rate.specs.Question.{alloc_counts, numbers_ok}
use Rattle.rate.specs.Answer.{AfterRead}
use Rattle.rate.proofs.Accepts as accepts
use Rattle.lister_answer.specs.Request.{packet_hex, packet_of, request_numbers, well_formed, request_of, packet_size}
use Rattle.lister_answer.specs.Answer.{allocated, listing_of_allocation, listing_of_numbers, listing_of_request, listing_of_line}
use Rattle.lister_answer.specs.Decision.{Decision, refused_decision, decision_of_numbers, decision_of_request, decision_of_line, listing_of_decision}
use Rattle.lister_answer.proofs.Answers.{unknown_read}

-- ---- numbers and a packet

-- a decision with no bands
abbrev no_bands_lem : AfterRead → Decision
no_bands_lem x = record { start = 0; end = 0; read = x }

-- numbers of the domain
pub decision_in_domain : (q : AllocNumbers) (s : List ℕ) (d : Reader) {start end : ℕ} {x : AfterRead} → numbers_ok q ≡ true → start ≡ clip q.start
    → end ≡ clip q.end
    → x ≡ allocated q s d → ◌≡◌ {A = Decision} (record { start = start; end = end; read = x }) (decision_of_numbers q s d)
unfolding decision_of_numbers
decision_in_domain q s d h a b e = rw (h, a, b, e)

-- other numbers
pub decision_outside : (q : AllocNumbers) (s : List ℕ) → numbers_ok q ≡ false → refused_decision 1 ≡ decision_of_numbers q s (fresh_reader s)
unfolding decision_of_numbers
decision_outside q s h = rw h (ap (λ (x : AfterRead). no_bands_lem x) (unknown_read q s h))

-- ---- a line

-- a line that asks for an allocation
pub decision-asks : (s : List ℕ) {packet : List ℕ} {r : Option AllocNumbers} {q : AllocNumbers} → well_formed s ≡ true → packet ≡ packet_of s
    → r ≡ request_numbers s → r ≡ Some q → decision_of_numbers q packet (fresh_reader packet) ≡ decision_of_line s
unfolding decision_of_line request_of
decision-asks s {packet} {r} {q} h e p g =
    let w : request_numbers s ≡ Some q = sym p ∙ g in
    rw (h, w, e)

-- a line whose numbers are none
pub decision-malformed : (s : List ℕ) {r : Option AllocNumbers} → well_formed s ≡ true → r ≡ request_numbers s → r ≡ None
    → refused_decision 1 ≡ decision_of_line s
unfolding decision_of_line request_of
decision-malformed s {r} h p g =
    let w : request_numbers s ≡ None = sym p ∙ g in
    rw (h, w)

-- a packet that could not be read is that of a malformed line
malformed_request : (s : List ℕ) (b : Bool) → cond b (Some (length (packet_hex s) / 2)) None ≡ None
    → refused_decision 1 ≡ decision_of_request (cond b (request_numbers s) None) (packet_of s)
malformed_request s true f = absurd (let z : ◌≡◌ {A = ℕ} 0 1 = cc in omega arith)
malformed_request s false f = refl

-- a line whose packet could not be read
pub decision_bad_packet : (s : List ℕ) {r : Option ℕ} → r ≡ packet_size s → r ≡ None → refused_decision 1 ≡ decision_of_line s
unfolding decision_of_line request_of
decision_bad_packet s p g = malformed_request s (well_formed s) (sym p ∙ g)

-- ---- its bands

-- the bands of numbers in the domain, and none for others
bands_in : (q : AllocNumbers) (b : Bool) → numbers_ok q ≡ b → (cond b (clip q.start) 0 ≤ cond b (clip q.end) 0) × (cond b (clip q.end) 0 ≤ 21)
unfolding alloc_counts
bands_in q true h =
    let f = accepts.counts-ok q h in
    (omega (arith, f.start-lt), omega (arith, f.end-le))
bands_in q false h = (omega arith, omega arith)

-- the same of what a line asks
request_bands : (p : Option AllocNumbers) (s : List ℕ)
    → ((decision_of_request p s).start ≤ (decision_of_request p s).end) × ((decision_of_request p s).end ≤ 21)
unfolding decision_of_numbers
request_bands (Some q) s = bands_in q (numbers_ok q) refl
request_bands None s = (omega arith, omega arith)

-- the bands are of the mode's 21
pub line-bands : (s : List ℕ) → ((decision_of_line s).start ≤ (decision_of_line s).end) × ((decision_of_line s).end ≤ 21)
unfolding decision_of_line
line-bands s = request_bands (request_of s) (packet_of s)

-- ---- its text

-- the text of a refusal has no bands
refused-listing : (number : ℕ) (q : AllocNumbers) (s : List ℕ) (b : Bool) → numbers_ok q ≡ b
    → listing_of_allocation number (cond b (clip q.start) 0) (cond b (clip q.end) 0) (allocated q s (fresh_reader s)).said
    (allocated q s (fresh_reader s)).lent
    ≡ listing_of_allocation number (clip q.start) (clip q.end) (allocated q s (fresh_reader s)).said (allocated q s (fresh_reader s)).lent
refused-listing number q s true h = refl
refused-listing number q s false h =
    sym (ap (λ (x : AfterRead). listing_of_allocation number 0 0 x.said x.lent) (unknown_read q s h))
    ∙ ap (λ (x : AfterRead). listing_of_allocation number (clip q.start) (clip q.end) x.said x.lent) (unknown_read q s h)

-- the text of what a line asks
request_listing : (number : ℕ) (p : Option AllocNumbers) (s : List ℕ) → listing_of_decision number (decision_of_request p s) ≡ listing_of_request number p s
unfolding decision_of_numbers listing_of_numbers
request_listing number (Some q) s = refused-listing number q s (numbers_ok q) refl
request_listing number None s = refl

-- the text of the decision on a line is the line's listing
pub decision-listing : (number : ℕ) (s : List ℕ) → listing_of_decision number (decision_of_line s) ≡ listing_of_line number s
unfolding decision_of_line listing_of_line
decision-listing number s = request_listing number (request_of s) (packet_of s)
