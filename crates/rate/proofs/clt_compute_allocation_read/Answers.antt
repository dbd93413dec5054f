-- `rate::clt_compute_allocation_read`: the gate, then the work. Assumes nothing.
use Rattle.entcode.specs.Said.{verdict}
use Rattle.entcode.proofs.Said.{stopped-says, stopped-some}
use mathlib.Core.Path.{◌≡◌, sym, ◌∙◌, ap}
use lib.Dec.{lit≤}
use lib.ListN.{length}
use Rattle.entdec.proofs.Accepted.{Open, opened}
use Rattle.entdec.proofs.Chain.{sound_ready}
use borrow.Author.Rules.{rules}
use Rattle.rate.specs.Answer.{lists_of, read_alloc}
use Rattle.rate.specs.Question.{Lists, alloc_input, entries_ok, lists, numbers_ok, refusal_read, sized}
use Rattle.rate.proofs.Accepts as accepts
use Rattle.rate.proofs.Accepts.{counts-ok, done-read, lists-ok, refused-read}
use Rattle.rate.proofs.Figures.{figures-read, lists-same}
use Rattle.rate.proofs.clt_compute_allocation_read.Goals as goal
use Rattle.rate.proofs.clt_compute_allocation_read.Goals.{After-refusal_read, In_ok-refusal_read}

-- the gate's number, in the contract's terms
gated : (c : After-refusal_read) → let a = c.args in
    verdict c.refusal_read.result ≡ refusal_read a.q a.offsets.now a.caps.now (lists a.pulses.now a.fine.now a.priorities.now)
    a.s.now a.d
unfolding refusal_read
gated c = c.refusal_read.ensures

-- number 0
passed : (c : In_ok-refusal_read) → let a = c.args in
    Open (length a.s.now) a.d (sized a.q a.offsets.now a.caps.now (lists a.pulses.now a.fine.now a.priorities.now))
    (numbers_ok a.q) (entries_ok a.offsets.now a.caps.now) 0
unfolding refusal_read
passed c = opened _ _ _ _ _ _ (sym (gated (goal.at.In_ok-refusal_read c).After-refusal_read) ∙ (ap verdict c.in_ok-refusal_read.was))

-- and each list has 21 entries
lengths : (c : In_ok-refusal_read) → let a = c.args in
    accepts.Sized (length a.offsets.now) (length a.caps.now) (length a.pulses.now) (length a.fine.now) (length a.priorities.now)
lengths c = accepts.sized _ _ _ _ _ (passed c).sizes

pub counts_of-offset_counts-requires : goal.counts_of-offset_counts-requires
counts_of-offset_counts-requires c = (lengths (goal.at.counts_of-offset_counts-requires c).In_ok-refusal_read).offsets-is

pub counts_of-cap_counts-requires : goal.counts_of-cap_counts-requires
counts_of-cap_counts-requires c = (lengths (goal.at.counts_of-cap_counts-requires c).In_ok-refusal_read).caps-is

pub allocate-y-requires : goal.allocate-y-requires
allocate-y-requires c =
    let o = passed (goal.at.allocate-y-requires c).In_ok-refusal_read in (
      rw c.alloc_counts-f.ensures (counts-ok c.args.q o.known),
      rw (c.counts_of-offset_counts.ensures, c.counts_of-cap_counts.ensures) (lists-ok c.args.offsets.now c.args.caps.now o.entries),
      sound_ready 22 c.args.d o.state (lit≤ tt),
    )

pub invariant_of-lent : goal.invariant_of-lent
invariant_of-lent c =
    let l = lengths (goal.at.invariant_of-lent c).In_ok-refusal_read in
    record { whole = (l.pulses-is, l.fine-is, l.priorities-is) }

pub returns : goal.returns
returns c =
    let a = c.args in
    let x = read_alloc (alloc_input a.q a.offsets.now a.caps.now) a.s.now a.d in
    let e = rw (c.alloc_counts-f.ensures, c.counts_of-offset_counts.ensures, c.counts_of-cap_counts.ensures) at c.allocate-y.ensures in
    let l = lists_of (alloc_input a.q a.offsets.now a.caps.now) x.0 (lists a.pulses.now a.fine.now a.priorities.now) in
    let pulses : c.allocate-y.new.lent.pulses.now ≡ l.pulses = ap (λ (z : Lists). z.pulses) e.filled in
    let fine : c.allocate-y.new.lent.fine.now ≡ l.fine = ap (λ (z : Lists). z.fine) e.filled in
    let priorities : c.allocate-y.new.lent.priorities.now ≡ l.priorities = ap (λ (z : Lists). z.priorities) e.filled in
    done-read _ _ x _ (sym (gated (goal.at.returns c).After-refusal_read) ∙ (ap verdict c.in_ok-refusal_read.was))
    (c.figures.ensures ∙ figures-read x e.numbers)
    (lists-same (search (rules, pulses)) (search (rules, fine)) (search (rules, priorities)))

pub returns-in_err-refusal_read : goal.returns-in_err-refusal_read
returns-in_err-refusal_read c =
    let h = c.in_err-refusal_read in
    rw (stopped-says _ _ _ h.was c.from_residual.ensures.1) (let g = gated (goal.at.returns-in_err-refusal_read c).After-refusal_read in
    rw g (refused-read _ _ _ _ (rw g at (stopped-some _ _ h.was))))
