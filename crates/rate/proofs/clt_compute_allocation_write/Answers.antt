-- `rate::clt_compute_allocation_write`: the gate, then the work. Assumes nothing.
use Rattle.entcode.specs.Said.{verdict}
use Rattle.entcode.proofs.Said.{stopped-says, stopped-some}
use mathlib.Core.Path.{◌≡◌, ap, sym, ◌∙◌}
use mathlib.Core.Bool.{◌&&◌, and-eq-true_iff}
use lib.Dec.{lit≤}
use lib.ListN.{length}
use borrow.Author.Rules.{rules}
use Rattle.entenc.specs.Write.{Wr, wr}
use Rattle.rate_spec.specs.Answers.{depth, encoder_ask, stops}
use Rattle.entenc.proofs.Taken.{ready_of}
use Rattle.rate.specs.declared.work.Worked.{Worked}
use Rattle.rate.specs.Answer.{lists_of, write_wished}
use Rattle.rate.specs.Question.{Lists, alloc_input, entries_ok, lists, numbers_ok, refusal_write, sized, stereo_ok}
use Rattle.rate.proofs.Accepts as accepts
use Rattle.rate.proofs.Accepts.{Opened, counts-ok, lists-ok, opened, refused-written, done-written}
use Rattle.rate.proofs.Figures.{figures-written, lists-same}
use Rattle.rate.proofs.clt_compute_allocation_write.Goals as goal
use Rattle.rate.proofs.clt_compute_allocation_write.Goals.{After-refusal_write, In_ok-refusal_write}

-- the gate's number, in the contract's terms
gated : (c : After-refusal_write) → let a = c.args in
    verdict c.refusal_write.result
    ≡ refusal_write a.q a.offsets.now a.caps.now (lists a.pulses.now a.fine.now a.priorities.now) a.h (wr a.w a.buf.now)
unfolding refusal_write
gated c = c.refusal_write.ensures

-- number 0
passed : (c : In_ok-refusal_write) → let a = c.args in
    Opened (length a.buf.now) a.w (sized a.q a.offsets.now a.caps.now (lists a.pulses.now a.fine.now a.priorities.now))
    (numbers_ok a.q && stereo_ok a.q a.h) (entries_ok a.offsets.now a.caps.now)
unfolding refusal_write
passed c = opened _ _ _ _ _ (sym (gated (goal.at.In_ok-refusal_write c).After-refusal_write) ∙ (ap verdict c.in_ok-refusal_write.was))

-- and each list has 21 entries
lengths : (c : In_ok-refusal_write) → let a = c.args in
    accepts.Sized (length a.offsets.now) (length a.caps.now) (length a.pulses.now) (length a.fine.now) (length a.priorities.now)
lengths c = accepts.sized _ _ _ _ _ (passed c).sizes

pub counts_of-offset_counts-requires : goal.counts_of-offset_counts-requires
counts_of-offset_counts-requires c = (lengths (goal.at.counts_of-offset_counts-requires c).In_ok-refusal_write).offsets-is

pub counts_of-cap_counts-requires : goal.counts_of-cap_counts-requires
counts_of-cap_counts-requires c = (lengths (goal.at.counts_of-cap_counts-requires c).In_ok-refusal_write).caps-is

pub allocate-y-requires : goal.allocate-y-requires
allocate-y-requires c =
    let a = c.args in
    let o = passed (goal.at.allocate-y-requires c).In_ok-refusal_write in (
      rw c.alloc_counts-f.ensures (counts-ok a.q ((and-eq-true_iff (numbers_ok a.q) (stereo_ok a.q a.h)).0 o.known).0),
      rw (c.counts_of-offset_counts.ensures, c.counts_of-cap_counts.ensures) (lists-ok a.offsets.now a.caps.now o.entries),
      ready_of 22 (wr a.w a.buf.now) (lit≤ tt) o.state o.whole,
    )

pub invariant_of-lent : goal.invariant_of-lent
invariant_of-lent c =
    let l = lengths (goal.at.invariant_of-lent c).In_ok-refusal_write in
    record { whole = (l.pulses-is, l.fine-is, l.priorities-is) }

pub returns : goal.returns
unfolding encoder_ask stops depth
returns c =
    let a = c.args in
    let x = write_wished (alloc_input a.q a.offsets.now a.caps.now) a.h (wr a.w a.buf.now) in
    let e = rw (c.alloc_counts-f.ensures, c.counts_of-offset_counts.ensures, c.counts_of-cap_counts.ensures, c.from.ensures) at c.allocate-y.ensures in
    let bytes : c.allocate-y.new.side.bytes.now ≡ x.1.bytes = ap (λ (p : Worked × Wr). p.1.bytes) e.numbers in
    let l = lists_of (alloc_input a.q a.offsets.now a.caps.now) x.0 (lists a.pulses.now a.fine.now a.priorities.now) in
    let pulses : c.allocate-y.new.lent.pulses.now ≡ l.pulses = ap (λ (z : Lists). z.pulses) e.filled in
    let fine : c.allocate-y.new.lent.fine.now ≡ l.fine = ap (λ (z : Lists). z.fine) e.filled in
    let priorities : c.allocate-y.new.lent.priorities.now ≡ l.priorities = ap (λ (z : Lists). z.priorities) e.filled in
    done-written _ _ x _ _ (sym (gated (goal.at.returns c).After-refusal_write) ∙ (ap verdict c.in_ok-refusal_write.was))
    (c.figures.ensures ∙ figures-written x e.numbers) (search (rules, bytes))
    (lists-same (search (rules, pulses)) (search (rules, fine)) (search (rules, priorities)))

pub returns-in_err-refusal_write : goal.returns-in_err-refusal_write
returns-in_err-refusal_write c =
    let h = c.in_err-refusal_write in
    rw (stopped-says _ _ _ h.was c.from_residual.ensures.1) (let g = gated (goal.at.returns-in_err-refusal_write c).After-refusal_write in
    rw g (refused-written _ _ _ _ _ (rw g at (stopped-some _ _ h.was))))
