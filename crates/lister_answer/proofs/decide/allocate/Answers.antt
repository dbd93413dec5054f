-- `lister_answer::decide::allocate`: the caps are the lister's, and the call's contract is the allocation with them. Assumes nothing.
use mathlib.Core.Path.{◌≡◌, ◌∙◌}
use native.Mathlib.Omega.{arith}
use mir.Syntax.{w32}
use mir.Val.{SFits}
use mir.Facts.{to_z-of_z}
use borrow.Author.Rules.{rules}
use Rattle.laws.specs.Signs.{clip}
use Rattle.rate.specs.Question.{alloc_counts, no_entries}
use Rattle.rate.proofs.Accepts.{counts-ok}
use Rattle.lister_answer.specs.Caps.{caps_of}
use Rattle.lister_answer.proofs.Answers.{allocated-is}
use Rattle.lister_answer.proofs.Decisions.{decision_in_domain}
use Rattle.lister_answer.proofs.decide.allocate.Goals as goal

pub caps-limits-requires : goal.caps-limits-requires
unfolding alloc_counts
caps-limits-requires c =
    let q = c.args.q in
    let fc : SFits w32 q.c = search rules in
    let flm : SFits w32 q.lm = search rules in
    let e : c.clipped.result ≡ clip q.c = rw (to_z-of_z fc) at c.clipped.ensures.0 in
    let h : c.clipped-2.result ≡ clip q.lm = rw (to_z-of_z flm) at c.clipped-2.ensures.0 in
    let f = counts-ok q c.requires in
    (omega (arith, f.c_low), omega (arith, f.c_le), omega (arith, f.lm-le))

pub returns : goal.returns
unfolding no_entries
returns c =
    let a = c.args in
    let q = a.q in
    let fc : SFits w32 q.c = search rules in
    let flm : SFits w32 q.lm = search rules in
    let fstart : SFits w32 q.start = search rules in
    let fend : SFits w32 q.end = search rules in
    let e : c.clipped-start.result ≡ clip q.start = rw (to_z-of_z fstart) at c.clipped-start.ensures.0 in
    let h : c.clipped-end.result ≡ clip q.end = rw (to_z-of_z fend) at c.clipped-end.ensures.0 in
    let j : c.clipped.result ≡ clip q.c = rw (to_z-of_z fc) at c.clipped.ensures.0 in
    let k : c.clipped-2.result ≡ clip q.lm = rw (to_z-of_z flm) at c.clipped-2.ensures.0 in
    let m : c.caps-limits.result ≡ caps_of (clip q.c) (clip q.lm) = c.caps-limits.ensures ∙ rw (j, k) in
    decision_in_domain q a.s.now a.d c.requires e h (allocated-is q a.s.now a.d m
    c.clt_compute_allocation_read-said.ensures)
