-- `text::read::digits`: the invariant: the value so far and the digits that remain give what all digits give, and it is at most the bound, so that 64
-- bits hold it with a digit more. Assumes nothing.
use Prim.Native.Nat.{◌+◌, ◌*◌}
use mathlib.Core.Path.{◌≡◌, sym, ◌∙◌}
use native.Mathlib.Omega.{arith}
use borrow.Author.Rules.{rules}
use Rattle.text.proofs.Values.{digits-end, digits_no_digit, digits-over, digits-next}
use Rattle.text.proofs.read.digits.Goals as goal

pub returns-in_err-digit : goal.returns-in_err-digit
returns-in_err-digit c =
    let l = c.loop-b in
    let a = c.args in
    let e = c.in_err-digit.ensures in
    search rules ∙ sym (digits_no_digit a.base a.most l.v a.s.now l.b-index (omega arith) (omega arith)) ∙ l.invariant.1

pub returns-then-d-base : goal.returns-then-d-base
returns-then-d-base c =
    let l = c.loop-b in
    let a = c.args in
    let e = c.in_ok-digit.ensures.0 in
    sym (digits_no_digit a.base a.most l.v a.s.now l.b-index (omega arith) (omega arith)) ∙ l.invariant.1

pub returns-then-v-from : goal.returns-then-v-from
returns-then-v-from c =
    let l = c.loop-b in
    let a = c.args in
    let q : l.v * c.from.result + c.from-in-loop-b.result ≡ l.v * a.base + c.in_ok-digit.field-0 = cc in
    sym (digits-over a.base a.most l.v a.s.now l.b-index (omega arith) c.in_ok-digit.ensures.0 q (omega arith) (omega arith)) ∙ l.invariant.1

pub loop-b-preserved : goal.loop-b-preserved
loop-b-preserved c =
    let l = c.loop-b in
    let a = c.args in
    (omega arith, digits-next a.base a.most l.v a.s.now l.b-index (omega arith) c.in_ok-digit.ensures.0 (cc) (omega arith) ∙ l.invariant.1)

pub returns : goal.returns
returns c =
    let a = c.args in
    let l = c.loop-b in
    sym (digits-end a.base a.most l.v a.s.now l.b-index (omega arith) l.invariant.0) ∙ l.invariant.1
