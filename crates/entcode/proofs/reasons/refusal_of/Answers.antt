-- `entcode::reasons::refusal_of`: each return is one case of the definition. Assumes nothing.
use Rattle.std.proofs.Common.{rules}
use mathlib.Core.Path.{sym, ◌∙◌}
use Rattle.entcode.specs.Refusal.{refusal}
use Rattle.entcode.proofs.reasons.refusal_of.Goals as goal

pub returns-then-not-lengths : goal.returns-then-not-lengths
unfolding refusal
returns-then-not-lengths c = search rules

pub returns-then-not-numbers : goal.returns-then-not-numbers
unfolding refusal
returns-then-not-numbers c = search rules

pub returns-then-not-lists : goal.returns-then-not-lists
unfolding refusal
returns-then-not-lists c = search rules

pub returns-then-not-accepts : goal.returns-then-not-accepts
unfolding refusal
returns-then-not-accepts c k =
    let some = sym k.accepts.ensures ∙ k.if-not-accepts.true in
    simp (k.if-not-lengths.false, k.if-not-numbers.false, k.if-not-lists.false, some)

pub returns : goal.returns
unfolding refusal
returns c k =
    let none = sym k.accepts.ensures ∙ k.if-not-accepts.false in
    simp (k.if-not-lengths.false, k.if-not-numbers.false, k.if-not-lists.false, none) k.last_two.ensures
