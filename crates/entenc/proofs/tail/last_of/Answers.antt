-- `entenc::tail::last_of`: the two roundings stay below 2^32, and the test between them is the definition's. Assumes nothing.
use mathlib.Core.Path.{◌∙◌}
use native.Mathlib.Omega.{arith}
use Rattle.entenc.proofs.Tails.{rounds, tail_more, tail_same}
use Rattle.entenc.proofs.tail.last_of.Goals as goal

pub round_up-e-requires : goal.round_up-e-requires
round_up-e-requires c =
    let a = c.args in
    let h = rounds a.val a.rng c.requires.0 c.requires.1 in
    (omega arith, omega arith)

pub overflow_sub-val : goal.overflow_sub-val
overflow_sub-val c =
    let a = c.args in
    let h = rounds a.val a.rng c.requires.0 c.requires.1 in
    omega arith

pub overflow_sub-m-then-val-rng : goal.overflow_sub-m-then-val-rng
overflow_sub-m-then-val-rng c =
    let a = c.args in
    let h = rounds a.val a.rng c.requires.0 c.requires.1 in
    omega arith

pub round_up-h-requires : goal.round_up-h-requires
round_up-h-requires c =
    let a = c.args in
    let h = rounds a.val a.rng c.requires.0 c.requires.1 in
    (omega arith, omega arith)

pub returns-then-val-rng : goal.returns-then-val-rng
returns-then-val-rng c =
    let a = c.args in
    let h = rounds a.val a.rng c.requires.0 c.requires.1 in
    let t = tail_more a.val a.rng (omega arith) in
    (t.0, c.round_up-h.ensures ∙ t.1)

pub returns-else-val-rng : goal.returns-else-val-rng
returns-else-val-rng c =
    let a = c.args in
    let h = rounds a.val a.rng c.requires.0 c.requires.1 in
    let t = tail_same a.val a.rng (omega arith) in
    (t.0, c.round_up-e.ensures ∙ t.1)
