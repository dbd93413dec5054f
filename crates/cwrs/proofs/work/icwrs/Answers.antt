-- `cwrs::work::icwrs`: from the last place backwards, i is the number of the places from j on; it stays below the count. Assumes nothing.
use mathlib.Core.Path.{◌≡◌, ap, ◌∙◌, refl}
use Prim.Native.Nat.{◌-◌}
use native.Mathlib.Omega.{arith}
use lib.IntN.{ℤ, pos, nat_abs}
use mathlib.Core.Bool.{true, false}
use lib.ListN.{get_or}
use mir.Syntax.{w32}
use mir.Val.{SFits, to_z, of_z}
use Rattle.laws.specs.Signs.{is_neg}
use mir.Facts.{to_z-of_z}
use borrow.Author.Rules.{rules}
use Rattle.cwrs.proofs.Words.{pulses-none, index-none, NextPlace, next_place}
use Rattle.cwrs.proofs.work.icwrs.Goals as goal
use Rattle.cwrs.proofs.work.icwrs.Goals.{After-unsigned_abs, In-loop-j}

-- one more place, before its size is known
first : (c : In-loop-j) → let a = c.args in let l = c.loop-j in
    NextPlace a.y.now a.n l.j l.k l.i (nat_abs (get_or a.y.now (l.j - 1) (pos 0)))
first c =
    let l = c.loop-j in
    next_place c.args.y.now c.args.n l.j l.k l.i _ (omega arith) (omega arith) c.requires.0 c.requires.2 c.requires.3 l.invariant.0
    l.invariant.1 refl

abbrev place : After-unsigned_abs → ℤ
place c =
    get_or c.args.y.now (c.loop-j.j - 1) (pos 0)

held : (c : After-unsigned_abs) → SFits w32 (place c)
held c = search rules

-- and with it
second : (c : After-unsigned_abs) → NextPlace c.args.y.now c.args.n c.loop-j.j c.loop-j.k c.loop-j.i c.unsigned_abs.result
second c =
    let l = c.loop-j in
    next_place c.args.y.now c.args.n l.j l.k l.i c.unsigned_abs.result (omega arith) (omega arith) c.requires.0 c.requires.2
    c.requires.3 l.invariant.0 l.invariant.1 (c.unsigned_abs.ensures.value ∙ ap nat_abs (to_z-of_z (held c)))

-- the number with a negative place, and with any other
below : (c : After-unsigned_abs) → is_neg (to_z w32 (of_z w32 (place c))) ≡ true → is_neg (place c) ≡ true
below c h = rw (to_z-of_z (held c)) at h

above : (c : After-unsigned_abs) → is_neg (to_z w32 (of_z w32 (place c))) ≡ false → is_neg (place c) ≡ false
above c h = rw (to_z-of_z (held c)) at h

pub loop-j-init : goal.loop-j-init
loop-j-init c = (pulses-none c.args.y.now c.args.n, index-none c.args.y.now c.args.n)

pub pvq_u-i-requires : goal.pvq_u-i-requires
pvq_u-i-requires c = let t = first (goal.at.pvq_u-i-requires c).In-loop-j in omega arith

pub overflow_add-i : goal.overflow_add-i
overflow_add-i c = let t = first (goal.at.overflow_add-i c).In-loop-j in omega arith

pub overflow_add-k : goal.overflow_add-k
overflow_add-k c = let t = second (goal.at.overflow_add-k c).After-unsigned_abs in omega arith

pub overflow_add-k-then-v-lt0 : goal.overflow_add-k-then-v-lt0
overflow_add-k-then-v-lt0 c = let t = second (goal.at.overflow_add-k-then-v-lt0 c).After-unsigned_abs in omega arith

pub pvq_u-i-requires-then-v-lt0 : goal.pvq_u-i-requires-then-v-lt0
pvq_u-i-requires-then-v-lt0 c = let t = second (goal.at.pvq_u-i-requires-then-v-lt0 c).After-unsigned_abs in
    omega (arith, t.neg (below (goal.at.pvq_u-i-requires-then-v-lt0 c).After-unsigned_abs c.if-v-lt0.true))

pub overflow_add-i-then-v-lt0 : goal.overflow_add-i-then-v-lt0
overflow_add-i-then-v-lt0 c = let t = second (goal.at.overflow_add-i-then-v-lt0 c).After-unsigned_abs in
    omega (arith, t.neg (below (goal.at.overflow_add-i-then-v-lt0 c).After-unsigned_abs c.if-v-lt0.true))

pub loop-j-preserved-then-v-lt0 : goal.loop-j-preserved-then-v-lt0
loop-j-preserved-then-v-lt0 c = let t = second (goal.at.loop-j-preserved-then-v-lt0 c).After-unsigned_abs in
    omega (arith, t.neg (below (goal.at.loop-j-preserved-then-v-lt0 c).After-unsigned_abs c.if-v-lt0.true))

pub loop-j-preserved : goal.loop-j-preserved
loop-j-preserved c = let t = second (goal.at.loop-j-preserved c).After-unsigned_abs in
    omega (arith, t.plain (above (goal.at.loop-j-preserved c).After-unsigned_abs c.if-v-lt0.false))
