-- `cwrs::work::energy`: from the last place backwards, e is the energy of the places from j on; 128 pulses keep every square small. Assumes nothing.
use mathlib.Core.Path.{◌≡◌, ap, ◌∙◌}
use mathlib.Core.List.{List}
use Prim.Native.Nat.{ℕ, ◌+◌, ◌-◌, ◌*◌, ◌≤◌}
use native.Mathlib.Omega.{arith}
use native.Mathlib.Nat.{mul-le-mul_right}
use lib.IntN.{ℤ, pos, nat_abs}
use lib.ListN.{get_or, take}
use lib.Seq.{slice}
use mir.Syntax.{w32}
use mir.Val.{SFits}
use mir.Facts.{to_z-of_z}
use borrow.Author.Rules.{rules}
use Rattle.cwrs.specs.Word.{energy}
use Rattle.cwrs.proofs.Words.{energy-none, energy-more, energy-le, pulses-more, pulses-drop}
use Rattle.cwrs.proofs.work.energy.Goals as goal
use Rattle.cwrs.proofs.work.energy.Goals.{After-unsigned_abs-s}

-- what a step of the loop knows: the next place's size s, and the energy with it
record Facts (y : List ℤ) (n j e s : ℕ) : Type 0 where
  pub square : s * s ≤ 16384
  pub more : energy (slice (j - 1) n y) ≡ e + s * s
  pub low : e + s * s ≤ 16384

facts : (c : After-unsigned_abs-s) → let p = c in
    Facts p.args.y.now p.args.n p.loop-j.j p.loop-j.e c.unsigned_abs-s.result
facts c =
    let l = c.loop-j in
    let y = c.args.y.now in
    let n = c.args.n in
    let r = c.unsigned_abs-s.result in
    let f : SFits w32 (get_or y (l.j - 1) (pos 0)) = search rules in
    let q : r ≡ nat_abs (get_or y (l.j - 1) (pos 0)) = c.unsigned_abs-s.ensures.value ∙ ap nat_abs (to_z-of_z f) in
    let p = pulses-more y n l.j (omega arith) (omega arith) (omega arith) in
    let d = pulses-drop (l.j - 1) (take n y) in
    let s : r ≤ 128 = omega arith in
    let m = energy-more y n l.j (omega arith) (omega arith) (omega arith) in
    let g = energy-le 128 (slice (l.j - 1) n y) (omega arith) in
    let e : energy (slice (l.j - 1) n y) ≡ l.e + r * r = omega (arith, m, ap (λ (x : ℕ). x * x) q) in
    record { square = omega (arith, mul-le-mul_right r s); more = e; low = omega arith }

pub loop-j-init : goal.loop-j-init
loop-j-init c = energy-none c.args.y.now c.args.n

pub overflow_mul-e : goal.overflow_mul-e
overflow_mul-e c = let f = facts (goal.at.overflow_mul-e c).After-unsigned_abs-s in omega arith

pub overflow_add-e : goal.overflow_add-e
overflow_add-e c = let f = facts (goal.at.overflow_add-e c).After-unsigned_abs-s in omega arith

pub loop-j-preserved : goal.loop-j-preserved
loop-j-preserved c = let f = facts (goal.at.loop-j-preserved c).After-unsigned_abs-s in omega arith

pub returns : goal.returns
returns c =
    let l = c.loop-j in
    let v = take c.args.n c.args.y.now in
    let z : l.j ≡ 0 = omega arith in
    let e : l.e ≡ energy v = l.invariant ∙ ap (λ (m : ℕ). energy (slice m c.args.n c.args.y.now)) z in
    (e, omega (arith, energy-le 128 v c.requires.2))
