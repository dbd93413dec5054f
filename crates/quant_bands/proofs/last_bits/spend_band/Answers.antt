-- `quant_bands::last_bits::spend_band`: by whether the band takes bits, and by its channels. Assumes nothing.
use mathlib.Core.Path.{◌≡◌}
use mathlib.Core.Bool.{true}
use native.Mathlib.Omega.{arith}
use lib.IntN.{pos}
use lib.ListN.{get_or}
use mir.Syntax.{w32}
use mir.Val.{SFits}
use mir.Facts.{to_z-of_z}
use borrow.Author.Rules.{rules}
use Rattle.quant_bands.specs.Finalise.{spending, takes_bit}
use Rattle.quant_bands.specs.Question.{count_at}
use Rattle.quant_bands.proofs.Spent.{spend_then, takes_so, band-skipped, band_mono, band-stereo}
use Rattle.quant_bands.proofs.last_bits.spend_band.Goals as goal
use Rattle.quant_bands.proofs.last_bits.spend_band.Goals.{After-clipped-f, After-clipped-p, Then-f-p}

-- the band's fine bits and its priority
fine-is : (c : After-clipped-f) → let a = c.args in c.clipped-f.result ≡ count_at a.fine.now a.i
fine-is c =
    let f : SFits w32 (get_or c.args.fine.now c.args.i (pos 0)) = search rules in
    rw (to_z-of_z f) at c.clipped-f.ensures.0

priority-is : (c : After-clipped-p) → let a = c.args in c.clipped-p.result ≡ count_at a.priorities.now a.i
priority-is c =
    let f : SFits w32 (get_or c.args.priorities.now c.args.i (pos 0)) = search rules in
    rw (to_z-of_z f) at c.clipped-p.ensures.0

taking : (c : Then-f-p) → let a = c.args in takes_bit a.c a.pass c.clipped-f.result c.clipped-p.result a.g.left ≡ true
unfolding takes_bit
taking c = c.if-f-p.true

pub returns-then-c-lt2 : goal.returns-then-c-lt2
returns-then-c-lt2 c =
    let a = c.args in
    let k = goal.at.returns-then-c-lt2 c in
    band_mono a.c a.pass (count_at a.fine.now) (count_at a.priorities.now) a.s.now a.i (spending a.e.now a.g.left a.g.next) (fine-is k.After-clipped-f)
    (priority-is k.After-clipped-p) (taking k.Then-f-p) c.spend-y.ensures c.if-c-lt2.true

pub spend-requires : goal.spend-requires
spend-requires c =
    let a = c.args in
    let s = takes_so _ _ _ _ _ (taking (goal.at.spend-requires c).Then-f-p) in
    let r = spend_then 1 c.clipped-f.result a.s.now a.i (spending a.e.now a.g.left a.g.next) c.requires.ready c.spend-y.ensures in record {
      k_in_bounds = (omega (arith, c.requires.e_len, c.spend-y.auto.e), s.0, omega (arith, s.1, c.if-c-lt2.false, r.0));
      ready = r.1;
    }

pub returns-then-f-p : goal.returns-then-f-p
returns-then-f-p c =
    let a = c.args in
    let k = goal.at.returns-then-f-p c in
    band-stereo a.c a.pass (count_at a.fine.now) (count_at a.priorities.now) a.s.now a.i (spending a.e.now a.g.left a.g.next)
    (fine-is k.After-clipped-f) (priority-is k.After-clipped-p) (taking k.Then-f-p) c.spend-y.ensures c.if-c-lt2.false c.spend.ensures

pub returns : goal.returns
unfolding takes_bit
returns c =
    let a = c.args in
    let k = goal.at.returns c in
    band-skipped a.c a.pass (count_at a.fine.now) (count_at a.priorities.now) a.s.now a.i (spending a.e.now a.g.left a.g.next)
    (fine-is k.After-clipped-f) (priority-is k.After-clipped-p) c.if-f-p.false
