-- One band of the loop over the coded bands. Assumes nothing.
use Prim.Native.Nat.{ℕ, suc, ◌+◌, ◌-◌, ◌*◌, ◌^◌, ◌≤◌, ◌<◌}
use mathlib.Core.Bool.{Bool}
use mathlib.Core.List.{List, []}
use mathlib.Core.Path.{◌≡◌, ap, sym, ◌∙◌}
use native.Mathlib.Numerals.{add-one}
use native.Mathlib.Omega.{arith}
use lib.ListN.{get_or}
use Rattle.modes.specs.Edges.{edge, width}
use Rattle.modes.specs.LogWidths.{log_width}
use Rattle.modes.proofs.EdgeRule.{edge-le}
use Rattle.rate_spec.specs.Types.{Band}
use Rattle.rate_spec.specs.Alloc.{carried, degrees, split_band, spread}
use Rattle.rate_spec.specs.Skips.{width_up_to}
use Rattle.rate_spec.specs.Split.{split_of}
use Rattle.rate_spec.proofs.Bands.{fair}
use Rattle.rate_spec.proofs.Bounds.{split-le}
use Rattle.rate_spec.proofs.Loops.{carried-up}
use Rattle.rate_bands.specs.Inputs.{alloc_in}
use Rattle.rate_bands.specs.declared.AllocCounts.{AllocCounts}
use Rattle.rate_split.specs.declared.BandSplit.{BandSplit}
use Rattle.rate_split.specs.declared.Share.{Share}
use Rattle.rate_split.specs.Splits.{as_band, degrees_of, share_of, with_share}
use Rattle.rate_split.specs.Bands.{carried_at, coded_at, SplitIn}

-- before the first band nothing is handed on
pub carried_none : (f : AllocCounts) (caps bits : List ℕ) (coded left intensity : ℕ) (dual : Bool)
    → 0 ≡ carried_at f caps bits coded left intensity dual (f.start - f.start)
unfolding carried
carried_none f caps bits coded left intensity dual = let e : f.start - f.start ≡ 0 = omega arith in rw e

-- p is the part of the coded band j, with what it hands on, and its figures are small
pub record CodedPart (f : AllocCounts) (caps bits : List ℕ) (coded left intensity : ℕ) (dual : Bool) (j : ℕ) (p : BandSplit) : Type 0 where
  pub part-is : as_band p ≡ coded_at f caps bits coded left intensity dual j
  pub next : p.balance ≡ carried_at f caps bits coded left intensity dual (j + 1 - f.start)
  pub pulses-le : p.pulses ≤ 81600
  pub fine_le : p.fine ≤ 8

module _ (f : AllocCounts) (caps bits : List ℕ) (coded left intensity : ℕ) (dual : Bool) (o : SplitIn f bits coded left) (j : ℕ) (low : f.start ≤ j)
    (high : j < coded)
    {g : Share} {lo hi balance : ℕ} (g-is : g ≡ share_of f.start coded left) (lo-is : lo ≡ edge j) (hi-is : hi ≡ edge (j + 1))
    (balance-is : balance ≡ carried_at f caps bits coded left intensity dual (j - f.start)) where
  hi-next : hi ≡ edge (suc j)
  hi-next = hi-is ∙ ap edge (add-one j)

  -- the band does not begin below the first
  pub above-first : g.first ≤ lo
  above-first = rw (g-is, lo-is) (edge-le f.start j low (omega (arith, o.coded-le, o.frame.end-le)))

  spread-is : with_share g (get_or bits j 0) lo hi ≡ spread (alloc_in f [] caps) (λ j. get_or bits j 0) coded left j
  unfolding spread width_up_to width
  spread-is = rw (g-is, lo-is, hi-next)

  spread-within : spread (alloc_in f [] caps) (λ j. get_or bits j 0) coded left j + carried_at f caps bits coded left intensity dual (j - f.start) ≤ 81600
  spread-within =
      let e : f.start + (j - f.start) ≡ j = omega arith in
      let h =
      split-le (alloc_in f [] caps) o.frame.c_low (λ j. get_or bits j 0) coded left intensity dual o.start-lt (omega (arith, o.coded-le, o.frame.end-le))
      (j - f.start)
      (omega arith) in
      omega (arith, rw e at h, o.within)

  -- what it has to split is part of the total
  pub within : with_share g (get_or bits j 0) lo hi + balance ≤ 81600
  within = rw (spread-is, balance-is) spread-within

  -- the split of what it has is its part
  pub coded-part : {p : BandSplit}
      → as_band p
      ≡ split_of f.c ((hi - lo) * 2 ^ f.lm) (degrees_of f.c ((hi - lo) * 2 ^ f.lm) intensity dual j) (log_width j + 8 * f.lm) (get_or caps j 0)
      (with_share g (get_or bits j 0) lo hi + balance) balance
      → CodedPart f caps bits coded left intensity dual j p
  unfolding split_band degrees width
  coded-part {p} e =
      let a = alloc_in f [] caps in
      let had : ℕ → ℕ = λ j. get_or bits j 0 in
      let q : as_band p ≡ coded_at f caps bits coded left intensity dual j = rw (← balance-is, ← spread-is, ← hi-next, ← lo-is) e in
      let w = fair a o.frame.c_low had coded left intensity dual j (carried_at f caps bits coded left intensity dual (j - f.start)) in
      record {
        part-is = q;
        next = ap (λ (b : Band). b.balance) q ∙ sym (carried-up a j low had coded left intensity dual);
        pulses-le = omega (arith, ap (λ (b : Band). b.pulses) q, w.whole, spread-within);
        fine_le = omega (arith, ap (λ (b : Band). b.fine) q, w.fine_le);
      }
