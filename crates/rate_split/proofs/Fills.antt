-- A list filled in two parts, first the coded bands and then the skipped ones. Assumes nothing.
use Prim.Native.Nat.{ℕ, zero, suc, ◌+◌, ◌-◌, ◌≤◌, ◌<◌}
use mathlib.Core.Bool.{Bool}
use mathlib.Core.List.{List, []}
use mathlib.Core.Path.{◌≡◌, refl, ap, sym, ◌∙◌}
use native.Mathlib.Omega.{arith}
use lib.ListN.{get_or, set, take, drop}
use lib.Seq.{get_or-take, get_or-drop}
use Rattle.laws.specs.Lists.{fill}
use Rattle.laws.proofs.Lists.{fill-same, fill-up}
use Rattle.rate_spec.specs.Alloc.{skipped}
use Rattle.rate_spec.proofs.Loops.{band-coded, band-skipped}
use Rattle.rate_bands.specs.Inputs.{alloc_in, bare}
use Rattle.rate_bands.specs.declared.AllocCounts.{AllocCounts}
use Rattle.rate_split.specs.Bands.{band_at, coded_at}
use Rattle.rate_split.specs.Lent.{SameLists}
use Rattle.rate_split.specs.declared.Lists.{Lists}

module _ {A : Type 0} where
  fill_more : (h : ℕ → A) (mid m : ℕ) (l : List A) → fill h mid (suc m) l ≡ set (fill h mid m l) (mid + m) (h (mid + m))
  fill_more h mid m l =
      let e : mid + m - mid ≡ m = omega arith in
      let g : mid + m + 1 - mid ≡ suc m = omega arith in
      rw (e, g) at (sym (fill-up h mid (mid + m) l {b = fill h mid (mid + m - mid) l} {r = h (mid + m)} (omega arith) refl refl))

  fill_append : (h : ℕ → A) (start mid m : ℕ) (l : List A) → start ≤ mid → fill h mid m (fill h start (mid - start) l) ≡ fill h start (mid + m - start) l
  unfolding fill
  fill_append h start mid zero l s = let e : mid + 0 - start ≡ mid - start = omega arith in rw e
  fill_append h start mid (suc m) l s =
      let e : mid + suc m - start ≡ mid + m + 1 - start = omega arith in
      fill_more h mid m (fill h start (mid - start) l)
      ∙ fill-up h start (mid + m) l (omega arith) (fill_append h start mid m l s) refl
      ∙ ap (λ (n : ℕ). fill h start n l) (sym e)

  -- filled with f below mid and with g from it on, where both are h there
  pub fill_parts : (f g h : ℕ → A) (start mid end : ℕ) (l : List A) {u v : List A} → start ≤ mid → mid ≤ end
      → ((i : ℕ) → i < mid → f i ≡ h i) → ((i : ℕ) → mid ≤ i → i < end → g i ≡ h i)
      → u ≡ fill f start (mid - start) l → v ≡ fill g mid (end - mid) u → v ≡ fill h start (end - start) l
  fill_parts f g h start mid end l s t p q x y =
      let e : mid + (end - mid) - start ≡ end - start = omega arith in
      y
      ∙ fill-same g h (end - mid) mid _ (λ i b c. q i b (omega arith))
      ∙ ap (fill h mid (end - mid)) (x ∙ fill-same f h (mid - start) start l (λ i b c. p i (omega arith)))
      ∙ fill_append h start mid (end - mid) l s
      ∙ ap (λ (n : ℕ). fill h start n l) e

module _ (f : AllocCounts) (caps bits : List ℕ) (coded left intensity : ℕ) (dual : Bool) (kept : List ℕ) (j : ℕ) where
  -- below `coded`
  pub coded-is : j < coded → coded_at f caps bits coded left intensity dual j ≡ band_at f caps bits coded left intensity dual kept j
  coded-is h = sym (band-coded (alloc_in f [] caps) (λ j. get_or bits j 0) coded left intensity dual _ j h)

  -- from `coded` on
  pub skipped-is : coded ≤ j → j < f.end → skipped (bare f) (get_or kept j 0) ≡ band_at f caps bits coded left intensity dual kept j
  unfolding skipped
  skipped-is h g =
      let e : coded + (j - coded) ≡ j = omega arith in
      let i : j - coded < f.end - coded = omega arith in
      let k : get_or (take (f.end - coded) (drop coded kept)) (j - coded) 0 ≡ get_or kept j 0 = rw (get_or-take, get_or-drop, e) in
      sym (rw k at (band-skipped (alloc_in f [] caps) (λ j. get_or bits j 0) coded left intensity dual (take (f.end - coded) (drop coded kept)) j h))

-- from step to step the lists stay the same three
pub lent_next : {a b c : Lists} → SameLists a b → SameLists b c → SameLists a c
lent_next p q =
    record {
      pulses_are = p.pulses_are ∙ q.pulses_are;
      fine_are = p.fine_are ∙ q.fine_are;
      priorities_are = p.priorities_are ∙ q.priorities_are;
    }
