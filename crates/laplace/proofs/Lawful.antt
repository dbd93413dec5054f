-- Laplace values are symbols that can be read back: what counts as written has places in order, each place finds its value, and every place
-- belongs to a value in the domain. Assumes nothing.
use Prim.Native.Nat.{ℕ, ◌≤◌, ◌<◌}
use mathlib.Core.Path.{◌≡◌, ap, ◌∙◌}
use native.Mathlib.Omega.{arith}
use lib.IntN.{ℤ}
use Rattle.modes.proofs.Laplace.{Legal}
use Rattle.entcode.proofs.Cuts.{CutOk}
use Rattle.entdec.specs.declared.Reader.{Reader}
use Rattle.entdec.specs.Read.{decoded_place}
use Rattle.entdec.proofs.Places.{place_less}
use Rattle.entdec.proofs.Found.{Owns, Found}
use Rattle.laplace.specs.declared.chain.Span.{Span}
use Rattle.laplace.specs.Chain.{locate}
use Rattle.laplace.specs.Signed.{value_in, span_z, adjusted}
use Rattle.laplace.specs.Model.{code_of, value_at, lap_model}
use Rattle.laplace.proofs.Spans.{found_proper}
use Rattle.laplace.proofs.Values.{value_code, value_proper, adjust_span, locate_span, locate-value}

module _ (fs dec : ℕ) (ok : Legal fs dec) where
  -- the places of what counts as written are those that the value was given
  pub adjust-places : (v : ℕ) → span_z (value_at ((lap_model fs dec).adjust v)) fs dec ≡ span_z (value_at v) fs dec
  adjust-places v = ap (λ (z : ℤ). span_z z fs dec) (value_code (adjusted (value_at v) fs dec)) ∙ adjust_span fs dec ok (value_at v)

  -- they are in order
  pub lap-cut : (v : ℕ) → CutOk ((lap_model fs dec).lo ((lap_model fs dec).adjust v)) ((lap_model fs dec).hi ((lap_model fs dec).adjust v)) 32768
  lap-cut v =
      let p = value_proper fs dec ok (value_at v) in
      rw (adjust-places v) (record { lt = p.some; le = p.within; ft-le = omega arith })

  -- each of them finds it
  pub lap_finds : (v f : ℕ) → (lap_model fs dec).lo ((lap_model fs dec).adjust v) ≤ f → f < (lap_model fs dec).hi ((lap_model fs dec).adjust v)
      → (lap_model fs dec).locate f ≡ (lap_model fs dec).adjust v
  lap_finds v f l u =
      ap (λ (r : Span). code_of (value_in r)) (locate_span fs dec ok (value_at v) f (rw (adjust-places v) at l) (rw (adjust-places v) at u))

  -- which has the place
  pub place_span : (f : ℕ) → f < 32768 → span_z (value_at ((lap_model fs dec).locate f)) fs dec ≡ locate f fs dec
  place_span f h = ap (λ (z : ℤ). span_z z fs dec) (value_code (value_in (locate f fs dec))) ∙ locate-value fs dec ok f h

  -- as the range coder asks it of a kind of symbol
  pub lap-owns : (f : ℕ) → f < 32768 → Owns (lap_model fs dec) ((lap_model fs dec).locate f) f
  lap-owns f h =
      let p = found_proper fs dec ok f h in
      let e = place_span f h in
      record { ok = rw e (record { lt = p.0.some; le = p.0.within; ft-le = omega arith }); from = rw e p.1; to = rw e p.2 }

  -- so any state shows a value
  pub lap-found : (d : Reader) → Found (lap_model fs dec) d
  lap-found d = lap-owns (decoded_place 32768 d) (place_less 32768 d (omega arith))
