-- Texts that are written one after the other, each after a tab. Assumes nothing.
use Prim.Native.Nat.{ℕ, zero, suc, ◌+◌, ◌*◌, ◌<◌}
use mathlib.Core.Path.{◌≡◌, refl, sym, ap, ◌∙◌}
use mathlib.Core.List.{List, [], ◌∷◌, ◌++◌, map, append_assoc, append-nil}
use native.Mathlib.Numerals.{add-one}
use native.Mathlib.Omega.{arith}
use lib.ListN.{length, get_or, take}
use Rattle.text.specs.Fields.{tabbed}
use Rattle.text.specs.Written.{PlacedText}
use Rattle.text.proofs.Texts.{put-join}

-- f is the text of a thing, d a thing that stands past the end of a list, and `most` how many bytes a text and its tab may have
module _ {A : Type 0} (f : A → List ℕ) (d : A) (most : ℕ) where
  -- each text after a tab
  abbrev pub texts : List A → List ℕ
  texts l = tabbed (map f l)

  -- one more
  more : (l : List A) (k : ℕ) → k < length l → texts (take (suc k) l) ≡ texts (take k l) ++ (9 ∷ f (get_or l k d))
  unfolding tabbed
  more [] k h = absurd (omega arith)
  more (x ∷ l) zero h = ap (λ (t : List ℕ). 9 ∷ t) (append-nil (f x))
  more (x ∷ l) (suc k) h =
      ap (λ (t : List ℕ). 9 ∷ f x ++ t) (more l k (omega arith))
      ∙ ap (λ (t : List ℕ). 9 ∷ t) (sym (append_assoc (f x) (texts (take k l)) (9 ∷ f (get_or l k d))))

  -- before the first
  pub put-none : (l : List A) (buf : List ℕ) (at : ℕ) → PlacedText (most * 0) buf at (texts (take 0 l)) at buf
  unfolding tabbed
  put-none l buf at = record { next = omega arith; bytes = refl; short = omega arith }

  -- one text more
  pub put_next : (l : List A) (buf : List ℕ) (at k : ℕ) {mid last : List ℕ} {r q : ℕ} → k < length l
      → PlacedText (most * k) buf at (texts (take k l)) r mid → PlacedText most mid r (9 ∷ f (get_or l k d)) q last
      → PlacedText (most * (k + 1)) buf at (texts (take (k + 1) l)) q last
  put_next l buf at k h p w =
      let e : most * (k + 1) ≡ most * k + most = omega arith in
      rw (e, add-one k, more l k h) (put-join (most * k) most (texts (take k l)) (9 ∷ f (get_or l k d)) p w)
