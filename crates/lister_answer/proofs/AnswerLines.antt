-- The answer's lines in a buffer: fields one after the other, and bands one after the other. Assumes nothing.
use Prim.Native.Nat.{ℕ, suc, ◌+◌, ◌-◌, ◌*◌, ◌<◌, ◌≤◌}
use mathlib.Core.Path.{◌≡◌, refl, sym, ap, ◌∙◌, subst}
use mathlib.Core.List.{List, [], ◌∷◌, ◌++◌, append_assoc}
use native.Mathlib.Numerals.{add-one}
use native.Mathlib.Omega.{arith}
use lib.ListN.{length, set, length-append}
use lib.Seq.{sets}
use Rattle.text.specs.Fields.{tabbed}
use Rattle.text.specs.Written.{PlacedText}
use Rattle.text.proofs.Texts.{put-join, sets-join}
use Rattle.rate.specs.Question.{Lists}
use Rattle.lister_answer.specs.Lines.{line_end, answer_line, band_line, band_lines}

-- ---- a line

module _ {buf mid last : List ℕ} {at r q : ℕ} where
  -- a field, and those after it
  pub put-field : (a b : ℕ) (f : List ℕ) (fs : List (List ℕ)) → PlacedText a buf at (9 ∷ f) r mid → PlacedText b mid r (line_end fs) q last
      → PlacedText (a + b) buf at (line_end (f ∷ fs)) q last
  unfolding tabbed
  put-field a b f fs p s =
      subst (λ (text : List ℕ). PlacedText (a + b) buf at text q last) (ap (λ (l : List ℕ). 9 ∷ l) (sym (append_assoc f (tabbed fs) (10 ∷ []))))
      (put-join a b (9 ∷ f) (line_end fs) p s)

  -- the letter and the first field, and those after it
  pub put-line : (a b letter : ℕ) (f : List ℕ) (fs : List (List ℕ)) → PlacedText a buf at (letter ∷ 9 ∷ f) r mid → PlacedText b mid r (line_end fs) q last
      → PlacedText (a + b) buf at (answer_line letter (f ∷ fs)) q last
  unfolding answer_line tabbed
  put-line a b letter f fs p s =
      subst (λ (text : List ℕ). PlacedText (a + b) buf at text q last)
      (ap (λ (l : List ℕ). letter ∷ 9 ∷ l) (sym (append_assoc f (tabbed fs) (10 ∷ []))))
      (put-join a b (letter ∷ 9 ∷ f) (line_end fs) p s)

-- the line feed
pub put-feed : (buf : List ℕ) (at : ℕ) → PlacedText 1 buf at (line_end []) (at + 1) (set buf at 10)
unfolding tabbed
put-feed buf at = record { next = refl; bytes = refl; short = omega arith }

-- a text fits a larger bound too
pub put-more : (a b : ℕ) {buf text last : List ℕ} {at q : ℕ} → a ≤ b → PlacedText a buf at text q last → PlacedText b buf at text q last
put-more a b h p = record { next = p.next; bytes = p.bytes; short = omega arith }

-- the same text, said otherwise
pub put_as : (a b : ℕ) {buf text other last : List ℕ} {at q : ℕ} → a ≤ b → text ≡ other → PlacedText a buf at text q last → PlacedText b buf at other q last
put_as a b {buf} {text} {other} {last} {at} {q} h e p = subst (λ (x : List ℕ). PlacedText b buf at x q last) e (put-more a b h p)

-- ---- the bands

-- the lines from band j on, written from this place of this buffer on, give what all lines give written from the first place on
pub record BandsToWrite (l : Lists) (end start at₀ : ℕ) (buf₀ : List ℕ) (j at : ℕ) (buf : List ℕ) : Type 0 where
  pub same_length : length buf ≡ length buf₀
  pub next : at + length (band_lines j (end - j) l) ≡ at₀ + length (band_lines start (end - start) l)
  pub bytes : sets buf at (band_lines j (end - j) l) ≡ sets buf₀ at₀ (band_lines start (end - start) l)
  pub short : at + 49 * (end - j) ≤ at₀ + 49 * (end - start)

-- the next band's line, and those after it
bands-step : (l : Lists) (end j : ℕ) → j < end → band_lines j (end - j) l ≡ band_line j l ++ band_lines (j + 1) (end - (j + 1)) l
unfolding band_lines
bands-step l end j h =
    let e : end - j ≡ suc (end - (j + 1)) = omega arith in
    rw (e, add-one j)

-- a band's line is written
pub bands-next : (l : Lists) (end start at₀ : ℕ) (buf₀ : List ℕ) (j at : ℕ) (buf : List ℕ) {r : ℕ} {last : List ℕ} → j < end
    → BandsToWrite l end start at₀ buf₀ j at buf
    → length last ≡ length buf → PlacedText 49 buf at (band_line j l) r last → BandsToWrite l end start at₀ buf₀ (j + 1) r last
bands-next l end start at₀ buf₀ j at buf {r} {last} h i k p =
    let m : List ℕ = band_lines (j + 1) (end - (j + 1)) l in
    let e : band_lines j (end - j) l ≡ band_line j l ++ m = bands-step l end j h in
    let n : length (band_lines j (end - j) l) ≡ length (band_line j l) + length m = ap length e ∙ length-append (band_line j l) m in
    record {
      same_length = k ∙ i.same_length;
      next = omega (arith, i.next, p.next);
      bytes =
          ap (λ (x : List ℕ). sets x r m) p.bytes ∙ ap (λ (x : ℕ). sets (sets buf at (band_line j l)) x m) p.next ∙ sets-join (band_line j l) m buf at
          ∙ sym (ap (sets buf at) e) ∙ i.bytes;
      short = omega (arith, i.short, p.short);
    }

-- no line from the end on
no_bands : (l : Lists) (end j : ℕ) → end ≤ j → band_lines j (end - j) l ≡ []
unfolding band_lines
no_bands l end j h = let e : end - j ≡ 0 = omega arith in rw e

-- after the last band
pub bands-done : (l : Lists) (end start at₀ : ℕ) (buf₀ : List ℕ) (j at : ℕ) (buf : List ℕ) → end ≤ j → BandsToWrite l end start at₀ buf₀ j at buf
    → PlacedText (49 * (end - start)) buf₀ at₀ (band_lines start (end - start) l) at buf
bands-done l end start at₀ buf₀ j at buf h i =
    let e : band_lines j (end - j) l ≡ [] = no_bands l end j h in
    let n : length (band_lines j (end - j) l) ≡ 0 = ap length e in
    record { next = omega (arith, i.next); bytes = sym (ap (sets buf at) e) ∙ i.bytes; short = omega (arith, i.short) }

-- R and the bands after it
pub put-head-bands : (a b : ℕ) (xs ys : List ℕ) {buf mid last : List ℕ} {at r q : ℕ} → a + b ≤ 1200 → PlacedText a buf at xs r mid
    → PlacedText b mid r ys q last
    → PlacedText 1200 buf at (xs ++ ys) q last
put-head-bands a b xs ys h p s = put-more (a + b) 1200 h (put-join a b xs ys p s)
