-- The lister's text: an answer is added to it, and the whole is `lister_output`. Assumes nothing.
use Prim.Native.Nat.{ℕ, suc, ◌+◌, ◌-◌, ◌<◌, ◌≤◌}
use mathlib.Core.Path.{◌≡◌, refl, sym, ap, ◌∙◌}
use mathlib.Core.Bool.{Bool, true, false, cond}
use mathlib.Core.List.{List, [], ◌∷◌, ◌++◌, map, append-nil, append_assoc}
use mathlib.Core.Logic.{⊎_elim}
use native.Mathlib.Nat.{eq-or-lt_of_le}
use native.Mathlib.Numerals.{add-one}
use native.Mathlib.Omega.{arith}
use lib.ListN.{length, take, drop, length-drop}
use lib.Seq.{sets-eq, take-append-add, take-append_seam, length-take-le}
use Rattle.text.specs.Written.{PlacedText}
use Rattle.text.specs.Lines.{lines_of, cut_to}
use Rattle.lister_answer.specs.Answer.{listing_of_line}
use Rattle.lister_answer.proofs.Answers.{cut-listing}
use Rattle.tool_lines.specs.Tool.{text_of_lines, text_of}
use Rattle.lister.specs.Stream.{lister, answers, lister_output, TextIsOutput}

-- an answer is added to the text
pub added : (out part last post L : List ℕ) (at : ℕ) {n : ℕ} → at + 1200 ≤ length out → part ≡ take (length out - at) (drop at out)
    → PlacedText 1200 part 0 L n last
    → (take (at + n) (take at out ++ (last ++ post)) ≡ take at out ++ L) × (at + n ≤ at + 1200)
added out part last post L at {n} h e p =
    let k : length (take at out) ≡ at = length-take-le at out (omega arith) in
    let d : length (drop at out) ≡ length out - at = length-drop at out in
    let w : length part ≡ length out - at = ap length e ∙ length-take-le (length out - at) (drop at out) (omega arith) in
    let m : n ≡ length L = p.next ∙ (omega arith) in
    let x : last ≡ L ++ drop (0 + length L) part = p.bytes ∙ sets-eq L part 0 (omega (arith, p.short)) in (
      sym (ap (λ (j : ℕ). take (j + n) (take at out ++ (last ++ post))) k) ∙ take-append-add (take at out) (last ++ post) n
          ∙ ap (λ (l : List ℕ). take at out ++ l)
          (ap (λ (l : List ℕ). take n (l ++ post)) x ∙ ap (take n) (append_assoc L (drop (0 + length L) part) post)
          ∙ ap (λ (j : ℕ). take j (L ++ (drop (0 + length L) part ++ post))) m ∙ take-append_seam L (drop (0 + length L) part ++ post)),
      omega (arith, p.short),
    )

-- a number of 32 bits that is not the last one
pub not_last : (n : ℕ) → n < 4294967296 → (n ≡ 4294967295 → ⊥) → n < 4294967295
not_last n h g = ⊎_elim (λ (e : n ≡ 4294967295). absurd (g e)) (λ (l : n < 4294967295). l) (eq-or-lt_of_le {n = n} {m = 4294967295} (omega arith))

-- with no last text
pub no_last : {A B : List ℕ} (o : Bool) → A ≡ B → A ≡ B ++ cond o [] []
no_last {A} {B} true e = e ∙ sym (append-nil B)
no_last {A} {B} false e = e ∙ sym (append-nil B)

-- the number as the code and as the definition write it
pub numbered : {A : List ℕ} (B l : List ℕ) (n : ℕ) → A ≡ B ++ listing_of_line (n + 1) l → A ≡ B ++ listing_of_line (suc n) l
numbered B l n e = e ∙ ap (λ (k : ℕ). B ++ listing_of_line k l) (add-one n)

-- ---- the whole

-- what is cut off a line does not change its answer
cut-lines-same : (n : ℕ) (ls : List (List ℕ)) → text_of_lines lister n (map (cut_to 2601) ls) ≡ answers n ls
unfolding text_of_lines answers
cut-lines-same n [] = refl
cut-lines-same n (l ∷ ls) = rw (cut-listing (suc n) l, cut-lines-same (suc n) ls)

-- line by line
pub text-is-output : TextIsOutput
unfolding text_of lister_output
text-is-output s = cut-lines-same 0 (lines_of s)
