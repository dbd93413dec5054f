-- The lines of a stream do not depend on where its blocks end, and are its parts between line feeds. Assumes nothing.
use Prim.Native.Nat.{ℕ, zero, suc, ◌+◌, ◌<◌, ◌≤◌}
use mathlib.Core.Path.{◌≡◌, refl, sym, ap, ◌∙◌}
use mathlib.Core.Bool.{Bool, true, false, cond}
use mathlib.Core.List.{List, [], ◌∷◌, ◌++◌, map, append-nil, append_assoc}
use native.Mathlib.Numerals.{add-one}
use native.Mathlib.Omega.{arith}
use lib.Dec.{ltb, eqb}
use lib.ListN.{length, get_or, take, drop, set, length-append}
use lib.Seq.{take_all, take-append-le, take-suc-set, length-take-le}
use borrow.Author.Tests.{ltb-true, ltb-false, lt-ltb, le-ltb, eq-eqb, ne_eqb}
use Rattle.laws.proofs.Lists.{drop-next}
use Rattle.text.specs.Fields.{glue, separated}
use Rattle.text.proofs.FieldLaws.{separated-some}
use Rattle.text.specs.declared.lines.Filling.{Filling}
use Rattle.text.specs.Lines.{no_empty_last, lines_of, cut_to, push_of, kept_after_byte, kept_after, ended, lines_ended, last_of, Filled}

-- ---- what does not depend on how much is kept

-- lines after those that a line feed ends
ended-join : (k : List ℕ) (b : ℕ) (ls ms : List (List ℕ)) → ended k b (ls ++ ms) ≡ ended k b ls ++ ms
ended-join k b ls ms = go (eqb b 10)
  where
    go : (x : Bool) → cond x (k ∷ (ls ++ ms)) (ls ++ ms) ≡ cond x (k ∷ ls) ls ++ ms
    go true = refl
    go false = refl

-- k before the first of the parts
abbrev glue_all : List ℕ → List (List ℕ) → List (List ℕ)
glue_all k [] = k ∷ []
glue_all k (f ∷ fs) = (k ++ f) ∷ fs

-- nothing before the first part
glue-all-none : (fs : List (List ℕ)) → 0 < length fs → glue_all [] fs ≡ fs
glue-all-none [] h = absurd (omega arith)
glue-all-none (f ∷ fs) h = refl

-- one byte more before it
glue-all-more : (k : List ℕ) (b : ℕ) (fs : List (List ℕ)) → glue_all (k ++ b ∷ []) fs ≡ glue_all k (glue b fs)
unfolding glue
glue-all-more k b [] = refl
glue-all-more k b (f ∷ fs) = ap (λ (q : List ℕ). q ∷ fs) (append_assoc k (b ∷ []) f)

-- before an empty part
glue-all-empty : (k : List ℕ) (fs : List (List ℕ)) → glue_all k ([] ∷ fs) ≡ k ∷ fs
glue-all-empty k fs = ap (λ (q : List ℕ). q ∷ fs) (append-nil k)

-- the last line, after the others
last-join : (ls : List (List ℕ)) (k : List ℕ) → ls ++ last_of k ≡ no_empty_last (ls ++ k ∷ [])
unfolding no_empty_last
last-join [] k = refl
last-join (l ∷ []) k = one l k
  where
    one : (l k : List ℕ) → l ∷ last_of k ≡ no_empty_last (l ∷ k ∷ [])
    one l k = refl
last-join (l ∷ m ∷ ls) k = ap (λ (r : List (List ℕ)). l ∷ r) (last-join (m ∷ ls) k)

-- nothing of nothing
take_none : (n : ℕ) → take {A = ℕ} n [] ≡ []
take_none zero = refl
take_none (suc n) = refl

-- of a line with a byte a byte is kept
last-cut : (n b : ℕ) (l : List ℕ) → 0 < n → no_empty_last (take n (b ∷ l) ∷ []) ≡ take n (b ∷ l) ∷ []
unfolding no_empty_last
last-cut zero b l h = absurd (omega arith)
last-cut (suc n) b l h = refl

-- what follows in a block gives the lines, and the line at its end, that the whole gives
pub record SameLines (most : ℕ) (k s m t : List ℕ) : Type 0 where
  pub lines : lines_ended most k s ≡ lines_ended most m t
  pub kept : kept_after most k s ≡ kept_after most m t

module _ (most : ℕ) where
  -- ---- blocks one after the other

  -- what is kept after two parts
  kept-join : (k s t : List ℕ) → kept_after most k (s ++ t) ≡ kept_after most (kept_after most k s) t
  unfolding kept_after
  kept-join k [] t = refl
  kept-join k (b ∷ s) t = kept-join (kept_after_byte most k b) s t

  -- the lines that end in two parts
  ended-lines-join : (k s t : List ℕ) → lines_ended most k (s ++ t) ≡ lines_ended most k s ++ lines_ended most (kept_after most k s) t
  unfolding lines_ended kept_after
  ended-lines-join k [] t = refl
  ended-lines-join k (b ∷ s) t = ap (ended k b) (ended-lines-join (kept_after_byte most k b) s t)
      ∙ ended-join k b (lines_ended most (kept_after_byte most k b) s)
      (lines_ended most (kept_after most (kept_after_byte most k b) s) t)

  -- ---- for the code

  -- a byte in a buffer that has room
  pub push-room : (l : List ℕ) (n b : ℕ) → n < length l → n < most → take (n + 1) (set l n b) ≡ push_of most (take n l) b
  unfolding push_of
  push-room l n b h k =
      let e : length (take n l) ≡ n = length-take-le n l (omega arith) in
      rw (e, lt-ltb n most k, add-one) (take-suc-set l n b h)

  -- and in one that is full
  pub push_full : (l : List ℕ) (n b : ℕ) → n ≤ length l → most ≤ n → take n l ≡ push_of most (take n l) b
  unfolding push_of
  push_full l n b h k =
      let e : length (take n l) ≡ n = length-take-le n l h in
      rw (e, le-ltb n most k)

  -- a byte that is no line feed goes on the line
  byte-kept : (k : List ℕ) (b : ℕ) (t : List ℕ) → (b ≡ 10 → ⊥) → SameLines most (push_of most k b) t k (b ∷ t)
  unfolding lines_ended kept_after
  byte-kept k b t e = record { lines = rw (ne_eqb b 10 e); kept = rw (ne_eqb b 10 e) }

  -- a turn of the loop that fills a line
  pub same-after-byte : (k m s : List ℕ) (i at : ℕ) {x : List ℕ} {room : ℕ} → x ≡ push_of room k (get_or s i 0) → room ≡ most → i < length s
      → (get_or s i 0 ≡ 10 → ⊥)
      → SameLines most k (drop i s) m (drop at s)
      → SameLines most x (drop (i + 1) s) m (drop at s)
  same-after-byte k m s i at {x} {room} ex er h e p =
      let xs : x ≡ push_of most k (get_or s i 0) = ex ∙ ap (λ (n : ℕ). push_of n k (get_or s i 0)) er in
      let q = byte-kept k (get_or s i 0) (drop (i + 1) s) e in
      let d : drop i s ≡ get_or s i 0 ∷ drop (i + 1) s = drop-next s i 0 h in
      record {
        lines = ap (λ (l : List ℕ). lines_ended most l (drop (i + 1) s)) xs ∙ q.lines ∙ sym (ap (lines_ended most k) d) ∙ p.lines;
        kept = ap (λ (l : List ℕ). kept_after most l (drop (i + 1) s)) xs ∙ q.kept ∙ sym (ap (kept_after most k) d) ∙ p.kept;
      }

  -- a line feed ends the line, and nothing is kept
  line-ends : (k : List ℕ) (b : ℕ) (t : List ℕ) → b ≡ 10
      → (lines_ended most k (b ∷ t) ≡ k ∷ lines_ended most [] t) × (kept_after most k (b ∷ t) ≡ kept_after most [] t)
  unfolding lines_ended kept_after
  line-ends k b t e = rw (eq-eqb b 10 e) (refl, refl)

  -- the line ends within the block
  pub filled-at-feed : (k m s : List ℕ) (i at n : ℕ) → i < length s → get_or s i 0 ≡ 10 → at ≤ i → n ≤ most → SameLines most k (drop i s) m (drop at s)
      → Filled most s at m (record { at = i + 1; kept = n; ended = true }) k
  filled-at-feed k m s i at n h e l f p =
      let q = line-ends k (get_or s i 0) (drop (i + 1) s) e in
      let d : drop i s ≡ get_or s i 0 ∷ drop (i + 1) s = drop-next s i 0 h in
      record {
        lines = sym p.lines ∙ ap (lines_ended most k) d ∙ q.0;
        kept = sym p.kept ∙ ap (kept_after most k) d ∙ q.1;
        few = f;
        inside = omega arith;
        moves = λ (w : at < length s). omega arith;
      }

  -- ---- the lines of a whole stream

  -- a byte more of what is kept is what is kept of a byte more
  push-cut : (k : List ℕ) (b : ℕ) → push_of most (cut_to most k) b ≡ cut_to most (k ++ b ∷ [])
  unfolding push_of
  push-cut k b = go (ltb (length k) most) refl
    where
      go : (t : Bool) → ltb (length k) most ≡ t → cond (ltb (length (cut_to most k)) most) (cut_to most k ++ b ∷ []) (cut_to most k) ≡ cut_to most (k ++ b ∷ [])
      go true e =
          let h : length k < most = ltb-true (length k) most e in
          let a : length (k ++ b ∷ []) ≡ length k + 1 = length-append k (b ∷ []) in
          let p : cut_to most k ≡ k = take_all most k (omega arith) in
          let q : cut_to most (k ++ b ∷ []) ≡ k ++ b ∷ [] = take_all most (k ++ b ∷ []) (omega arith) in
          rw (p, q, lt-ltb (length k) most h)
      go false e =
          let h : most ≤ length k = ltb-false (length k) most e in
          let l : length (cut_to most k) ≡ most = length-take-le most k h in
          let q : cut_to most (k ++ b ∷ []) ≡ cut_to most k = take-append-le most k (b ∷ []) h in
          rw (q, l, le-ltb most most (omega arith))

  -- the lines that end, and the one that is kept, are the parts between line feeds, each cut to what is kept
  lines-between_feeds : (k s : List ℕ)
      → lines_ended most (cut_to most k) s ++ kept_after most (cut_to most k) s ∷ [] ≡ map (cut_to most) (glue_all k (separated 10 s))
  unfolding lines_ended kept_after separated
  lines-between_feeds k [] = ap (map (cut_to most)) (sym (glue-all-empty k []))
  lines-between_feeds k (b ∷ s) = go (eqb b 10) (sym (ap (λ (l : List ℕ). lines_ended most l s ++ kept_after most l s ∷ []) (take_none most)) ∙
      lines-between_feeds [] s)
      (lines-between_feeds (k ++ b ∷ []) s)
    where
      go : (x : Bool) → lines_ended most [] s ++ kept_after most [] s ∷ [] ≡ map (cut_to most) (glue_all [] (separated 10 s))
          → lines_ended most (cut_to most (k ++ b ∷ [])) s ++ kept_after most (cut_to most (k ++ b ∷ [])) s ∷ [] ≡ map (cut_to most)
          (glue_all (k ++ b ∷ []) (separated 10 s))
          → cond x (cut_to most k ∷ lines_ended most (cond x [] (push_of most (cut_to most k) b)) s)
          (lines_ended most (cond x [] (push_of most (cut_to most k) b)) s)
          ++ kept_after most (cond x [] (push_of most (cut_to most k) b)) s ∷ []
          ≡ map (cut_to most) (glue_all k (cond x ([] ∷ separated 10 s) (glue b (separated 10 s))))
      go true p q =
          ap (λ (r : List (List ℕ)). cut_to most k ∷ r) (p ∙ ap (map (cut_to most)) (glue-all-none (separated 10 s) (separated-some 10 s)))
          ∙ sym (ap (map (cut_to most)) (glue-all-empty k (separated 10 s)))
      go false p q = ap (λ (r : List ℕ). lines_ended most r s ++ kept_after most r s ∷ []) (push-cut k b) ∙ q ∙ ap (map (cut_to most))
          (glue-all-more k b (separated 10 s))

  -- cutting lines leaves none out
  cut-last : 0 < most → (ls : List (List ℕ)) → no_empty_last (map (cut_to most) ls) ≡ map (cut_to most) (no_empty_last ls)
  unfolding no_empty_last
  cut-last h [] = refl
  cut-last h ([] ∷ []) = ap (λ (l : List ℕ). no_empty_last (l ∷ [])) (take_none most)
  cut-last h ((b ∷ l) ∷ []) = last-cut most b l h
  cut-last h (l ∷ m ∷ ls) = ap (λ (r : List (List ℕ)). cut_to most l ∷ r) (cut-last h (m ∷ ls))

  -- what is taken of a whole stream are its lines, each cut to what is kept
  pub whole_stream : 0 < most → (s : List ℕ) → lines_ended most [] s ++ last_of (kept_after most [] s) ≡ map (cut_to most) (lines_of s)
  unfolding lines_of
  whole_stream h s =
      last-join (lines_ended most [] s) (kept_after most [] s) ∙ ap no_empty_last
      (sym (ap (λ (l : List ℕ). lines_ended most l s ++ kept_after most l s ∷ []) (take_none most)) ∙ lines-between_feeds [] s ∙ ap (map (cut_to most))
      (glue-all-none (separated 10 s) (separated-some 10 s))) ∙ cut-last h (separated 10 s)

  -- ---- with the blocks that follow

  -- the same with the bytes of later blocks after it
  pub filled_more : (block : List ℕ) (at : ℕ) (k : List ℕ) {r : Filling} {last : List ℕ} → Filled most block at k r last → (t : List ℕ)
      → (lines_ended most k (drop at block ++ t) ≡ cond r.ended (last ∷ []) [] ++ lines_ended most (cond r.ended [] last) (drop r.at block ++ t))
      × (kept_after most k (drop at block ++ t) ≡ kept_after most (cond r.ended [] last) (drop r.at block ++ t))
  filled_more block at k {r} {last} f t =
      let m : List ℕ = cond r.ended [] last in
      let x : List (List ℕ) = cond r.ended (last ∷ []) [] in
      let d : List ℕ = drop r.at block in (
        ended-lines-join k (drop at block) t ∙ ap (λ (l : List (List ℕ)). l ++ lines_ended most (kept_after most k (drop at block)) t) f.lines
            ∙ ap (λ (l : List ℕ). (x ++ lines_ended most m d) ++ lines_ended most l t) f.kept ∙ append_assoc x (lines_ended most m d)
            (lines_ended most (kept_after most m d) t)
            ∙ ap (λ (l : List (List ℕ)). x ++ l) (sym (ended-lines-join m d t)),
        kept-join k (drop at block) t ∙ ap (λ (l : List ℕ). kept_after most l t) f.kept ∙ sym (kept-join m d t),
      )
