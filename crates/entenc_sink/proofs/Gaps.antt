-- The gap as zeros at once, and the cases of the last byte. Assumes nothing.
use Prim.Native.Nat.{ℕ, zero, suc, ◌+◌, ◌-◌, ◌%◌, ◌^◌, ◌<◌, ◌≤◌}
use mathlib.Core.Path.{◌≡◌, sym, ap, ◌∙◌}
use mathlib.Core.Bool.{true, false}
use mathlib.Core.List.{List, [], ◌∷◌, ◌++◌}
use native.Mathlib.Numerals.{add-one}
use native.Mathlib.Omega.{arith}
use lib.ListN.{length, replicate, set, take, drop, length-set}
use Rattle.std.proofs.lemmas.List.{append_assoc, drop-drop, drop-set-lt, take-append-drop}
use lib.Seq.{take-suc-set}
use borrow.Author.Tests.{le-leb, lt-leb, eq-eqb, ne_eqb}
use Rattle.entenc_sink.specs.Out.{Out, out, marked}
use Rattle.entenc_sink.specs.Gap.{zeroed, cleared, merged_byte, busts, finished}

-- ---- the gap

-- n zeros at once in the place of the n bytes from a on
pub zeros_at : (n a : ℕ) (l : List ℕ) → a + n ≤ length l → take a l ++ (replicate n 0 ++ drop n (drop a l)) ≡ zeroed n a l
unfolding zeroed
zeros_at zero a l h = take-append-drop a l
zeros_at (suc n) a l h =
    let g : a < length l = omega arith in
    let k : a + 1 + n ≤ length (set l a 0) = simp length-set (omega arith) in
    let e : drop n (drop (a + 1) (set l a 0)) ≡ drop (suc n) (drop a l) =
    ap (drop n) (drop-set-lt (a + 1) l a 0 (omega arith)) ∙ drop-drop n (a + 1) l ∙ rw (drop-drop (suc n) a l) (ap (λ (m : ℕ). drop m l) (omega arith)) in
    sym (append_assoc (take a l) (0 ∷ []) (replicate n 0 ++ drop (suc n) (drop a l)))
    ∙ rw (← take-suc-set l a 0 g, ← add-one a, ← e) (zeros_at n (a + 1) (set l a 0) k)

-- ---- the last byte, by its cases

module _ (window used spare : ℕ) (o : Out) where
  -- a sink with its mark set stays as it is
  pub fin-error : o.sink.error ≡ true → o ≡ finished window used spare o
  unfolding finished
  fin-error e = simp e

  module _ (l : List ℕ) (e : o.sink.error ≡ false) where
    -- no raw bit waits
    pub fin-none : used ≡ 0 → l ≡ cleared o → out o.sink l ≡ finished window used spare o
    unfolding finished
    fin-none u z = simp (e, eq-eqb _ _ u) (ap (out o.sink) z)

    -- raw bytes fill the storage: no byte is free
    pub fin_full : (used ≡ 0 → ⊥) → o.sink.storage ≤ o.sink.ends → l ≡ cleared o → out (marked o.sink) l ≡ finished window used spare o
    unfolding finished
    fin_full u h z = simp (e, ne_eqb _ _ u, le-leb _ _ h) (ap (out (marked o.sink)) z)

    -- too few bits are free
    pub fin_bust : {l1 : List ℕ} {u : ℕ} → (used ≡ 0 → ⊥) → o.sink.ends < o.sink.storage → busts o.sink used spare ≡ true
        → l1 ≡ cleared o → u ≡ 2 ^ spare
        → l ≡ merged_byte (o.sink.storage - o.sink.ends - 1) l1 (window % u % 256)
        → out (marked o.sink) l ≡ finished window used spare o
    unfolding finished
    fin_bust {l1} {u} n h b z y x =
        let e2 : l ≡ merged_byte (o.sink.storage - o.sink.ends - 1) (cleared o) (window % 2 ^ spare % 256) = x ∙ rw (z, y) in
        simp (e, ne_eqb _ _ n, lt-leb _ _ h, b) (ap (out (marked o.sink)) e2)

    -- the last raw bits join the last free byte
    pub fin-join : {l1 : List ℕ} → (used ≡ 0 → ⊥) → o.sink.ends < o.sink.storage → busts o.sink used spare ≡ false
        → l1 ≡ cleared o
        → l ≡ merged_byte (o.sink.storage - o.sink.ends - 1) l1 (window % 256)
        → out o.sink l ≡ finished window used spare o
    unfolding finished
    fin-join {l1} n h b z x =
        let e2 : l ≡ merged_byte (o.sink.storage - o.sink.ends - 1) (cleared o) (window % 256) = x ∙ rw z in
        simp (e, ne_eqb _ _ n, lt-leb _ _ h, b) (ap (out o.sink) e2)
