-- Lists: `take`, `drop`, `set` and `sets` one place on, what a test of every entry tells, and a list that is filled place by place.
-- Assumes nothing.
use Prim.Native.Nat.{ℕ, zero, suc, ◌+◌, ◌-◌, ◌≤◌, ◌<◌}
use mathlib.Core.Path.{◌≡◌, refl, sym, ap, ◌∙◌}
use mathlib.Core.Bool.{Bool, true, false, ◌&&◌, and-eq-true_iff, and_assoc}
use mathlib.Core.List.{List, [], ◌∷◌, ◌++◌, map}
use mathlib.Core.Logic.{⊎_elim}
use native.Mathlib.Nat.{add-zero, eq-or-lt_of_le}
use native.Mathlib.Numerals.{add-one}
use native.Mathlib.Omega.{arith}
use lib.Dec.{leb}
use lib.ListN.{length, get_or, set, take, drop, length-set, drop_of_length-le}
use lib.Seq.{take-suc, take-suc-set, drop-cons, set_comm, get_or-set_same, get_or-set_other, sets}
use borrow.Author.Tests.{le-leb, leb-true}
use Rattle.laws.specs.Lists.{every, fill, AllLe}

module _ {A : Type 0} where
  -- ---- one place on

  -- what is left from i on begins with the entry at i
  pub drop-next : (l : List A) (i : ℕ) (d : A) → i < length l → drop i l ≡ get_or l i d ∷ drop (i + 1) l
  drop-next l i d h = rw add-one (drop-cons l i d h)

  -- the first i entries and the next
  pub take_next : (l : List A) (i : ℕ) (d : A) → i < length l → take (i + 1) l ≡ take i l ++ (get_or l i d ∷ [])
  take_next l i d h = rw add-one (take-suc l i d h)

  -- stores from the last backwards
  pub sets_last : (xs l : List A) (at : ℕ) (y : A) → sets (set l (at + length xs) y) at xs ≡ sets l at (xs ++ y ∷ [])
  sets_last [] l at y = ap (λ (m : ℕ). set l m y) (add-zero at)
  sets_last (x ∷ xs) l at y =
      let e : at + suc (length xs) ≡ suc at + length xs = omega arith in
      ap (λ (q : List A). sets q (suc at) xs)
      (set_comm l (at + suc (length xs)) at y x (λ (h : at + suc (length xs) ≡ at). omega arith) ∙ ap (λ (m : ℕ). set (set l at x) m y) e)
      ∙ sets_last xs (set l at x) (suc at) y

  -- ---- parts

  -- what holds of a stored value, and of the entry before it, holds of the entry after it
  pub set_keeps : (P : A → Type 0) (l : List A) (j : ℕ) (x d : A) → P x → (i : ℕ) → P (get_or l i d) → P (get_or (set l j x) i d)
  set_keeps P [] j x d g i h = h
  set_keeps P (y ∷ l) zero x d g zero h = g
  set_keeps P (y ∷ l) zero x d g (suc i) h = h
  set_keeps P (y ∷ l) (suc j) x d g zero h = h
  set_keeps P (y ∷ l) (suc j) x d g (suc i) h = set_keeps P l j x d g i h

  -- ---- a test of every entry

  module _ (f : A → Bool) where
    -- an entry of a list that passes the test passes it
    pub every-at : (l : List A) (d : A) → every f l ≡ true → (i : ℕ) → i < length l → f (get_or l i d) ≡ true
    unfolding every
    every-at [] d t i h = absurd (omega arith)
    every-at (x ∷ l) d t zero h = ((and-eq-true_iff (f x) (every f l)).0 t).0
    every-at (x ∷ l) d t (suc i) h = every-at l d ((and-eq-true_iff (f x) (every f l)).0 t).1 i (omega arith)

    -- past the end too, where the default passes
    pub every-all : (l : List A) (d : A) → f d ≡ true → every f l ≡ true → (i : ℕ) → f (get_or l i d) ≡ true
    unfolding every
    every-all [] d g t i = g
    every-all (x ∷ l) d g t zero = ((and-eq-true_iff (f x) (every f l)).0 t).0
    every-all (x ∷ l) d g t (suc i) = every-all l d g ((and-eq-true_iff (f x) (every f l)).0 t).1 i

    -- a loop that goes up: what is left of the test
    module _ (l : List A) (i : ℕ) (d : A) (h : i < length l) where
      -- the entry at i apart
      every-step : every f (drop i l) ≡ (f (get_or l i d) && every f (drop (i + 1) l))
      unfolding every
      every-step = rw (drop-next l i d h)

      -- a test so far, and then of the i-th entry and of those after it, is the test so far and of all from the i-th on
      pub every_on : (a : Bool) {b : Bool} → b ≡ f (get_or l i d) → ((a && b) && every f (drop (i + 1) l)) ≡ (a && every f (drop i l))
      every_on a {b} p = and_assoc a b (every f (drop (i + 1) l)) ∙ ap (λ (q : Bool). a && q) (rw p (sym every-step))

    -- past the last entry nothing is left to test
    pub every-end : (a : Bool) (l : List A) (i : ℕ) → length l ≤ i → (a && every f (drop i l)) ≡ a
    unfolding every
    every-end true l i h = rw (drop_of_length-le l h)
    every-end false l i h = refl

  -- ---- a list filled by f

  module _ (f : ℕ → A) where
    -- nothing is filled where a loop begins
    pub fill_none : (start : ℕ) (l : List A) → l ≡ fill f start (start - start) l
    unfolding fill
    fill_none start l = let e : start - start ≡ 0 = omega arith in rw e

    -- the last place apart
    fill-last : (n start : ℕ) (l : List A) → fill f start (suc n) l ≡ set (fill f start n l) (start + n) (f (start + n))
    unfolding fill
    fill-last zero start l = rw add-zero
    fill-last (suc n) start l =
        let e : start + suc n ≡ suc start + n = omega arith in
        ap (λ (x : List A). set x start (f start)) (fill-last n (suc start) l)
        ∙ set_comm (fill f (suc start) n l) (suc start + n) start (f (suc start + n)) (f start) (λ (q : suc start + n ≡ start). omega arith)
        ∙ rw e

    -- a loop that goes up from start, and one that goes down from end
    pub fill-up : (start i : ℕ) (l : List A) {b : List A} {r : A} → start ≤ i → b ≡ fill f start (i - start) l → r ≡ f i
        → set b i r ≡ fill f start (i + 1 - start) l
    fill-up start i l h p q =
        let e : i + 1 - start ≡ suc (i - start) = omega arith in
        let g : start + (i - start) ≡ i = omega arith in
        rw (e, fill-last (i - start) start l, g, p, q)

    -- one entry more, downwards
    pub fill-down : (i end : ℕ) (l : List A) {b : List A} {r : A} → 0 < i → i ≤ end → b ≡ fill f i (end - i) l → r ≡ f (i - 1)
        → set b (i - 1) r ≡ fill f (i - 1) (end - (i - 1)) l
    unfolding fill
    fill-down i end l h g p q =
        let e : end - (i - 1) ≡ suc (end - i) = omega arith in
        let s : suc (i - 1) ≡ i = omega arith in
        rw (e, s, p, q)

    -- filling keeps the length
    pub fill-length : (n start : ℕ) (l : List A) → length (fill f start n l) ≡ length l
    unfolding fill
    fill-length zero start l = refl
    fill-length (suc n) start l = length-set (fill f (suc start) n l) start (f start) ∙ fill-length n (suc start) l

    -- a filled place holds its value
    pub fill_in : (n start i : ℕ) (l : List A) (d : A) → start ≤ i → i < start + n → i < length l → get_or (fill f start n l) i d ≡ f i
    unfolding fill
    fill_in zero start i l d h g k = absurd (omega arith)
    fill_in (suc n) start i l d h g k =
        ⊎_elim (λ e. rw (← e) (get_or-set_same (fill f (suc start) n l) start (f start) d (omega (arith, fill-length n (suc start) l))))
        (λ e. get_or-set_other (fill f (suc start) n l) start i (f start) d (λ (q : i ≡ start). omega arith) ∙ fill_in n (suc start) i l d e (omega arith) k)
        (eq-or-lt_of_le h)

    -- places before the filled ones stay
    pub fill-below : (n start i : ℕ) (l : List A) (d : A) → i < start → get_or (fill f start n l) i d ≡ get_or l i d
    unfolding fill
    fill-below zero start i l d h = refl
    fill-below (suc n) start i l d h =
        get_or-set_other (fill f (suc start) n l) start i (f start) d (λ (q : i ≡ start). omega arith) ∙ fill-below n (suc start) i l d (omega arith)

    -- places after them stay
    pub fill-above : (n start i : ℕ) (l : List A) (d : A) → start + n ≤ i → get_or (fill f start n l) i d ≡ get_or l i d
    unfolding fill
    fill-above zero start i l d h = refl
    fill-above (suc n) start i l d h =
        get_or-set_other (fill f (suc start) n l) start i (f start) d (λ (q : i ≡ start). omega arith) ∙ fill-above n (suc start) i l d (omega arith)

    -- what holds of the values and of an entry before holds of the entry after
    pub fill-keeps : (P : A → Type 0) (n start : ℕ) (l : List A) (d : A) → ((i : ℕ) → start ≤ i → i < start + n → P (f i))
        → (i : ℕ) → P (get_or l i d) → P (get_or (fill f start n l) i d)
    unfolding fill
    fill-keeps P zero start l d g i h = h
    fill-keeps P (suc n) start l d g i h =
        set_keeps P (fill f (suc start) n l) start (f start) d (g start (omega arith) (omega arith)) i
        (fill-keeps P n (suc start) l d (λ k p q. g k (omega arith) (omega arith)) i h)

  -- functions that agree at these places fill alike
  pub fill-same : (f g : ℕ → A) (n start : ℕ) (l : List A) → ((i : ℕ) → start ≤ i → i < start + n → f i ≡ g i) → fill f start n l ≡ fill g start n l
  unfolding fill
  fill-same f g zero start l h = refl
  fill-same f g (suc n) start l h =
      rw (h start (omega arith) (omega arith), fill-same f g n (suc start) l (λ i p q. h i (omega arith) (omega arith)))

-- ---- a list made from another, entry by entry

module _ {A B : Type 0} (f : A → B) where
  -- the last entry apart
  map_last : (l : List A) (x : A) → map f (l ++ (x ∷ [])) ≡ map f l ++ (f x ∷ [])
  map_last [] x = refl
  map_last (y ∷ l) x = ap (λ (k : List B). f y ∷ k) (map_last l x)

  -- one entry more of a list that is made by f
  pub map-up : (out : List B) (l : List A) (i : ℕ) (d : A) {r : B} → i < length out → i < length l → take i out ≡ map f (take i l) → r ≡ f (get_or l i d)
      → take (i + 1) (set out i r) ≡ map f (take (i + 1) l)
  map-up out l i d {r} h g p q = rw (add-one, take-suc-set out i r h, take-suc l i d g, map_last, p, q)

-- ---- bounds

-- a test of every entry bounds every entry, past the end too
pub entry-le : (m : ℕ) (l : List ℕ) → every (λ x. leb x m) l ≡ true → AllLe m l
entry-le m l t i = leb-true (get_or l i 0) m (every-all (λ x. leb x m) l 0 (le-leb 0 m (omega arith)) t i)
