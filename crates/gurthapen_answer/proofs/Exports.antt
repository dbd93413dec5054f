-- What an exported call's proof cites: the test of the lengths, and the one shape. Assumes nothing.
use Prim.Native.Nat.{ℕ, zero, suc}
use mathlib.Core.Path.{◌≡◌, ap}
use mathlib.Core.Bool.{Bool, true, false, ◌&&◌, and-eq-true_iff}
use mathlib.Core.List.{List, [], ◌∷◌}
use lib.Dec.{eqb}
use lib.IntN.{ℤ}
use lib.ListN.{length, set}
use borrow.Author.Tests.{eqb-true}
use Rattle.entcode.specs.Said.{Said, answer, lent_after, map_said}
use Rattle.gurthapen_answer.specs.Result.{Result, also, result, result_of, exported}
use Rattle.gurthapen_state.specs.State.{is_count, is_long, is_state, is_stored, entry}
use Rattle.gurthapen_state.proofs.Lists.{all_set}

module _ {A : Type 0} (said : Said A) (before : A) where
  -- a wrong length is 2, and nothing is written
  pub wrong_lengths : {t : Bool} → t ≡ false → result 2 before ≡ exported t said before
  unfolding exported
  wrong_lengths e = rw e

  -- with the right lengths it is what the call gives
  pub right_lengths : {t : Bool} {x : Result A} → t ≡ true → x ≡ result_of said before → x ≡ exported t said before
  unfolding exported
  right_lengths e h = rw e h

-- what is left, with a list beside it
pub beside : {A B : Type 0} {r n : ℕ} {x x' : A} {y y' : B} → result r x ≡ result n x' → y ≡ y' → result {A = A × B} r (x, y) ≡ result n (x', y')
beside {A} h e = rw (ap (λ (t : Result A). t.number) h, ap (λ (t : Result A). t.lent) h, e)

-- A call that itself writes what it is lent, beside lists that are made of its values: a refusal leaves all of it as it was
pub joined : {A B L : Type 0} (f : A → B) (n : ℕ) (v : A) (written before : L) (x : B) {a : Said A} {last : L} {r : ℕ} {y : B}
    → a ≡ answer n v → last ≡ lent_after n written before → result r y ≡ result_of (map_said f a) x
    → result {A = B × L} r (y, last) ≡ result_of (also (map_said f (answer n v)) (lent_after n written before)) (x, before)
unfolding answer lent_after result_of
joined f zero v written before x e l h = beside (rw e at h) l
joined f (suc n) v written before x e l h = beside (rw e at h) l

-- both lengths are right
pub record Both (a m b n : ℕ) : Type 0 where
  pub one : a ≡ m
  pub two : b ≡ n

-- from their tests
pub both : (a m b n : ℕ) → (eqb a m && eqb b n) ≡ true → Both a m b n
both a m b n e =
    let p = (and-eq-true_iff (eqb a m) (eqb b n)).0 e in
    record { one = eqb-true a m p.0; two = eqb-true b n p.1 }

-- a list that can hold a state with a storage has twelve numbers
pub stored : (l : List ℤ) → is_stored l ≡ true → length l ≡ 12
stored l e = eqb-true (length l) 12 ((and-eq-true_iff (is_state l) (is_count (entry l 0))).0 e).0

-- and the other list its length
pub stored-both : {B : Type 0} (l : List ℤ) (v : List B) (n : ℕ) → (is_stored l && is_long n v) ≡ true → Both (length l) 12 (length v) n
stored-both l v n e =
    let p = (and-eq-true_iff (is_stored l) (is_long n v)).0 e in
    record { one = stored l p.0; two = eqb-true (length v) n p.1 }

-- a list of one number that is written
pub one_set : {A : Type 0} (x : A) (l : List A) → length l ≡ 1 → set l 0 x ≡ x ∷ []
one_set x l h = all_set (x ∷ []) l (rw h)
