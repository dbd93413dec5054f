-- A list that is written whole, at once or place by place. Assumes nothing.
use Prim.Native.Nat.{◌+◌, ◌≤◌}
use mathlib.Core.Path.{◌≡◌, ap, ◌∙◌}
use mathlib.Core.List.{List, ◌++◌, append-nil}
use native.Mathlib.Omega.{arith}
use lib.ListN.{length, drop_of_length-le}
use lib.Seq.{sets, sets-eq}

module _ {A : Type 0} where
  -- as many values as places: the list is the values
  pub all_set : (vs l : List A) → length vs ≡ length l → sets l 0 vs ≡ vs
  all_set vs l h =
      let past : length l ≤ 0 + length vs = omega arith in
      sets-eq vs l 0 (omega arith) ∙ ap (λ (r : List A). vs ++ r) (drop_of_length-le l past) ∙ append-nil vs
