-- What was read and written, as the records have it.
use Rattle.std.specs.Prelude.{◌≡◌, ℕ, ◌+◌, ◌%◌, ◌^◌, ◌<◌, ◌≤◌, Bool, true, false, List, [], ◌∷◌, ◌++◌, length, take, ◌==◌, ◌≢◌}
use Rattle.tool_io.specs.declared.Input.{Input}
use Rattle.tool_io.specs.declared.Output.{Output}
use Rattle.tool_io.specs.declared.BlockRead.{BlockRead}

-- the first n bytes of a record, complete where they are all that was moved, and the first n' after s was moved: where it is still complete,
-- s stands after what stood there, and it stays complete where there was room
pub record Noted (n : ℕ) (w : Bool) (log s : List ℕ) (n' : ℕ) (w' : Bool) (log' : List ℕ) : Type 0 where
  pub inside : n' ≤ length log'
  pub before : w' ≡ true → w ≡ true
  pub after : w' ≡ true → take n' log' ≡ take n log ++ s
  pub room : w ≡ true → n + length s ≤ length log → w' ≡ true

-- k calls were made, and one more: k' of them, and the lent count says so. It goes round after 2^64, so it is never k again at once
pub record Counted (k k' : ℕ) (calls : List ℕ) : Type 0 where
  pub lent : calls ≡ k' ∷ []
  pub more : k' ≡ (k + 1) % 2 ^ 64

-- one read: what it moved stands at the start of the block and at the end of the record; where it did not fail, the input has ended just
-- where it moved nothing
pub record OneRead (s : Input) (log : List ℕ) (r : BlockRead) (block log' calls : List ℕ) : Type 0 where
  pub few : r.n ≤ length block
  pub noted : Noted s.logged s.complete log (take r.n block) r.input.logged r.input.complete log'
  pub fine : r.input.failed ≡ false → s.failed ≡ false
  pub ends : r.input.failed ≡ false → r.input.ended ≡ (r.n == 0)
  pub counted : Counted s.calls r.input.calls calls

-- one write: the text stands at the end of the record
pub record OneWrite (s : Output) (log text : List ℕ) (r : Output) (log' calls : List ℕ) : Type 0 where
  pub noted : Noted s.logged s.complete log text r.logged r.complete log'
  pub fine : r.failed ≡ false → s.failed ≡ false
  pub counted : Counted s.calls r.calls calls

-- an input before its first byte
pub record NewInput (s : Input) : Type 0 where
  pub unlogged : s.logged ≡ 0
  pub uncalled : s.calls ≡ 0
  pub complete : s.complete ≡ true
  pub going : s.ended ≡ false
  pub fine : s.failed ≡ false

-- an output before its first byte
pub record NewOutput (s : Output) : Type 0 where
  pub unlogged : s.logged ≡ 0
  pub uncalled : s.calls ≡ 0
  pub complete : s.complete ≡ true
  pub fine : s.failed ≡ false

-- An input or an output that made k calls serves for one more: after it, what a second call with the same value requires of the lent count is
-- false. Its proof is in proofs/Records.antt.
abbrev pub UsedOnce : Type 0
UsedOnce = (k k' : ℕ) (calls : List ℕ) → k < 18446744073709551616 → Counted k k' calls → calls ≢ k ∷ []
