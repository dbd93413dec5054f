-- The two coders in the words of the definition's laws: an encoder has written the symbols of its result, and a decoder that is answered in the same
-- way comes to the same result. Assumes nothing.
use Prim.Native.Nat.{ℕ}
use mathlib.Core.Bool.{Bool}
use mathlib.Core.List.{List}
use mathlib.Core.Path.{◌≡◌}
use lib.IntN.{ℤ}
use Rattle.entdec.specs.declared.Reader.{Reader}
use Rattle.entenc.specs.Write.{Wr}
use Rattle.rate_spec.specs.Answers.{alloc_of_flags}
use Rattle.rate_spec.specs.Types.{AllocIn, AllocOut}
use Rattle.rate_spec.specs.Written.{written}
use Rattle.rate_spec.proofs.Trace.{trace, writing-writes}
use Rattle.rate_spec.proofs.Follow.{Agrees, follow, replay}
use Rattle.rate_skip.specs.Asks.{read_ask, write_ask, write_bit, write_below}
use Rattle.rate.specs.Answer.{read_alloc, write_alloc}

module _ (a : AllocIn) (previous bandwidth : ℤ) (intensity : ℕ) (dual : Bool) (w : Wr) where
  -- what an encoder's allocation gives
  abbrev pub out : AllocOut
  out = (write_alloc a intensity dual previous bandwidth w).0

  -- the writer after it is the one that wrote its flags, then intensity and dual stereo where they are coded, and nothing else
  pub write_traced : (write_alloc a intensity dual previous bandwidth w).1 ≡ written write_bit write_below a out w
  write_traced =
      trace write_bit write_below (write_ask a previous bandwidth intensity dual) (writing-writes write_bit write_below a previous bandwidth intensity dual) a w

  -- a reader of s from which these symbols come in turn gives the same, and ends after the last of them
  pub read_follows : (s : List ℕ) (d last : Reader) → Agrees (read_ask s) a out d last → read_alloc a s d ≡ (out, last)
  read_follows s d last g = follow a (write_ask a previous bandwidth intensity dual) (read_ask s) w d last g

  -- and so do these flags, this intensity and this dual stereo without any coder
  pub write_replayed : alloc_of_flags a out.flags out.intensity out.dual ≡ out
  write_replayed = replay a (write_ask a previous bandwidth intensity dual) w
