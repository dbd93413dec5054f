-- Which of the 32,768 places a Laplace value has, and which value has a place, RFC 6716, section 4.3.2.1. How the places are dealt out, and how f
-- falls from one value to the next, is defined in modes/specs/Laplace.antt; of a value's places those of its negative come first.
use Rattle.std.specs.Prelude.{ℕ, zero, suc, ◌+◌, ◌-◌, ◌*◌, ◌/◌, ◌≤◌, ◌<◌, min, Bool, false, cond, ◌&&◌, ltb, leb}
use Rattle.modes.specs.Laplace.{freq1, next_start, lowered}
use Rattle.laplace.specs.declared.chain.Step.{Step}
use Rattle.laplace.specs.declared.chain.Span.{Span}

-- the chain at the value 1: a step tells where the places of -i and i begin, and that each has f + 1
abbrev pub first_step : ℕ → ℕ → Step
first_step fs dec = record { fl = fs; f = freq1 fs dec; i = 1 }

-- at the next value
abbrev pub next_step : ℕ → Step → Step
next_step dec s = record { fl = next_start s.fl s.f; f = lowered dec s.f; i = s.i + 1 }

-- along the chain as long as f is not 0 and there is more to do, k steps at most
unfoldable pub walk : (Step → Bool) → ℕ → ℕ → Step → Step
walk more zero dec s = s
walk more (suc k) dec s = cond (ltb 0 s.f && more s) (walk more k dec (next_step dec s)) s

-- for a writer of a: the step's value is below it
abbrev pub up_to : ℕ → Step → Bool
up_to a s = ltb s.i a

-- for a reader of the place fm: the step's places end before it
abbrev pub past : ℕ → Step → Bool
past fm s = leb (next_start s.fl s.f) fm

-- the places of i + d, or of its negative, where d is 0 unless f is
abbrev pub side : Bool → Step → ℕ → Span
side neg s d =
    record {
      neg = neg;
      mag = s.i + d;
      fl = s.fl + 2 * d + cond neg 0 (s.f + 1);
      fh = s.fl + 2 * d + cond neg (s.f + 1) (2 * s.f + 2);
    }

-- the places of zero
abbrev pub zero_span : ℕ → Span
zero_span fs = record { neg = false; mag = 0; fl = 0; fh = fs }

-- how many values of a sign have a place from fl on, one each
abbrev pub values_with_place : Bool → ℕ → ℕ
values_with_place neg fl = (32768 - fl + cond neg 1 0) / 2

-- how many values past the step's lies the one that stands for a, or for its negative: past the last that has a place, that last one
abbrev pub beyond : Bool → ℕ → Step → ℕ
beyond neg a s = cond (ltb 0 s.f) 0 (min (a - s.i) (values_with_place neg s.fl - 1))

-- what a writer of a, or of its negative, finds at the step s
abbrev pub span_at : Bool → ℕ → Step → Span
span_at neg a s = side neg s (beyond neg a s)

-- the value that stands for a, or for its negative, and its places (ec_laplace_encode)
unfoldable pub span_of : Bool → ℕ → ℕ → ℕ → Span
span_of neg a fs dec = cond (ltb 0 a) (span_at neg a (walk (up_to a) 32 dec (first_step fs dec))) (zero_span fs)

-- how many values past the step's lies the one that has the place fm
abbrev pub deep : ℕ → Step → ℕ
deep fm s = cond (ltb 0 s.f) 0 ((fm - s.fl) / 2)

-- of its two signs, the one that has the place fm
abbrev pub side_at : ℕ → Step → ℕ → Span
side_at fm s d = side (ltb fm (s.fl + 2 * d + s.f + 1)) s d

-- what a reader of the place fm finds at the step s
abbrev pub locate_at : ℕ → Step → Span
locate_at fm s = side_at fm s (deep fm s)

-- the value that has the place fm, and its places (ec_laplace_decode)
unfoldable pub locate : ℕ → ℕ → ℕ → Span
locate fm fs dec = cond (ltb fm fs) (zero_span fs) (locate_at fm (walk (past fm) 32 dec (first_step fs dec)))

-- places that can be coded: at least one, none past the 32,768, and a value of 16 bits
pub record Proper (r : Span) : Type 0 where
  pub some : r.fl < r.fh
  pub within : r.fh ≤ 32768
  pub small : r.mag ≤ 32767
