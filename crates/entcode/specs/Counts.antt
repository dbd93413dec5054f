-- What is asked of a coder state that is handed in, the same for reader and writer: document 01, "When the answer is no"; and what tell says.
use Rattle.std.specs.Prelude.{ℕ, ◌+◌, ◌*◌, Bool, cond, ◌&&◌, ltb, leb}
use Rattle.entcode.specs.Tell.{tell_of}
use Rattle.entcode.specs.Said.{Said, answer}

-- storage 0..1,275; range above 2^23 and at most 2^31; waiting raw bits 0..32; bit count 33..65,535
unfoldable pub counts_ok : ℕ → ℕ → ℕ → ℕ → Bool
counts_ok storage rng waiting total =
    leb storage 1275 && ltb 8388608 rng && leb rng 2147483648 && leb waiting 32 && leb 33 total && leb total 65535

-- the test of refusal 4: tell is at most 8 bits a byte of storage and 32 more
abbrev pub tell_ok : ℕ → ℕ → ℕ → Bool
tell_ok storage total rng = leb (tell_of total rng) (8 * storage + 32)

-- what tell and tell_frac say: n, or refusal 1 where the state breaks its rule
abbrev pub tell_said : Bool → ℕ → Said ℕ
tell_said ok n = answer (cond ok 0 1) n
