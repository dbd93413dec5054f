-- The symbols that are lent, and which are refused, by document 01, "When the answer is no".
use Rattle.std.specs.Prelude.{
  ℕ,
  zero,
  suc,
  ◌+◌,
  ◌*◌,
  ◌/◌,
  ◌%◌,
  Bool,
  true,
  cond,
  not,
  ◌&&◌,
  ◌||◌,
  List,
  [],
  ◌∷◌,
  Result,
  Ok,
  Err,
  eqb,
  leb,
  get_or,
  length,
  take,
  drop,
}
use Rattle.entcode.specs.declared.reasons.Refusal.{Refusal}
use Rattle.entcode.specs.declared.reasons.Refusal.TheVariants.{Number}
use Rattle.entcode.specs.Refusal.{refusal}
use Rattle.laplace.specs.Model.{value_at}
use Rattle.trip_theorem.specs.Calls.{Symbol, symbol}
use Rattle.trip_theorem.specs.Calls.Kind.{bit, table, uniform, raw, laplace}
use Rattle.trip_call.specs.declared.given.Given.{Given}
use Rattle.trip_call.specs.declared.given.Kind.{Kind}
use Rattle.trip_call.specs.declared.given.Kind.TheVariants as kind

-- the kind of a number: 0 bit, 1 table, 2 uniform, 3 raw; else Laplace, which is 4 where no refusal comes first
abbrev pub kind_of : ℕ → Kind
kind_of n = cond (eqb n 0) kind.Bit (cond (eqb n 1) kind.Table (cond (eqb n 2) kind.Uniform (cond (eqb n 3) kind.Raw kind.Laplace)))

-- the kind of a number, where there is one
abbrev pub kind_read : ℕ → Result Kind Refusal
kind_read n = cond (leb n 4) (Ok (kind_of n)) (Err Number)

-- symbol i of a list with five numbers for each
abbrev pub given_at : List ℕ → ℕ → Given
given_at l i =
    record {
      kind = get_or l (5 * i) 0;
      count = get_or l (5 * i + 1) 0;
      first = get_or l (5 * i + 2) 0;
      second = get_or l (5 * i + 3) 0;
      third = get_or l (5 * i + 4) 0;
    }

-- a bit of log probability `first`; a symbol of a table of 2^first places, whose `third` entries begin at `second`; a uniform number below `first`;
-- `first` raw bits; a Laplace value of the pair `first`, `second`. The numbers that a kind does not name here are not looked at
abbrev pub symbol_by : Kind → Given → List ℕ → Symbol
symbol_by kind.Bit g tables = symbol (bit g.first) g.count
symbol_by kind.Table g tables = symbol (table (take g.third (drop g.second tables)) g.first) g.count
symbol_by kind.Uniform g tables = symbol (uniform g.first) g.count
symbol_by kind.Raw g tables = symbol (raw g.first) g.count
symbol_by kind.Laplace g tables = symbol (laplace g.first g.second) (value_at g.count)

-- a symbol, by its kind
unfoldable pub symbol_of : Given → List ℕ → Symbol
symbol_of g tables = symbol_by (kind_of g.kind) g tables

-- n symbols, from symbol i on
unfoldable pub symbols_from : List ℕ → List ℕ → ℕ → ℕ → List Symbol
symbols_from l tables zero i = []
symbols_from l tables (suc n) i = symbol_of (given_at l i) tables ∷ symbols_from l tables n (suc i)

-- all of them
abbrev pub symbols_of : List ℕ → List ℕ → List Symbol
symbols_of l tables = symbols_from l tables (length l / 5) 0

-- ---- which are refused

-- symbol i: a kind there is, and a table symbol's entries end where the tables do or before: `room` entries are lent (1)
abbrev pub given_ok : ℕ → List ℕ → ℕ → Bool
given_ok room l i = leb (get_or l (5 * i) 0) 4 && (not (eqb (get_or l (5 * i) 0) 1) || leb (get_or l (5 * i + 3) 0 + get_or l (5 * i + 4) 0) room)

-- n symbols, from symbol i on
unfoldable pub givens_ok : List ℕ → ℕ → ℕ → ℕ → Bool
givens_ok l room zero i = true
givens_ok l room (suc n) i = given_ok room l i && givens_ok l room n (suc i)

-- five numbers for each symbol (2)
abbrev pub fives : List ℕ → Bool
fives l = eqb (length l % 5) 0

-- the number of the refusal, 0 for none
unfoldable pub refusal_given : List ℕ → List ℕ → ℕ
refusal_given l tables = refusal (fives l) (givens_ok l (length tables) (length l / 5) 0) true 0 true true
