-- The promises of specs/Promises.antt, by the laws of places. Assumes nothing.
use mathlib.Core.Path.{sym, ap, ◌∙◌}
use Rattle.laplace.specs.Signed.{value_in}
use Rattle.laplace.specs.Promises.{EachPlaceOnce, WrittenInDomain, WrittenIsFound}
use Rattle.laplace.proofs.Spans.{found_proper}
use Rattle.laplace.proofs.Known.{known_parts}
use Rattle.laplace.proofs.Values.{value_proper, adjust_domain, locate_domain, locate-value, place_one}

-- the value that is found at a place has it; any other that has it is that one
pub each_place_once : EachPlaceOnce
each_place_once fs dec k fm h =
    let ok = known_parts fs dec k in
    let e = locate-value fs dec ok fm h in
    let p = found_proper fs dec ok fm h in (
      record { itself = ap value_in e; from = rw e p.1; to = rw e p.2 },
      locate_domain fs dec ok fm h,
      λ z q. sym q.itself ∙ place_one fs dec ok z fm q.from q.to,
    )

-- what stands for a whole number has a size of 16 bits
pub written_in_domain : WrittenInDomain
written_in_domain fs dec k z = adjust_domain fs dec (known_parts fs dec k) z

-- a reader of one of its places finds the value whose places they are
pub written-is-found : WrittenIsFound
written-is-found fs dec k z =
    let ok = known_parts fs dec k in
    let p = value_proper fs dec ok z in
    (p.some, p.within, λ fm l u. sym (place_one fs dec ok z fm l u))
