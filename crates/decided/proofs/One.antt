-- A contract of the shape `r ≡ definition` leaves one result.
use mathlib.Core.Path.{◌≡◌, ◌∙◌, sym}

-- two results that both are the definition's are one
pub one : {A : Type 0} {x y d : A} → x ≡ d → y ≡ d → x ≡ y
one p q = p ∙ sym q
