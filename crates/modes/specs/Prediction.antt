-- The prediction of the coarse energies, RFC 6716, section 4.3.2.1: alpha and beta for LM 0, 1, 2 and 3, as f32; an intra frame predicts
-- nothing from the frame before.
use Rattle.std.specs.Prelude.{ℕ, Bool, true, false, List, [], ◌∷◌, get_or, Float}
use Rattle.std.specs.Float.{nan, binary32}
use Rattle.std.specs.Float.Ieee.{round}

-- m / 32768, rounded once
abbrev pub over32768 : ℕ → Float
over32768 m = round binary32 false m 32768

-- alpha (pred_coef)
unfoldable pub pred_coefs : List Float
pred_coefs = over32768 29440 ∷ over32768 26112 ∷ over32768 21248 ∷ over32768 16384 ∷ []

-- beta (beta_coef)
unfoldable pub beta_coefs : List Float
beta_coefs = over32768 30147 ∷ over32768 22282 ∷ over32768 12124 ∷ over32768 6554 ∷ []

-- beta of an intra frame (beta_intra)
unfoldable pub beta_intra : Float
beta_intra = over32768 4915

-- the share of the last frame's energy
unfoldable pub coef_of : Bool → ℕ → Float
coef_of true lm = over32768 0
coef_of false lm = get_or pred_coefs lm nan

-- the share of a band's step that the next band does not inherit
unfoldable pub beta_of : Bool → ℕ → Float
beta_of true lm = beta_intra
beta_of false lm = get_or beta_coefs lm nan
