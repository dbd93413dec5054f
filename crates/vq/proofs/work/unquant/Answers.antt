-- `vq::work::unquant`: the vector stands in the first of 176 places; its shape and its mask. Assumes nothing.
use Rattle.cwrs.specs.Answer.{read_word}
use Rattle.vq.proofs.Vectors.{Vector, read_vector, can_shape}
use Rattle.vq.proofs.work.unquant.Goals as goal
use Rattle.vq.proofs.work.unquant.Goals.{After-decode-f}

-- the vector, and where it stands
read : (c : After-decode-f) → let a = c.args in Vector a.n (read_word a.n a.k a.s.now a.d)
read c =
    let p = c.requires.le_n in
    read_vector c.args.n c.args.k c.args.s.now c.args.d p.0 p.3 p.4

pub normalise_residual-requires : goal.normalise_residual-requires
normalise_residual-requires c =
    let a = c.args in
    can_shape a.n a.k a.s.now a.d _ c.decode-f.ensures.0 c.decode-f.ensures.1 (read (goal.at.normalise_residual-requires c).After-decode-f) c.requires.le_n.2
