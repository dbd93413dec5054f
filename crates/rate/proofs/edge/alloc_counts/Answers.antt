-- `rate::edge::alloc_counts`: each number is clipped. Assumes nothing.
use mir.Syntax.{w32}
use mir.Val.{SFits}
use mir.Facts.{to_z-of_z}
use borrow.Author.Rules.{rules}
use Rattle.rate.specs.Question.{alloc_counts}
use Rattle.rate.proofs.edge.alloc_counts.Goals as goal

pub returns : goal.returns
unfolding alloc_counts
returns c =
    let q = c.args.q in
    let fc : SFits w32 q.c = search rules in
    let fl : SFits w32 q.lm = search rules in
    let fs : SFits w32 q.start = search rules in
    let fe : SFits w32 q.end = search rules in
    let ft : SFits w32 q.trim = search rules in
    let fo : SFits w32 q.total = search rules in
    rw (
      rw (to_z-of_z fc) at c.clipped-c.ensures.0,
      rw (to_z-of_z fl) at c.clipped-lm.ensures.0,
      rw (to_z-of_z fs) at c.clipped-start.ensures.0,
      rw (to_z-of_z fe) at c.clipped-end.ensures.0,
      rw (to_z-of_z ft) at c.clipped-trim.ensures.0,
      rw (to_z-of_z fo) at c.clipped-total.ensures.0,
    )
