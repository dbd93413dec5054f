-- `modes::caps::cap_of`: the const is the list of the definition, whose entries have the two bounds. Assumes nothing.
use Rattle.modes.specs.Caps.{caps, cap_entry}
use Rattle.modes.proofs.Entries.{read_between}
use Rattle.modes.proofs.CapRule.{cap-least, cap-most}
use Rattle.modes.proofs.caps.cap_of.Goals as goal

pub returns : goal.returns
unfolding cap_entry caps
returns c =
    let a = c.args in
    let p = c.requires in
    read_between c.wide.ensures.0 (cap-least a.c a.lm a.band p.0 p.1 p.2 p.3) (cap-most a.c a.lm a.band)
