use Rattle.cells.proofs.Blocks.{the_second}
use mathlib.Core.Logic.{inl, inr}
use mathlib.Core.Path.{refl}
use Rattle.cells.proofs.colours.known_place.Goals as goal

pub place_of-requires : goal.place_of-requires
place_of-requires c = record { known_size = inl refl; k_bound = c.requires.k_bound }

pub returns-then-size-eq3 : goal.returns-then-size-eq3
returns-then-size-eq3 c = rw c.if-size-eq3.true c.place_of.ensures

pub place_of-requires-2 : goal.place_of-requires-2
place_of-requires-2 c = record { known_size = inr refl; k_bound = c.requires.k_bound }

pub returns : goal.returns
returns c = rw (the_second c.requires.known_size c.if-size-eq3.false) c.place_of-2.ensures
