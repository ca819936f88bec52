use Rattle.cells.proofs.CellLaws.{eight_bits, depth_one, known_bytes, known_indices}
use lib.ListN.{length}
use mathlib.Core.Path.{refl}
use Rattle.cells.proofs.indices.put_indices.Goals as goal

pub widen-requires : goal.widen-requires
widen-requires c = let a = c.args in record { n_in_bounds = eight_bits a.depth a.n a.from (length a.file.now) c.if-depth-eq8.true c.requires.depth_in_bounds; cells_in_bounds = c.requires.n_in_bounds }

pub returns-then-depth-eq8 : goal.returns-then-depth-eq8
returns-then-depth-eq8 c = let a = c.args in known_indices a.file.now a.cells.now _ a.from a.depth 8 a.n a.to c.if-depth-eq8.true c.widen.ensures

pub unpack-requires : goal.unpack-requires
unpack-requires c = let a = c.args in record { table_depth = refl; n_bound = c.requires.n_bound; depth_in_bounds = known_bytes a.depth 4 a.n a.from (length a.file.now) c.if-depth-eq4.true c.requires.depth_in_bounds; n_in_bounds = c.requires.n_in_bounds }

pub returns-then-depth-eq4 : goal.returns-then-depth-eq4
returns-then-depth-eq4 c = let a = c.args in known_indices a.file.now a.cells.now _ a.from a.depth 4 a.n a.to c.if-depth-eq4.true c.unpack.ensures

pub unpack-requires-then-depth-eq2 : goal.unpack-requires-then-depth-eq2
unpack-requires-then-depth-eq2 c = let a = c.args in record { table_depth = refl; n_bound = c.requires.n_bound; depth_in_bounds = known_bytes a.depth 2 a.n a.from (length a.file.now) c.if-depth-eq2.true c.requires.depth_in_bounds; n_in_bounds = c.requires.n_in_bounds }

pub returns-then-depth-eq2 : goal.returns-then-depth-eq2
returns-then-depth-eq2 c = let a = c.args in known_indices a.file.now a.cells.now _ a.from a.depth 2 a.n a.to c.if-depth-eq2.true c.unpack-then-depth-eq2.ensures

pub unpack-requires-2 : goal.unpack-requires-2
unpack-requires-2 c = let a = c.args in record { table_depth = refl; n_bound = c.requires.n_bound; depth_in_bounds = known_bytes a.depth 1 a.n a.from (length a.file.now) (depth_one a.depth c.requires.table_depth c.if-depth-eq8.false c.if-depth-eq4.false c.if-depth-eq2.false) c.requires.depth_in_bounds; n_in_bounds = c.requires.n_in_bounds }

pub returns : goal.returns
returns c = let a = c.args in known_indices a.file.now a.cells.now _ a.from a.depth 1 a.n a.to (depth_one a.depth c.requires.table_depth c.if-depth-eq8.false c.if-depth-eq4.false c.if-depth-eq2.false) c.unpack-2.ensures
