use mathlib.Core.Path.{refl, sym, ap}
use Prim.Native.Nat.{◌+◌, ◌*◌, ◌/◌}
use native.Mathlib.Omega.{arith}
use lib.ListN.{get_or, drop}
use Rattle.leaves.specs.Lists.{tab}
use Rattle.leaves.proofs.ListLaws.{length-tab}
use Rattle.format.specs.Decode.{cell_at}
use Rattle.cells.specs.Streams.{cells_in}
use Rattle.cells.proofs.Codes.{pair_is, pair_told, block_is, block_told, good_pair, good_long, good_room, good_data, good_there}
use Rattle.cells.proofs.Within.{within_as, within-put}
use Rattle.cells.proofs.stream.fill_code.Goals as goal

pub put_pair-requires : goal.put_pair-requires
put_pair-requires c =
    let a = c.args in
    let r = c.requires in
    record { n_le_room = good_pair a.file.now a.at a.depth a.room r.room_nonzero (good_there a.file.now a.at a.depth a.room r.not_refused) r.not_refused; room_in_bounds = r.room_in_bounds }

pub returns-then-first-ne0 : goal.returns-then-first-ne0
returns-then-first-ne0 c =
    let a = c.args in
    let r = c.requires in
    let t = good_there a.file.now a.at a.depth a.room r.not_refused in
    let n = good_pair a.file.now a.at a.depth a.room r.room_nonzero t r.not_refused in
    record {
      answer = (pair_told a.file.now a.at a.depth a.room r.room_nonzero t c.if-first-ne0.true n, omega arith);
      put_within = within_as (ap cells_in (sym (pair_is a.file.now a.at a.depth a.room r.room_nonzero t c.if-first-ne0.true n))) c.put_pair.ensures;
    }

pub put_indices-requires-clause-depth_in_bounds : goal.put_indices-requires-clause-depth_in_bounds
put_indices-requires-clause-depth_in_bounds c =
    let a = c.args in
    let r = c.requires in
    let t = good_there a.file.now a.at a.depth a.room r.not_refused in
    omega (arith, t, good_data a.file.now a.at a.depth a.room r.room_nonzero t r.not_refused c.if-first-ne0.false)

pub put_indices-requires-clause-n_in_bounds : goal.put_indices-requires-clause-n_in_bounds
put_indices-requires-clause-n_in_bounds c =
    let a = c.args in
    let r = c.requires in
    let t = good_there a.file.now a.at a.depth a.room r.not_refused in
    omega (arith, good_room a.file.now a.at a.depth a.room r.room_nonzero t r.not_refused c.if-first-ne0.false)

pub returns : goal.returns
returns c =
    let a = c.args in
    let r = c.requires in
    let t = good_there a.file.now a.at a.depth a.room r.not_refused in
    let z = c.if-first-ne0.false in
    let long = good_long a.file.now a.at a.depth a.room r.room_nonzero t r.not_refused z in
    let fits = good_room a.file.now a.at a.depth a.room r.room_nonzero t r.not_refused z in
    let held = good_data a.file.now a.at a.depth a.room r.room_nonzero t r.not_refused z in
    let n = get_or a.file.now (a.at + 1) 0 in
    let cells = tab (cell_at a.depth (drop (a.at + 2) a.file.now)) n in
    let is = block_is a.file.now a.at a.depth a.room r.room_nonzero t z ((n * a.depth + 7) / 8) refl long fits held in
    record {
      answer = (block_told a.file.now a.at a.depth a.room r.room_nonzero t z _ c.data_bytes-data.ensures.0 long fits (omega (arith, c.data_bytes-data.ensures.0, held)), omega (arith, c.data_bytes-data.ensures.1));
      put_within = within_as (ap cells_in (sym is)) (within-put a.cells.now a.to cells a.room _ c.put_indices.ensures (omega (arith, length-tab (cell_at a.depth (drop (a.at + 2) a.file.now)) n, r.room_in_bounds, fits)));
    }
