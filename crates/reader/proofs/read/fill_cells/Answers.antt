use Rattle.leaves.specs.Put.{put}
use Rattle.reader.proofs.Calls.{cells_each, stream-filled, rows_filled}
use Rattle.reader.proofs.Calls.{cells_each}
use Rattle.reader.proofs.Opens.{opened, fails_coded}
use Rattle.reader.proofs.Calls.{height_small, coded_kind, plain_kind, cells_room, rows_room}
use Rattle.reader.specs.Fields.{fields_in}
use Rattle.format.specs.Readers.{Fields}
use lib.ListN.{length}
use Prim.Native.Nat.{◌<◌}
use mathlib.Core.Path.{sym, ap, subst, ◌∙◌}
use native.Mathlib.Omega.{arith}
use Rattle.reader.proofs.read.fill_cells.Goals as goal

pub fill_stream-requires : goal.fill_stream-requires
fill_stream-requires c = let a = c.args in let t = fields_in a.t in let o = (opened a.file.now t c.requires.fields_read (subst (λ (f : Fields). f.height < 4294967296) (sym c.requires.fields_read) (height_small a.file.now (λ k. (c.shared_slice_known-1.given k).fits))) c.requires.not_17 c.requires.not_18) in let k = coded_kind t o.head.sound (sym c.is_coded.ensures ∙ c.if-is_coded.true) in record { offset_bound = omega arith; known_depth = k.0; width_bound = omega (arith, o.head.sound.wide); height_nonzero = rw c.shown_height.ensures o.head.sound.some_height; not_refused = rw c.shown_height.ensures (fails_coded a.file.now t c.requires.fields_read (sym c.is_coded.ensures ∙ c.if-is_coded.true) ∙ c.requires.not_19); width_in_bounds = rw c.shown_height.ensures (cells_room t (length a.cells.now) k.1 c.requires.t_in_bounds) }

pub returns-then-is_coded : goal.returns-then-is_coded
returns-then-is_coded c = let a = c.args in let t = fields_in a.t in let o = (opened a.file.now t c.requires.fields_read (subst (λ (f : Fields). f.height < 4294967296) (sym c.requires.fields_read) (height_small a.file.now (λ k. (c.shared_slice_known-1.given k).fits))) c.requires.not_17 c.requires.not_18) in c.fill_stream.ensures ∙ ap (put a.cells.now 0) (stream-filled a.file.now t o c.shown_height.result c.shown_height.ensures (sym c.is_coded.ensures ∙ c.if-is_coded.true) c.requires.not_19)

pub fill_rows-requires : goal.fill_rows-requires
fill_rows-requires c = let a = c.args in let t = fields_in a.t in let o = (opened a.file.now t c.requires.fields_read (subst (λ (f : Fields). f.height < 4294967296) (sym c.requires.fields_read) (height_small a.file.now (λ k. (c.shared_slice_known-1.given k).fits))) c.requires.not_17 c.requires.not_18) in record { written_kind = plain_kind t o.head.sound (sym c.is_coded.ensures ∙ c.if-is_coded.false); depth_in_bounds = rows_room t (length a.file.now) (o.rows (sym c.is_coded.ensures ∙ c.if-is_coded.false)); t_in_bounds = cells_each t (length a.cells.now) c.requires.t_in_bounds }

pub returns : goal.returns
returns c = let a = c.args in let t = fields_in a.t in let o = (opened a.file.now t c.requires.fields_read (subst (λ (f : Fields). f.height < 4294967296) (sym c.requires.fields_read) (height_small a.file.now (λ k. (c.shared_slice_known-1.given k).fits))) c.requires.not_17 c.requires.not_18) in c.fill_rows.ensures ∙ ap (put a.cells.now 0) (rows_filled a.file.now t o (sym c.is_coded.ensures ∙ c.if-is_coded.false))
