use mathlib.Core.Path.{refl, ap, ◌∙◌}
use mathlib.Core.Logic.{inl, inr}
use lib.ListN.{length}
use Rattle.leaves.specs.Put.{put}
use Rattle.reader.specs.Fields.{fields_in}
use Rattle.reader.proofs.PlainRows.{way, row_indices, row_bytes_lem, index_row, byte_row, bits_fit, bytes_fit, one_room, four_room, bytes_each, is_32_words, known_size, known_words}
use native.Mathlib.Omega.{arith}
use Rattle.reader.proofs.picture.put_row.Goals as goal

pub put_indices-requires : goal.put_indices-requires
put_indices-requires c = let a = c.args in let t = fields_in a.t in let w = way t c.requires.written_kind in let q = row_indices t w c.if-depth-le8.true in record { table_depth = q.0; n_bound = omega arith; depth_in_bounds = omega (arith, bits_fit a.t.width a.t.depth, c.requires.depth_in_bounds); n_in_bounds = one_room t a.to (length a.cells.now) c.if-depth-le8.true c.requires.t_in_bounds }

pub returns-then-depth-le8 : goal.returns-then-depth-le8
returns-then-depth-le8 c = let a = c.args in let t = fields_in a.t in let w = way t c.requires.written_kind in c.put_indices.ensures ∙ ap (put a.cells.now a.to) (index_row a.file.now t a.from c.if-depth-le8.true (row_indices t w c.if-depth-le8.true).1)

pub put_bytes-requires : goal.put_bytes-requires
put_bytes-requires c = let a = c.args in let t = fields_in a.t in let w = way t c.requires.written_kind in let q = row_bytes_lem t w c.if-depth-le8.false c.if-t-depth.true in record { known_size = bytes_each a.t.depth q.0; size_in_bounds = omega (arith, c.requires.depth_in_bounds, bytes_fit a.t.width a.t.depth (inr q.0)); n_in_bounds = four_room t a.to (length a.cells.now) c.if-depth-le8.false c.requires.t_in_bounds }

pub returns-then-t-depth : goal.returns-then-t-depth
returns-then-t-depth c = let a = c.args in let t = fields_in a.t in let w = way t c.requires.written_kind in let q = row_bytes_lem t w c.if-depth-le8.false c.if-t-depth.true in c.put_bytes.ensures ∙ ap (put a.cells.now a.to) (byte_row a.file.now t a.from q.0 q.1)

pub put_words16-requires : goal.put_words16-requires
put_words16-requires c = let a = c.args in let t = fields_in a.t in let w = way t c.requires.written_kind in record { channels_read = c.requires.channels_read; channels_ok = c.requires.channels_ok; n_in_bounds = known_size a.t.width a.t.depth 16 2 a.from (length a.file.now) c.if-depth-eq16.true refl (inl refl) c.requires.depth_in_bounds; cells_in_bounds = four_room t a.to (length a.cells.now) c.if-depth-le8.false c.requires.t_in_bounds }

pub returns-then-depth-eq16 : goal.returns-then-depth-eq16
returns-then-depth-eq16 c = let a = c.args in let t = fields_in a.t in let w = way t c.requires.written_kind in known_words a.file.now a.cells.now _ t a.from a.to 16 a.channels c.if-depth-eq16.true w c.if-depth-le8.false c.if-t-depth.false c.requires.channels_read c.put_words16.ensures

pub put_words-requires : goal.put_words-requires
put_words-requires c = let a = c.args in let t = fields_in a.t in let w = way t c.requires.written_kind in record { known_depth = inr refl; channels_ok = c.requires.channels_ok; depth_in_bounds = known_size a.t.width a.t.depth 32 4 a.from (length a.file.now) (is_32_words t w c.if-depth-le8.false c.if-t-depth.false c.if-depth-eq16.false) refl (inr (inr refl)) c.requires.depth_in_bounds; n_in_bounds = four_room t a.to (length a.cells.now) c.if-depth-le8.false c.requires.t_in_bounds }

pub returns : goal.returns
returns c = let a = c.args in let t = fields_in a.t in let w = way t c.requires.written_kind in known_words a.file.now a.cells.now _ t a.from a.to 32 a.channels (is_32_words t w c.if-depth-le8.false c.if-t-depth.false c.if-depth-eq16.false) w c.if-depth-le8.false c.if-t-depth.false c.requires.channels_read c.put_words.ensures
