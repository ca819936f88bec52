use Rattle.reader.specs.Fields.{fields_in}
use lib.ListN.{length}
use mathlib.Core.Path.{sym, ◌∙◌}
use Rattle.reader.proofs.Calls.{coded_kind, plain_kind}
use Rattle.reader.proofs.PlainRows.{one_room}
use Rattle.reader.proofs.OneRow.{head_of_lem, row_inside, fails_row, start_inside, row_passes, coded_shown, plain_shown}
use native.Mathlib.Omega.{arith}
use Rattle.reader.proofs.row.fill_one.Goals as goal

pub fill_row-requires : goal.fill_row-requires
fill_row-requires c = let a = c.args in let f = a.file.now in let t = fields_in a.t in let p = row_passes f t c.requires.fields_read a.start (length a.cells.now) c.requires.none_applies in let h = head_of_lem f t (λ k. (c.shared_slice_known-1.given k).fits) c.requires.fields_read p.never p.head in let e = (sym c.is_coded.ensures ∙ c.if-is_coded.true) in let k = coded_kind t h.sound e in record { start_bound = omega (arith, start_inside f t a.start e h.sound.some_width p.fills); known_depth = k.0; width_bound = omega (arith, h.sound.wide); not_refused = fails_row f t a.start e ∙ p.fills; width_in_bounds = one_room t 0 (length a.cells.now) k.1 (omega (arith, p.room)) }

pub returns-then-is_coded : goal.returns-then-is_coded
returns-then-is_coded c = let a = c.args in let f = a.file.now in let t = fields_in a.t in let p = row_passes f t c.requires.fields_read a.start (length a.cells.now) c.requires.none_applies in let h = head_of_lem f t (λ k. (c.shared_slice_known-1.given k).fits) c.requires.fields_read p.never p.head in let e = (sym c.is_coded.ensures ∙ c.if-is_coded.true) in coded_shown f t h a.start a.cells.now _ e (fails_row f t a.start e ∙ p.fills) c.fill_row.ensures.cells_after

pub put_row-requires : goal.put_row-requires
put_row-requires c = let a = c.args in let f = a.file.now in let t = fields_in a.t in let p = row_passes f t c.requires.fields_read a.start (length a.cells.now) c.requires.none_applies in let h = head_of_lem f t (λ k. (c.shared_slice_known-1.given k).fits) c.requires.fields_read p.never p.head in let e = (sym c.is_coded.ensures ∙ c.if-is_coded.false) in record { written_kind = plain_kind t h.sound e; channels_read = c.channels_of.ensures.0; channels_ok = c.channels_of.ensures.1; depth_in_bounds = row_inside (length f) t a.start e p.row; t_in_bounds = omega (arith, p.room) }

pub returns : goal.returns
returns c = let a = c.args in let f = a.file.now in let t = fields_in a.t in let p = row_passes f t c.requires.fields_read a.start (length a.cells.now) c.requires.none_applies in let h = head_of_lem f t (λ k. (c.shared_slice_known-1.given k).fits) c.requires.fields_read p.never p.head in let e = (sym c.is_coded.ensures ∙ c.if-is_coded.false) in plain_shown f t h a.start a.cells.now _ e (row_inside (length f) t a.start e p.row) c.put_row.ensures
