use Rattle.reader.specs.Fields.{fields_in}
use mathlib.Core.Path.{sym, ◌∙◌}
use borrow.Author.Tests.{not-true, not-false}
use Rattle.reader.proofs.Calls.{coded_kind}
use Rattle.reader.proofs.OneRow.{head_of_lem, fails_plain, fails_stream, fails_past}
use native.Mathlib.Omega.{arith}
use Rattle.reader.proofs.row.row_fails.Goals as goal

pub returns-then-not-is_coded : goal.returns-then-not-is_coded
returns-then-not-is_coded c = let a = c.args in let f = a.file.now in let t = fields_in a.t in fails_plain f t a.start (sym c.is_coded.ensures ∙ not-true _ c.if-not-is_coded.true-raw)

pub returns-then-file-start : goal.returns-then-file-start
returns-then-file-start c = let a = c.args in let f = a.file.now in let t = fields_in a.t in fails_past f t a.start (sym c.is_coded.ensures ∙ not-false _ c.if-not-is_coded.false-raw) (head_of_lem f t (λ k. (c.shared_slice_known-1.given k).fits) c.requires.fields_read c.requires.not_17 c.requires.head_inside).sound.some_width c.if-file-start.true

pub stream_fails-requires : goal.stream_fails-requires
stream_fails-requires c = let a = c.args in let f = a.file.now in let t = fields_in a.t in let s = (head_of_lem f t (λ k. (c.shared_slice_known-1.given k).fits) c.requires.fields_read c.requires.not_17 c.requires.head_inside).sound in record { offset_bound = omega (arith, c.if-file-start.false); depth_bound = (coded_kind t s (sym c.is_coded.ensures ∙ not-false _ c.if-not-is_coded.false-raw)).1; width_bound = omega (arith, s.wide); height_nonzero = omega arith }

pub returns : goal.returns
returns c = let a = c.args in let f = a.file.now in let t = fields_in a.t in c.stream_fails.ensures ∙ fails_stream f t a.start (sym c.is_coded.ensures ∙ not-false _ c.if-not-is_coded.false-raw)
