use Rattle.reader.proofs.Opens.{opened, fails_coded, fails_never}
use Rattle.reader.proofs.Calls.{height_small, coded_kind}
use borrow.Author.Tests.{not-true, not-false}
use Rattle.reader.specs.Fields.{fields_in}
use Rattle.format.specs.Readers.{Fields}
use Prim.Native.Nat.{◌<◌}
use mathlib.Core.Path.{sym, subst, ◌∙◌}
use native.Mathlib.Omega.{arith}
use Rattle.reader.proofs.read.fails.Goals as goal

pub returns-then-not-is_coded : goal.returns-then-not-is_coded
returns-then-not-is_coded c = let a = c.args in let t = fields_in a.t in fails_never a.file.now t c.requires.fields_read (sym c.is_coded.ensures ∙ not-true _ c.if-not-is_coded.true-raw)

pub stream_fails-requires : goal.stream_fails-requires
stream_fails-requires c = let a = c.args in let t = fields_in a.t in let o = (opened a.file.now t c.requires.fields_read (subst (λ (f : Fields). f.height < 4294967296) (sym c.requires.fields_read) (height_small a.file.now (λ k. (c.shared_slice_known-1.given k).fits))) c.requires.not_17 c.requires.not_18) in let k = coded_kind t o.head.sound (sym c.is_coded.ensures ∙ not-false _ c.if-not-is_coded.false-raw) in record { offset_bound = omega arith; depth_bound = k.1; width_bound = omega (arith, o.head.sound.wide); height_nonzero = rw c.shown_height.ensures o.head.sound.some_height }

pub returns : goal.returns
returns c = let a = c.args in let t = fields_in a.t in c.stream_fails.ensures ∙ rw c.shown_height.ensures (fails_coded a.file.now t c.requires.fields_read (sym c.is_coded.ensures ∙ not-false _ c.if-not-is_coded.false-raw))
