use Rattle.reader.specs.Fields.{fields_in}
use lib.ListN.{length}
use mathlib.Core.Path.{sym, ◌∙◌}
use Rattle.reader.proofs.Heads.{head_cut, outside_computed, sound_at, first_inside, rows_small}
use native.Mathlib.Omega.{arith}
use Rattle.reader.proofs.checks.outside_file.Goals as goal

pub returns-then-head_outside : goal.returns-then-head_outside
returns-then-head_outside c = let a = c.args in let f = a.file.now in let t = fields_in a.t in head_cut f t c.requires.fields_read _ c.head_outside.ensures c.if-head_outside.true

pub overflow_mul-rows : goal.overflow_mul-rows
overflow_mul-rows c = let a = c.args in let f = a.file.now in let t = fields_in a.t in rw (c.shown_height.ensures, c.row_stride.ensures) (omega (arith, rows_small t (sound_at f t c.requires.fields_read (first_inside (length f) t (sym c.head_outside.ensures ∙ c.if-head_outside.false)) c.struct_known-1.given.1.1.1.0.fits c.requires.not_17)))

pub overflow_add-rows : goal.overflow_add-rows
overflow_add-rows c = let a = c.args in let f = a.file.now in let t = fields_in a.t in rw (c.shown_height.ensures, c.row_stride.ensures) (omega (arith, rows_small t (sound_at f t c.requires.fields_read (first_inside (length f) t (sym c.head_outside.ensures ∙ c.if-head_outside.false)) c.struct_known-1.given.1.1.1.0.fits c.requires.not_17)))

pub profile_bytes-profile-requires : goal.profile_bytes-profile-requires
profile_bytes-profile-requires c = c.requires.fields_read

pub overflow_add-profile_end : goal.overflow_add-profile_end
overflow_add-profile_end c = omega (arith, c.profile_at.ensures.1)

pub returns : goal.returns
returns c = let a = c.args in let f = a.file.now in let t = fields_in a.t in outside_computed f t c.requires.fields_read _ _ _ _ _ _ c.head_outside.ensures c.if-head_outside.false c.is_coded.ensures c.shown_height.ensures c.row_stride.ensures c.profile_at.ensures.0 c.profile_bytes-profile.ensures
