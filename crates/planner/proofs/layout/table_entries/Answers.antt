use mathlib.Core.Path.{sym, ap, ◌∙◌}
use mathlib.Core.Bool.{Bool, cond}
use Prim.Native.Nat.{ℕ, ◌/◌}
use native.Mathlib.Omega.{arith}
use Rattle.leaves.specs.Formats.{bits_per_pixel}
use Rattle.leaves.specs.Sizes.{written_palette_entries}
use Rattle.format.specs.Layout.{table_entries}
use Rattle.format.proofs.HeadTable.{entries_small}
use Rattle.planner.proofs.layout.table_entries.Goals as goal

pub returns-then-is_indexed : goal.returns-then-is_indexed
unfolding table_entries
returns-then-is_indexed c =
    let a = c.args in
    let e = c.written_palette_entries.ensures ∙ ap (λ (d : ℕ). written_palette_entries d (a.palette_bytes / 4) a.minimal_palette) c.bits_per_pixel-bpp.ensures
    ∙ sym (ap (λ (x : Bool). cond x (written_palette_entries (bits_per_pixel a.format) (a.palette_bytes / 4) a.minimal_palette) 0) (sym c.is_indexed.ensures ∙ c.if-is_indexed.true)) in
    (e, omega (arith, e, entries_small a.format a.palette_bytes a.minimal_palette))

pub returns : goal.returns
unfolding table_entries
returns c = (rw (← c.is_indexed.ensures, c.if-is_indexed.false), omega arith)
