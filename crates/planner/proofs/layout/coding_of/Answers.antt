use mathlib.Core.Path.{sym, ap, ◌∙◌}
use mathlib.Core.Bool.{not, ◌&&◌}
use borrow.Author.Tests.{not-true}
use Rattle.leaves.specs.Formats.{bits_per_pixel}
use Rattle.leaves.proofs.Tests.{and_first, and_second}
use Rattle.format.specs.Layout.{is_plain, coded, coding_at}
use Rattle.planner.proofs.LayoutLaws.{coding_tested, coding_untested}
use Rattle.planner.proofs.layout.coding_of.Goals.{else-rle-via-else-rle, else-rle-via-then-rle+else-not-top_down, else-rle-via-then-rle+then-not-top_down+else-is_plain}
use Rattle.planner.proofs.layout.coding_of.Goals as goal

pub returns-then-is_plain : goal.returns-then-is_plain
returns-then-is_plain c =
    let a = c.args in
    c.coding_at.ensures ∙ ap coding_at c.bits_per_pixel.ensures
    ∙ coding_tested (is_plain a.mode) a.rle a.top_down (coding_at (bits_per_pixel a.format)) (sym c.is_plain.ensures ∙ c.if-is_plain.true) c.if-rle.true
    (not-true a.top_down c.if-not-top_down.true-raw)

pub returns : goal.returns
returns c =
    let a = c.args in
    let p = is_plain a.mode in
    let k = coded a.format in
    let off = coding_untested p k a.rle a.top_down (coding_at (bits_per_pixel a.format)) in
    elim (c.else-rle.branch) [ else-rle-via-then-rle+then-not-top_down+else-is_plain w ↦ off (and_first (p && k && a.rle) (not a.top_down) (and_first (p && k) a.rle (and_first p k (sym w.is_plain.ensures ∙ w.if-is_plain.false)))) | else-rle-via-then-rle+else-not-top_down w ↦ off (and_second (p && k && a.rle) (not a.top_down) w.if-not-top_down.false-raw) | else-rle-via-else-rle w ↦ off (and_first (p && k && a.rle) (not a.top_down) (and_second (p && k) a.rle w.if-rle.false)) ]
