use Rattle.reader.specs.Refusals.{masks_of}
use Rattle.reader.specs.Fields.{fields_in}
use Rattle.leaves.specs.Refusals.{first_number}
use Rattle.leaves.specs.Masks.{bitfields_rows}
use Prim.Native.Nat.{ℕ}
use mathlib.Core.List.{List}
use mathlib.Core.Path.{ap}
use borrow.Author.Tests.{not-true, not-false}
use mathlib.Core.Path.{sym, ◌∙◌}
use Rattle.leaves.proofs.FirstOf.{refuses}
use Rattle.reader.proofs.Heads.{no_masks, masks_cut, masks_checked}
use Rattle.reader.proofs.checks.strange_masks.Goals as goal

pub returns-then-not-has_masks : goal.returns-then-not-has_masks
returns-then-not-has_masks c = no_masks c.args.file.now c.args.t.compression c.args.t.depth (sym c.has_masks.ensures ∙ not-true _ c.if-not-has_masks.true-raw)

pub returns-then-file-masks_end : goal.returns-then-file-masks_end
returns-then-file-masks_end c = masks_cut c.args.file.now c.args.t.compression c.args.t.depth (rw (← c.masks_end.ensures) c.if-file-masks_end.true)

pub returns : goal.returns
unfolding masks_of
returns c = c.is_err.ensures.value ∙ refuses c.validate.result ∙ masks_checked c.args.file.now (fields_in c.args.t) _ c.requires (sym c.has_masks.ensures ∙ not-false _ c.if-not-has_masks.false-raw) (rw (← c.masks_end.ensures) c.if-file-masks_end.false) (c.validate.ensures ∙ ap (λ (m : List ℕ). first_number (bitfields_rows c.args.t.depth m)) (rw (c.dword_at-red.ensures, c.dword_at-green.ensures, c.dword_at-blue.ensures, c.alpha_mask-alpha.ensures)))
