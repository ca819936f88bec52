use mathlib.Core.Path.{sym, ap, ◌∙◌}
use mathlib.Core.List.{[], ◌∷◌}
use Rattle.std.proofs.Common.{Ok, Err}
use Rattle.std.proofs.lemmas.Result.{err_from_is_err_and}
use Rattle.leaves.specs.declared.error.Refusal.TheVariants.{MaskSource}
use Rattle.leaves.specs.Formats.{mask_source}
use Rattle.leaves.specs.Masks.{bitfields_rows}
use Rattle.leaves.specs.Refusals.{first_of}
use Rattle.format.specs.Refusals.{given_masks_rows}
use Rattle.leaves.proofs.FirstOf.{check_determined, first_pass, first_stop}
use Rattle.planner.proofs.plan.check_masks.Goals as goal

pub returns-in_err-validate : goal.returns-in_err-validate
unfolding given_masks_rows
returns-in_err-validate c =
    let rows = bitfields_rows c.in-Some.bitfields.bpp c.in-Some.bitfields.masks in
    let p = err_from_is_err_and c.from_residual.result c.from_residual.ensures.1 in
    let why = c.in_err-validate.field-0.0 in
    rw c.in-Some.is (p.1 ∙ ap Err p.2 ∙ sym (first_stop rows ((mask_source c.args.src.format, MaskSource) ∷ []) why (sym (check_determined (Err why) (first_of rows) c.in_err-validate.ensures))))

pub returns-in_err-check_source : goal.returns-in_err-check_source
unfolding given_masks_rows
returns-in_err-check_source c =
    let rows = bitfields_rows c.in-Some.bitfields.bpp c.in-Some.bitfields.masks in
    let p = err_from_is_err_and c.from_residual-in_err-check_source.result c.from_residual-in_err-check_source.ensures.1 in
    rw c.in-Some.is (p.1 ∙ ap Err p.2 ∙ c.in_err-check_source.ensures ∙ sym (first_pass rows ((mask_source c.args.src.format, MaskSource) ∷ []) (sym (check_determined (Ok tt) (first_of rows) c.in_ok-validate.ensures))))

pub returns-in_ok-check_source : goal.returns-in_ok-check_source
unfolding given_masks_rows
returns-in_ok-check_source c =
    let rows = bitfields_rows c.in-Some.bitfields.bpp c.in-Some.bitfields.masks in
    rw c.in-Some.is (c.in_ok-check_source.ensures ∙ sym (first_pass rows ((mask_source c.args.src.format, MaskSource) ∷ []) (sym (check_determined (Ok tt) (first_of rows) c.in_ok-validate.ensures))))

pub returns-in_default : goal.returns-in_default
unfolding given_masks_rows
returns-in_default c = rw c.in_default.is
