use mathlib.Core.Path.{◌≡◌, refl, ◌∙◌}
use Prim.Native.Nat.{ℕ}
use Rattle.std.proofs.Common.{is_some}
use Rattle.std.proofs.lemmas.Result.{err_from_is_err_and}
use Rattle.leaves.specs.declared.encoder.EncodeSource.{EncodeSource}
use Rattle.leaves.specs.declared.options.EncodeOptions.{EncodeOptions}
use Rattle.leaves.specs.Formats.{is_indexed, bytes_per_pixel}
use Rattle.leaves.specs.Refusals.{first_of, or_else, profile_mode, dimension_rows, settings_rows, palette_rows, mode_rows, plane_rows}
use Rattle.format.specs.Refusals.{given_masks_rows, check_rows}
use Rattle.leaves.proofs.FirstOf.{first-or}
use Rattle.leaves.proofs.Signs.{read_back}
use Rattle.planner.proofs.plan.checks.Goals.{After-check_settings}
use Rattle.planner.proofs.plan.checks.Goals as goal

-- the groups of rows in turn
module _ (s : EncodeSource) (o : EncodeOptions) (m n : ℕ) where
  in_turn : first_of (check_rows s o m n)
      ≡ or_else (or_else (or_else (or_else (or_else
      (first_of (dimension_rows s.width s.height))
      (first_of (settings_rows o.limit o.x_pels_per_meter o.y_pels_per_meter)))
      (first_of (palette_rows (is_indexed s.format) s.has_palette n)))
      (first_of (mode_rows (is_some o.bitfields) (is_some o.calibrated_rgb) (profile_mode s.has_linked_icc s.has_icc o.embed_icc))))
      (first_of (given_masks_rows s o)))
      (first_of (plane_rows s.width s.height s.stride (bytes_per_pixel s.format) m))
  unfolding check_rows
  in_turn = simp first-or

-- the settings that are looked at are the call's
settings_asked : (c : After-check_settings) → c.check_settings.result ≡ first_of (settings_rows c.args.options.limit c.args.options.x_pels_per_meter c.args.options.y_pels_per_meter)
settings_asked c =
    let o = c.args.options in
    let x = read_back o.x_pels_per_meter o.x_pels_per_meter c.struct_told-1.given.1.1.1.1.1.1.1.1.0.1 refl in
    let y = read_back o.y_pels_per_meter o.y_pels_per_meter c.struct_told-2-1.given.1.1.1.1.1.1.1.1.1.0.1 refl in
    c.check_settings.ensures ∙ (λ z. first_of (settings_rows o.limit (x z) (y z)))

pub returns-in_err-check_dimensions : goal.returns-in_err-check_dimensions
returns-in_err-check_dimensions c =
    let a = c.args in
    let p = err_from_is_err_and c.from_residual.result c.from_residual.ensures.1 in
    rw (in_turn a.src a.options a.plane_bytes a.palette_bytes, ← c.in_err-check_dimensions.ensures, p.1, p.2)

pub returns-in_err-check_settings : goal.returns-in_err-check_settings
returns-in_err-check_settings c =
    let a = c.args in
    let p = err_from_is_err_and c.from_residual-in_err-check_settings.result c.from_residual-in_err-check_settings.ensures.1 in
    rw (in_turn a.src a.options a.plane_bytes a.palette_bytes, ← c.in_ok-check_dimensions.ensures, ← settings_asked (goal.at.returns-in_err-check_settings c).After-check_settings, c.in_err-check_settings.was, p.1, p.2)

pub returns-in_err-check_palette : goal.returns-in_err-check_palette
returns-in_err-check_palette c =
    let a = c.args in
    let p = err_from_is_err_and c.from_residual-in_err-check_palette.result c.from_residual-in_err-check_palette.ensures.1 in
    rw (in_turn a.src a.options a.plane_bytes a.palette_bytes, ← c.in_ok-check_dimensions.ensures, ← settings_asked (goal.at.returns-in_err-check_palette c).After-check_settings, c.in_ok-check_settings.was, ← c.is_indexed.ensures, ← c.in_err-check_palette.ensures, p.1, p.2)

pub returns-in_err-check_modes : goal.returns-in_err-check_modes
returns-in_err-check_modes c =
    let a = c.args in
    let p = err_from_is_err_and c.from_residual-in_err-check_modes.result c.from_residual-in_err-check_modes.ensures.1 in
    rw (in_turn a.src a.options a.plane_bytes a.palette_bytes, ← c.in_ok-check_dimensions.ensures, ← settings_asked (goal.at.returns-in_err-check_modes c).After-check_settings, c.in_ok-check_settings.was, ← c.is_indexed.ensures, ← c.in_ok-check_palette.ensures, ← c.is_some.ensures, ← c.is_some-2.ensures, ← c.profile_mode-profile.ensures, ← c.in_err-check_modes.ensures, p.1, p.2)

pub returns-in_err-check_masks : goal.returns-in_err-check_masks
returns-in_err-check_masks c =
    let a = c.args in
    let p = err_from_is_err_and c.from_residual-in_err-check_masks.result c.from_residual-in_err-check_masks.ensures.1 in
    rw (in_turn a.src a.options a.plane_bytes a.palette_bytes, ← c.in_ok-check_dimensions.ensures, ← settings_asked (goal.at.returns-in_err-check_masks c).After-check_settings, c.in_ok-check_settings.was, ← c.is_indexed.ensures, ← c.in_ok-check_palette.ensures, ← c.is_some.ensures, ← c.is_some-2.ensures, ← c.profile_mode-profile.ensures, ← c.in_ok-check_modes.ensures, ← c.in_err-check_masks.ensures, p.1, p.2)

pub returns : goal.returns
returns c =
    let a = c.args in
    rw (in_turn a.src a.options a.plane_bytes a.palette_bytes, ← c.in_ok-check_dimensions.ensures, ← settings_asked (goal.at.returns c).After-check_settings, c.in_ok-check_settings.was, ← c.is_indexed.ensures, ← c.in_ok-check_palette.ensures, ← c.is_some.ensures, ← c.is_some-2.ensures, ← c.profile_mode-profile.ensures, ← c.in_ok-check_modes.ensures, ← c.in_ok-check_masks.ensures, ← c.bytes_per_pixel.ensures, c.check_plane.ensures)
