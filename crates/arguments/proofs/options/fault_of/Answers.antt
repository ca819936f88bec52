use mathlib.Core.Bool.{Bool, not}
use mathlib.Core.Path.{ap, ◌∙◌}
use Rattle.std.specs.Prelude.{is_some}
use Rattle.arguments.specs.declared.options.Fault.TheVariants.{NoValue, NoNumber, UnknownFormat, NotMasks, NotCalibrated, NoStride, NoLimit, NoPels}
use Rattle.arguments.specs.Numbers.{is_number, is_number32}
use Rattle.arguments.specs.Options.{unless, formats, format_numbered, is_format}
use Rattle.arguments.proofs.FaultLaws.{has_element, a_format, a_count, a_stride, masks, calibrated, a_limit, resolutions, a_file, no_other}
use Rattle.arguments.proofs.options.fault_of.Goals as goal

pub returns-in-Format : goal.returns-in-Format
unfolding is_format formats
returns-in-Format c =
    let a = c.args in
    c.unless.ensures ∙ ap (λ (b : Bool). unless b UnknownFormat) (c.is_some.ensures ∙ ap is_some c.format_called.ensures ∙ has_element formats (format_numbered a.value.now)) ∙ a_format a.value.now a.option c.in-Format.is

pub returns-in-Width : goal.returns-in-Width
unfolding is_number32
returns-in-Width c =
    let a = c.args in
    c.unless-in-Width.ensures ∙ ap (λ (b : Bool). unless b NoNumber) (c.is_some-in-Width.ensures ∙ ap is_some c.number32.ensures) ∙ a_count a.value.now a.option c.in-Width.is

pub returns-in-Stride : goal.returns-in-Stride
unfolding is_number
returns-in-Stride c =
    let a = c.args in
    c.unless-in-Stride.ensures ∙ ap (λ (b : Bool). unless b NoStride) (c.is_some-in-Stride.ensures ∙ ap is_some c.number.ensures.value) ∙ a_stride a.value.now a.option c.in-Stride.is

pub returns-in-Bitfields : goal.returns-in-Bitfields
returns-in-Bitfields c =
    let a = c.args in
    c.unless-in-Bitfields.ensures ∙ ap (λ (b : Bool). unless b NotMasks) c.are_masks.ensures ∙ masks a.value.now a.option c.in-Bitfields.is

pub returns-in-Calibrated : goal.returns-in-Calibrated
returns-in-Calibrated c =
    let a = c.args in
    c.unless-in-Calibrated.ensures ∙ ap (λ (b : Bool). unless b NotCalibrated) c.are_numbers.ensures ∙ calibrated a.value.now a.option c.in-Calibrated.is

pub returns-in-Limit : goal.returns-in-Limit
unfolding is_number
returns-in-Limit c =
    let a = c.args in
    c.unless-in-Limit.ensures ∙ ap (λ (b : Bool). unless b NoLimit) (c.is_some-in-Limit.ensures ∙ ap is_some c.number-in-Limit.ensures.value) ∙ a_limit a.value.now a.option c.in-Limit.is

pub returns-in-Pels : goal.returns-in-Pels
returns-in-Pels c =
    let a = c.args in
    c.unless-in-Pels.ensures ∙ ap (λ (b : Bool). unless b NoPels) c.are_numbers-in-Pels.ensures ∙ resolutions a.value.now a.option c.in-Pels.is

pub returns-in-Plane : goal.returns-in-Plane
returns-in-Plane c =
    let a = c.args in
    c.unless-in-Plane.ensures ∙ ap (λ (b : Bool). unless (not b) NoValue) c.is_empty.ensures ∙ a_file a.value.now a.option c.in-Plane.is

pub returns-in_default : goal.returns-in_default
returns-in_default c =
    let a = c.args in
    let n = c.in_default in
    no_other a.value.now a.option n.not-Format n.not-Width n.not-Height n.not-Stride n.not-RenderingIntent n.not-Bitfields n.not-Calibrated n.not-Limit n.not-Pels n.not-Plane n.not-Csv n.not-Palette n.not-Icc n.not-LinkedIcc n.not-Out n.not-Read n.not-Edges n.not-Lows n.not-Highs
