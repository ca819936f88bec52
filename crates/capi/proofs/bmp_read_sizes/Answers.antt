use Rattle.capi.specs.Reading.{sizes_answer}
use mathlib.Core.Path.{ap, ◌∙◌}
use Rattle.capi.proofs.bmp_read_sizes.Goals as goal

pub returns : goal.returns
returns c = c.sizes_answer.ensures ∙ ap sizes_answer c.read_sizes-answer.ensures
