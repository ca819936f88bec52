use Rattle.reader.specs.Fields.{fields_in}
use mathlib.Core.Path.{sym, ◌∙◌}
use Rattle.reader.proofs.Heads.{sizes_refused, kind_refused, masks_decide}
use Rattle.reader.proofs.checks.never_written.Goals as goal

pub returns-then-strange_sizes : goal.returns-then-strange_sizes
returns-then-strange_sizes c = sizes_refused c.args.file.now (fields_in c.args.t) c.requires _ _ c.word_at.ensures.0 c.strange_sizes.ensures c.if-strange_sizes.true

pub returns-then-strange_kind : goal.returns-then-strange_kind
returns-then-strange_kind c = kind_refused c.args.file.now (fields_in c.args.t) c.requires _ c.strange_kind.ensures c.if-strange_kind.true

pub strange_masks-requires : goal.strange_masks-requires
strange_masks-requires c = sym c.strange_kind.ensures ∙ c.if-strange_kind.false

pub returns : goal.returns
returns c = masks_decide c.args.file.now (fields_in c.args.t) c.requires _ _ _ _ c.word_at.ensures.0 c.strange_sizes.ensures c.if-strange_sizes.false c.strange_kind.ensures c.if-strange_kind.false c.strange_masks.ensures
