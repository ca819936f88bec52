use mathlib.Core.Path.{◌≡◌}
use Prim.Native.Nat.{ℕ}
use Rattle.leaves.specs.Texts.{bytes_of}
use Rattle.messages.specs.Messages.{decimal, filled}
use Rattle.messages.proofs.MessageLaws.{says_as}
use Rattle.command.specs.SheetReads.{read_line}
use Rattle.command.proofs.reading.tell_read.Goals as goal

same : (width height depth bytes w h d : ℕ) → w ≡ width → h ≡ height → d ≡ depth
    → filled (decimal w) (decimal h) (decimal d) (decimal bytes) read_line ≡ filled (decimal width) (decimal height) (decimal depth) (decimal bytes) read_line
same width height depth bytes w h d e f g = rw (e, f, g)

pub returns : goal.returns
unfolding read_line bytes_of
returns c =
    let a = c.args in
    says_as (same a.width a.height a.depth a.bytes c.from.result c.from-2.result c.from-3.result c.from.ensures c.from-2.ensures c.from-3.ensures) c.tell.ensures
