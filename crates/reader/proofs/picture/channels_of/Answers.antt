use Rattle.reader.specs.Channels.{five_bits, channels_for}
use borrow.Author.Tests.{ne_eqb}
use Rattle.reader.proofs.picture.channels_of.Goals as goal

pub returns-then-compression-eq-BI_RGB : goal.returns-then-compression-eq-BI_RGB
unfolding channels_for five_bits
returns-then-compression-eq-BI_RGB c = (rw c.if-compression-eq-BI_RGB.true c.five_bits.ensures.0, c.five_bits.ensures.1)

pub returns : goal.returns
unfolding channels_for
returns c = (rw (ne_eqb c.args.compression 0 c.if-compression-eq-BI_RGB.false, c.channel_of-red.ensures.0, c.channel_of-green.ensures.0, c.channel_of-blue.ensures.0, c.channel_of-alpha.ensures.0, c.dword_at.ensures, c.dword_at-2.ensures, c.dword_at-3.ensures, c.alpha_mask.ensures), record { red = c.channel_of-red.ensures.1; green = c.channel_of-green.ensures.1; blue = c.channel_of-blue.ensures.1; alpha = c.channel_of-alpha.ensures.1 })
