use Rattle.reader.specs.Channels.{five_bits}
use Rattle.reader.proofs.picture.five_bits.Goals as goal

pub returns : goal.returns
unfolding five_bits
returns c = (rw (c.channel_of-red.ensures.0, c.channel_of-green.ensures.0, c.channel_of-blue.ensures.0, c.channel_of-alpha.ensures.0), record { red = c.channel_of-red.ensures.1; green = c.channel_of-green.ensures.1; blue = c.channel_of-blue.ensures.1; alpha = c.channel_of-alpha.ensures.1 })
