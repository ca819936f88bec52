use Rattle.reader.proofs.PlainRows.{without_masks}
use mathlib.Core.Logic.{inl}
use mathlib.Core.Path.{refl}
use Rattle.reader.proofs.picture.put_words16.Goals as goal

pub put_words-requires : goal.put_words-requires
put_words-requires c = let a = c.args in record { known_depth = inl refl; channels_ok = c.five_bits.ensures.1; depth_in_bounds = c.requires.n_in_bounds; n_in_bounds = c.requires.cells_in_bounds }

pub returns-then-compression-eq-BI_RGB : goal.returns-then-compression-eq-BI_RGB
returns-then-compression-eq-BI_RGB c = let a = c.args in without_masks a.file.now a.cells.now _ a.compression a.channels _ a.from a.n a.to c.if-compression-eq-BI_RGB.true c.requires.channels_read c.five_bits.ensures.0 c.put_words.ensures

pub put_words-requires-2 : goal.put_words-requires-2
put_words-requires-2 c = let a = c.args in record { known_depth = inl refl; channels_ok = c.requires.channels_ok; depth_in_bounds = c.requires.n_in_bounds; n_in_bounds = c.requires.cells_in_bounds }

pub returns : goal.returns
returns c = c.put_words-2.ensures
