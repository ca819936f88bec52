use mathlib.Core.List.{List}
use mathlib.Core.Bool.{Bool}
use mathlib.Core.Path.{◌≡◌}
use Prim.Native.Nat.{ℕ, min}
use Rattle.leaves.specs.declared.encoder.EncodeSource.{EncodeSource}
use Rattle.leaves.specs.declared.image.BmpPixelFormat.{BmpPixelFormat}
use Rattle.leaves.specs.Texts.{bytes_of}
use Rattle.arguments.specs.Options.{option_names, option_named, is_given, has_palette_of, format_asked}
use Rattle.arguments.specs.Words.{up_to, place_among, alike, words_of}
use Rattle.command.specs.Runs.{sheet_source}
use Rattle.command.proofs.run.sheet_source.Goals as goal

made : (ws : List (List ℕ)) (width height : ℕ) (f : BmpPixelFormat) (w h : ℕ) (p i l : Bool) → f ≡ format_asked ws → w ≡ min width 0xFFFFFFFF → h ≡ min height 0xFFFFFFFF
    → p ≡ has_palette_of ws → i ≡ is_given 22 ws → l ≡ is_given 23 ws
    → ◌≡◌ {A = EncodeSource} (record { format = f; width = w; height = h; stride = width; has_palette = p; has_icc = i; has_linked_icc = l }) (sheet_source ws width height)
unfolding sheet_source bytes_of option_names option_named place_among alike up_to
made ws width height f w h p i l ef ew eh ep ei el = rw (ef, ew, eh, ep, ei, el)

pub returns : goal.returns
returns c =
    let a = c.args in
    made (words_of a.words.now) a.width a.height c.format_asked-format.result c.at_most_32_bits.result c.at_most_32_bits-2.result c.has_palette.result c.is_given.result c.is_given-2.result
    c.format_asked-format.ensures c.at_most_32_bits.ensures c.at_most_32_bits-2.ensures c.has_palette.ensures c.is_given.ensures c.is_given-2.ensures
