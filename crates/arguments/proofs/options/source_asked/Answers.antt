use mathlib.Core.List.{List}
use mathlib.Core.Bool.{Bool}
use mathlib.Core.Path.{ap, ◌∙◌, ◌≡◌}
use Prim.Native.Nat.{ℕ}
use Rattle.std.specs.Prelude.{Option}
use Rattle.std.specs.Option.{unwrap_or}
use Rattle.leaves.specs.declared.encoder.EncodeSource.{EncodeSource}
use Rattle.leaves.specs.declared.image.BmpPixelFormat.{BmpPixelFormat}
use Rattle.arguments.specs.Options.{option_names, option_named, is_given, value_of, format_asked, stride_asked, has_palette_of, source_asked}
use Rattle.arguments.specs.Words.{up_to, place_among, alike, words_of}
use Rattle.leaves.specs.Texts.{bytes_of}
use Rattle.arguments.specs.Numbers.{number32}
use Rattle.arguments.proofs.options.source_asked.Goals as goal

made : (ws : List (List ℕ)) (f : BmpPixelFormat) (w h s : ℕ) (p i l : Bool) → f ≡ format_asked ws → w ≡ unwrap_or (number32 (value_of 11 ws)) 0 → h ≡ unwrap_or (number32 (value_of 12 ws)) 0
    → s ≡ stride_asked ws w f → p ≡ has_palette_of ws → i ≡ is_given 22 ws → l ≡ is_given 23 ws
    → ◌≡◌ {A = EncodeSource} (record { format = f; width = w; height = h; stride = s; has_palette = p; has_icc = i; has_linked_icc = l }) (source_asked ws)
unfolding source_asked bytes_of option_names option_named place_among alike up_to
made ws f w h s p i l ef ew eh es ep ei el = rw (es, ef, ew, eh, ep, ei, el)

pub returns : goal.returns
returns c =
    let format = c.format_asked-format in
    let width = c.unwrap_or-width in
    let height = c.unwrap_or in
    made (words_of c.args.words.now) format.result width.result height.result c.stride.result c.has_palette.result c.is_given.result c.is_given-2.result
    format.ensures (width.ensures ∙ ap (λ (n : Option ℕ). unwrap_or n 0) (c.number32.ensures ∙ ap number32 c.value_of.ensures)) (height.ensures ∙ ap (λ (n : Option ℕ). unwrap_or n 0) (c.number32-2.ensures ∙ ap number32 c.value_of-2.ensures))
    c.stride.ensures c.has_palette.ensures c.is_given.ensures c.is_given-2.ensures
