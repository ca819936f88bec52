use mathlib.Core.List.{List}
use mathlib.Core.Bool.{Bool, not}
use mathlib.Core.Path.{ap, ◌∙◌, ◌≡◌}
use Prim.Native.Nat.{ℕ}
use lib.IntN.{ℤ}
use mir.Val.{to_z, of_z}
use mir.Syntax.{w32}
use Rattle.std.proofs.Common.{Option}
use Rattle.std.specs.Bool.{then_some}
use Rattle.leaves.specs.declared.options.EncodeOptions.{EncodeOptions}
use Rattle.leaves.specs.declared.options.CalibratedRgb.{CalibratedRgb}
use Rattle.leaves.specs.declared.bitfields.BmpBitfields.{BmpBitfields}
use Rattle.arguments.specs.Options.{option_names, option_named, is_given, value_of, masks_asked, calibrated_asked, intent_asked, number_asked, pels_asked, options_asked}
use Rattle.arguments.specs.Words.{up_to, place_among, alike, words_of}
use Rattle.leaves.specs.Texts.{bytes_of}
use Rattle.leaves.proofs.Signs.{read_back}
use Rattle.arguments.proofs.options.options_asked.Goals as goal

made : (ws : List (List ℕ)) (t m n e : Bool) (masks : Option BmpBitfields) (intent : ℕ) (calibrated : Option CalibratedRgb) (limit : ℕ) (across down : ℤ)
    → t ≡ is_given 0 ws → m ≡ is_given 1 ws → n ≡ is_given 2 ws → e ≡ is_given 3 ws
    → masks ≡ then_some (is_given 15 ws) (masks_asked (value_of 15 ws)) → intent ≡ intent_asked ws → calibrated ≡ then_some (is_given 16 ws) (calibrated_asked (value_of 16 ws))
    → limit ≡ number_asked 17 4294967295 ws → across ≡ pels_asked 0 ws → down ≡ pels_asked 1 ws
    → ◌≡◌ {A = EncodeOptions}
    (record { top_down = t; minimal_palette = m; rle = not n; bitfields = masks; embed_icc = not e; rendering_intent = intent; calibrated_rgb = calibrated; limit = limit; x_pels_per_meter = across; y_pels_per_meter = down })
    (options_asked ws)
unfolding options_asked bytes_of option_names option_named place_among alike up_to
made ws t m n e masks intent calibrated limit across down et em en ee emasks eintent ecalibrated elimit eacross edown =
    rw (et, em, en, ee, emasks, eintent, ecalibrated, elimit, eacross, edown)

pub returns : goal.returns
returns c =
    let ws = words_of c.args.words.now in
    let masks = c.masks_asked-bitfields in
    let calibrated = c.calibrated_asked-calibrated_rgb in
    let across = c.pels in
    let down = c.pels-2 in
    made ws c.is_given.result c.is_given-2.result c.is_given-3.result c.is_given-5.result
    c.then_some.result c.intent.result c.then_some-2.result c.number_asked.result (to_z w32 (of_z w32 across.result)) (to_z w32 (of_z w32 down.result))
    c.is_given.ensures c.is_given-2.ensures c.is_given-3.ensures c.is_given-5.ensures
    (c.then_some.ensures ∙ (λ z. then_some (c.is_given-4.ensures z) ((masks.ensures ∙ ap masks_asked c.value_of.ensures) z))) c.intent.ensures
    (c.then_some-2.ensures ∙ (λ z. then_some (c.is_given-6.ensures z) ((calibrated.ensures ∙ ap calibrated_asked c.value_of-2.ensures) z)))
    c.number_asked.ensures (read_back across.result (pels_asked 0 ws) across.type_inv across.ensures) (read_back down.result (pels_asked 1 ws) down.type_inv down.ensures)
