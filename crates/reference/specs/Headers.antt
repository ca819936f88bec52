-- The header writers (encoder.rs, section "Header writers"). An i32 is its 32 bits.
use Rattle.std.specs.Prelude.{ℕ, cond, List, [], ◌∷◌, ltb, leb, eqb, ℤ, length, get_or, replicate}
use Rattle.std.specs.Int.{w32}
use Rattle.std.proofs.Common.{of_z}
use Rattle.reference.specs.Rust.{Run, done, ◌>>=◌, u32, mul, cast, unsigned_abs, to_le_bytes, at, push, extend, for, for_each}
use Rattle.reference.specs.Types.{Palette}
use Rattle.reference.specs.Packing.{row_stride}

-- out.extend_from_slice(..) of each in turn
unfoldable pub extend_all : List ℕ → List (List ℕ) → List ℕ
extend_all out [] = out
extend_all out (bytes ∷ more) = extend_all (extend out bytes) more

abbrev le2 : ℕ → List ℕ
le2 = to_le_bytes 2

abbrev le4 : ℕ → List ℕ
le4 = to_le_bytes 4

-- fn palette_entry_count(bpp: u16) -> usize
unfoldable pub palette_entry_count : ℕ → ℕ
palette_entry_count bpp = cond (eqb bpp 1) 2 (cond (eqb bpp 2) 4 (cond (eqb bpp 4) 16 (cond (eqb bpp 8) 256 0)))

-- fn write_file_header(out: &mut Vec<u8>, file_size: u32, pixel_offset: u32)
unfoldable pub write_file_header : List ℕ → ℕ → ℕ → List ℕ
write_file_header out file_size_of pixel_offset = extend_all out (le2 0x4D42 ∷ le4 file_size_of ∷ le2 0 ∷ le2 0 ∷ le4 pixel_offset ∷ [])

-- fn write_dib_header_v3(out, w: u32, stored_height: i32, bpp: u16, compression: u32, image_size: u32)
unfoldable pub write_dib_header_v3 : List ℕ → ℕ → ℕ → ℕ → ℕ → ℕ → List ℕ
write_dib_header_v3 out w stored_height_of bpp compression image_size_of =
    extend_all out (le4 40 ∷ le4 w ∷ le4 stored_height_of ∷ le2 1 ∷ le2 bpp ∷ le4 compression ∷ le4 image_size_of ∷ le4 2835 ∷ le4 2835 ∷ le4 0 ∷ le4 0 ∷ [])

-- fn write_color_table(out: &mut Vec<u8>, palette: &Palette, entries: usize): the turn of its loop
unfoldable pub write_entry : Palette → ℕ → List ℕ → Run (List ℕ)
write_entry palette i out =
    cond (ltb i (length palette.entries))
    (do
      let rgb = get_or palette.entries i []
      b ← at rgb 2
      g ← at rgb 1
      r ← at rgb 0
      done (push (push (push (push out b) g) r) 0))
    (done (extend out (0 ∷ 0 ∷ 0 ∷ 0 ∷ [])))

unfoldable pub write_color_table : List ℕ → Palette → ℕ → Run (List ℕ)
write_color_table out palette entries = for entries (write_entry palette) out

-- fn write_dib_header_v3_indexed(out, w: u32, stored_height: i32, bpp: u16, compression: u32, palette: &Palette, entries: usize)
unfoldable pub write_dib_header_v3_indexed : List ℕ → ℕ → ℕ → ℕ → ℕ → Palette → ℕ → Run (List ℕ)
write_dib_header_v3_indexed out w stored_height_of bpp compression palette entries =
    let image_size_of : ℕ = 0 in
    let full = palette_entry_count bpp in
    let clr_used_of = cond (leb full entries) 0 (cast u32 entries) in
    write_color_table
    (extend_all out (le4 40 ∷ le4 w ∷ le4 stored_height_of ∷ le2 1 ∷ le2 bpp ∷ le4 compression ∷ le4 image_size_of ∷ le4 2835 ∷ le4 2835 ∷ le4 clr_used_of ∷ le4 0 ∷ []))
    palette entries

-- fn write_dib_header_v4_bitfields(out: &mut Vec<u8>, w: u32, stored_height: i32)
unfoldable pub write_dib_header_v4_bitfields : List ℕ → ℕ → ℕ → Run (List ℕ)
write_dib_header_v4_bitfields out w stored_height_of = do
  stride ← row_stride w 16
  pixel_bytes ← mul u32 (cast u32 stride) (unsigned_abs stored_height_of)
  done (extend_all out (le4 108 ∷ le4 w ∷ le4 stored_height_of ∷ le2 1 ∷ le2 16 ∷ le4 3 ∷ le4 pixel_bytes ∷ le4 2835 ∷ le4 2835 ∷ le4 0 ∷ le4 0
      ∷ le4 0xF800 ∷ le4 0x07E0 ∷ le4 0x001F ∷ le4 0x0000 ∷ le4 0x73524742 ∷ replicate 36 0 ∷ replicate 12 0 ∷ []))

-- fn write_dib_header_v4_calibrated(out, w: u32, stored_height: i32, bpp: u16, image_size: u32, compression: u32, masks: [u32; 4], clr_used: u32, endpoints: [i32; 9], gamma_rgb: [u32; 3])
unfoldable pub write_dib_header_v4_calibrated : List ℕ → ℕ → ℕ → ℕ → ℕ → ℕ → List ℕ → ℕ → List ℤ → List ℕ → Run (List ℕ)
write_dib_header_v4_calibrated out w stored_height_of bpp image_size_of compression masks clr_used_of endpoints gamma_rgb = do
  red ← at masks 0
  green ← at masks 1
  blue ← at masks 2
  alpha ← at masks 3
  let headed = extend_all out (le4 108 ∷ le4 w ∷ le4 stored_height_of ∷ le2 1 ∷ le2 bpp ∷ le4 compression ∷ le4 image_size_of ∷ le4 2835 ∷ le4 2835 ∷ le4 clr_used_of ∷ le4 0
      ∷ le4 red ∷ le4 green ∷ le4 blue ∷ le4 alpha ∷ le4 0 ∷ [])
  placed ← for_each endpoints (λ v o. done (extend o (le4 (of_z w32 v)))) headed
  for_each gamma_rgb (λ g o. done (extend o (le4 g))) placed

-- fn write_dib_header_v5_with_profile(out, w: u32, stored_height: i32, bpp: u16, image_size: u32, compression: u32, masks: [u32; 4], cs_type: u32, rendering_intent: u32, profile_data_offset: u32, profile_size: u32)
unfoldable pub write_dib_header_v5_with_profile : List ℕ → ℕ → ℕ → ℕ → ℕ → ℕ → List ℕ → ℕ → ℕ → ℕ → ℕ → Run (List ℕ)
write_dib_header_v5_with_profile out w stored_height_of bpp image_size_of compression masks cs_type rendering_intent profile_data_offset profile_size = do
  red ← at masks 0
  green ← at masks 1
  blue ← at masks 2
  alpha ← at masks 3
  done (extend_all out (le4 124 ∷ le4 w ∷ le4 stored_height_of ∷ le2 1 ∷ le2 bpp ∷ le4 compression ∷ le4 image_size_of ∷ le4 2835 ∷ le4 2835 ∷ le4 0 ∷ le4 0
      ∷ le4 red ∷ le4 green ∷ le4 blue ∷ le4 alpha ∷ le4 cs_type ∷ replicate 36 0 ∷ replicate 12 0
      ∷ le4 rendering_intent ∷ le4 profile_data_offset ∷ le4 profile_size ∷ le4 0 ∷ []))

-- fn write_dib_header_v5_indexed_with_profile(out, w: u32, stored_height: i32, bpp: u16, image_size: u32, clr_used: u32, cs_type: u32, rendering_intent: u32, profile_data_offset: u32, profile_size: u32)
unfoldable pub write_dib_header_v5_indexed_with_profile : List ℕ → ℕ → ℕ → ℕ → ℕ → ℕ → ℕ → ℕ → ℕ → ℕ → List ℕ
write_dib_header_v5_indexed_with_profile out w stored_height_of bpp image_size_of clr_used_of cs_type rendering_intent profile_data_offset profile_size =
    extend_all out (le4 124 ∷ le4 w ∷ le4 stored_height_of ∷ le2 1 ∷ le2 bpp ∷ le4 0 ∷ le4 image_size_of ∷ le4 2835 ∷ le4 2835 ∷ le4 clr_used_of ∷ le4 0
    ∷ replicate 16 0 ∷ le4 cs_type ∷ replicate 36 0 ∷ replicate 12 0 ∷ le4 rendering_intent ∷ le4 profile_data_offset ∷ le4 profile_size ∷ le4 0 ∷ [])
