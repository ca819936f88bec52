-- What is known of an accepted call, in numbers and lists.
use Rattle.std.specs.Prelude.{ℕ, ◌*◌, ◌^◌, ◌≤◌, ◌<◌, ◌≡◌, ◌⊎◌, true, false, List, length, get_or, is_some}
use Rattle.std.specs.Int.Bits.{bit_and}
use Rattle.format.specs.File.{max_file, limit_in, file_size_of}
use Rattle.leaves.specs.Formats.{bytes_per_pixel, mask_source}
use Rattle.leaves.specs.Masks.{is_one_run}
use Rattle.leaves.specs.Options.{bitfields_in, calibrated_in}
use Rattle.format.specs.Input.{Input}

-- masks that the check accepts
pub record MasksAccepted (depth : ℕ) (masks : List ℕ) : Type 0 where
  pub depths : (depth ≡ 16) ⊎ (depth ≡ 32)
  pub inside : (k : ℕ) → k < 4 → get_or masks k 0 < 2 ^ depth
  pub runs : (k : ℕ) → k < 4 → is_one_run (get_or masks k 0) ≡ true
  pub apart : (j k : ℕ) → j < k → k < 4 → bit_and (get_or masks j 0) (get_or masks k 0) ≡ 0

pub record Accepted (i : Input) : Type 0 where
  pub some_width : 0 < i.source.width
  pub wide : i.source.width < 2147483648
  pub some_height : 0 < i.source.height
  pub tall : i.source.height < 2147483648
  pub plane_bytes_is : (k : ℕ) → get_or i.plane k 0 < 256
  pub palette_bytes_is : (k : ℕ) → get_or i.palette k 0 < 256
  -- the code has them as arrays of nine and of three
  pub nine_endpoints : length (calibrated_in i.options).endpoints ≡ 9
  pub three_gammas : length (calibrated_in i.options).gamma ≡ 3
  pub rows_inside : i.source.width * bytes_per_pixel i.source.format ≤ i.source.stride
  pub plane_long : i.source.stride * i.source.height ≤ length i.plane
  pub masks : is_some i.options.bitfields ≡ true → MasksAccepted (bitfields_in i.options).bpp (bitfields_in i.options).masks
  pub samples : is_some i.options.bitfields ≡ true → mask_source i.source.format ≡ false
  -- the file keeps to the limit, and the limit to what bfSize can record
  pub fits : file_size_of (limit_in i) i ≤ limit_in i
  pub limited : limit_in i ≤ max_file
