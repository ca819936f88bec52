-- What a call is handed: the picture and the options as the code has them, and the lent slices as lists.
use Rattle.std.specs.Prelude.{ℕ, List}
use Rattle.leaves.specs.declared.encoder.EncodeSource.{EncodeSource}
use Rattle.leaves.specs.declared.options.EncodeOptions.{EncodeOptions}

pub record Input : Type 0 where
  pub source : EncodeSource
  pub options : EncodeOptions
  pub plane : List ℕ
  -- red, green, blue, alpha for each entry
  pub palette : List ℕ
  pub icc : List ℕ
  pub linked : List ℕ
