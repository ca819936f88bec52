-- A call's arguments as the record that the definitions take.
use Rattle.std.specs.Prelude.{ℕ, List}
use Rattle.leaves.specs.declared.encoder.EncodeSource.{EncodeSource}
use Rattle.leaves.specs.declared.options.EncodeOptions.{EncodeOptions}
use Rattle.format.specs.Input.{Input}

abbrev pub called : EncodeSource → EncodeOptions → List ℕ → List ℕ → List ℕ → List ℕ → Input
called source options plane palette icc linked =
    record { source = source; options = options; plane = plane; palette = palette; icc = icc; linked = linked }

-- the same once the profile is chosen: whichever of the two is meant, it is this one
abbrev pub chosen : EncodeSource → EncodeOptions → List ℕ → List ℕ → List ℕ → Input
chosen source options plane palette profile = called source options plane palette profile profile
