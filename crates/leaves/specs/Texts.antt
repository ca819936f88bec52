-- The bytes of texts that stand in definitions.
use mathlib.Core.List as L
use Rattle.std.specs.Prelude.{ℕ, List}
use Prim.Native.String.{String, [], ◌∷◌}
use Prim.Native.Char.{code}

unfoldable pub bytes_of : String → List ℕ
bytes_of [] = L.[]
bytes_of (c ∷ cs) = L.◌∷◌ (code c) (bytes_of cs)

-- texts with a mark between them
unfoldable pub joined : ℕ → List (List ℕ) → List ℕ
joined mark L.[] = L.[]
joined mark (L.◌∷◌ t L.[]) = t
joined mark (L.◌∷◌ t (L.◌∷◌ u us)) = L.◌++◌ t (L.◌∷◌ mark (joined mark (L.◌∷◌ u us)))
