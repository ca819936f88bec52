-- What a message says: a line in which pieces stand for marks, with numbers in decimal.
use Rattle.std.specs.Prelude.{cond, ◌≡◌, Option, Some, None, slice_get, List, [], ◌∷◌, ◌++◌, ℕ, zero, suc, ◌+◌, ◌-◌, ◌/◌, ◌%◌, eqb, ltb, length, take}
use Rattle.leaves.specs.Put.{put}
use Rattle.messages.specs.declared.message.Piece.{Piece}
use Rattle.messages.specs.declared.message.Piece.TheVariants.{Text, Number}

-- a number in decimal, k digits at most
unfoldable pub decimal_in : ℕ → ℕ → List ℕ
decimal_in zero n = []
decimal_in (suc k) n = cond (ltb n 10) ((48 + n) ∷ []) (decimal_in k (n / 10) ++ ((48 + n % 10) ∷ []))

-- 20 digits hold any number of 64 bits
unfoldable pub decimal : ℕ → List ℕ
decimal = decimal_in 20

-- the bytes of a piece, and of piece k; none where there is no such piece
abbrev pub piece_bytes : Piece → List ℕ
piece_bytes (Text bytes) = bytes.now
piece_bytes (Number n) = decimal n

abbrev pub bytes_or_none : Option Piece → List ℕ
bytes_or_none None = []
bytes_or_none (Some piece) = piece_bytes piece

abbrev pub piece_at : List Piece → ℕ → List ℕ
piece_at pieces k = bytes_or_none (slice_get pieces k)

-- four pieces, for the marks @ # % and &; any other byte stands for itself
unfoldable pub piece_for : List ℕ → List ℕ → List ℕ → List ℕ → ℕ → List ℕ
piece_for a b c d x = cond (eqb x 64) a (cond (eqb x 35) b (cond (eqb x 37) c (cond (eqb x 38) d (x ∷ []))))

-- a text with its marks filled in
unfoldable pub filled : List ℕ → List ℕ → List ℕ → List ℕ → List ℕ → List ℕ
filled a b c d [] = []
filled a b c d (x ∷ xs) = piece_for a b c d x ++ filled a b c d xs

-- as much of a message as fits stands in lent memory from a place on, and `to` is the place behind it
pub record Says (was : List ℕ) (at : ℕ) (message later : List ℕ) (to : ℕ) : Type 0 where
  pub text : later ≡ put was at (take (length was - at) message)
  pub behind : to ≡ at + length (take (length was - at) message)
