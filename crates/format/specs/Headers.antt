-- The headers, field by field in the order of Microsoft's pages. What a field holds is an argument.
use Rattle.std.specs.Prelude.{ℕ, List, [], ◌∷◌, ◌++◌, map, ℤ}
use Rattle.std.specs.Int.{w32}
use Rattle.std.proofs.Common.{of_z}
use Rattle.leaves.specs.Bytes.{le16, le32}

-- DWORDs in a row
unfoldable pub dwords : List ℕ → List ℕ
dwords [] = []
dwords (v ∷ vs) = le32 v ++ dwords vs

-- BITMAPFILEHEADER: bfType 'BM', bfSize, bfReserved1, bfReserved2, bfOffBits
unfoldable pub file_header : ℕ → ℕ → List ℕ
file_header file_size_of pixel_offset = le16 0x4D42 ++ le32 file_size_of ++ le16 0 ++ le16 0 ++ le32 pixel_offset

-- BITMAPINFOHEADER: biSize, biWidth, biHeight, biPlanes 1, biBitCount, biCompression, biSizeImage, biXPelsPerMeter, biYPelsPerMeter, biClrUsed, biClrImportant
unfoldable pub info_header : ℕ → ℕ → ℕ → ℕ → ℕ → ℕ → ℕ → ℕ → ℕ → List ℕ
info_header header_size_of width stored_height_of bit_count compression image_size_of x_pels y_pels clr_used_of =
    le32 header_size_of
    ++ le32 width
    ++ le32 stored_height_of
    ++ le16 1
    ++ le16 bit_count
    ++ le32 compression
    ++ le32 image_size_of
    ++ le32 x_pels
    ++ le32 y_pels
    ++ le32 clr_used_of
    ++ le32 0

-- BITMAPV4HEADER after its first 40 bytes: the masks of red, green, blue and alpha, bV4CSType, bV4Endpoints, the three gammas
unfoldable pub v4_fields : List ℕ → ℕ → List ℕ → List ℕ → List ℕ
v4_fields masks colour_space endpoints gammas = dwords masks ++ le32 colour_space ++ dwords endpoints ++ dwords gammas

-- BITMAPV5HEADER after its first 108 bytes: bV5Intent, bV5ProfileData, bV5ProfileSize, bV5Reserved
unfoldable pub v5_fields : ℕ → ℕ → ℕ → List ℕ
v5_fields intent profile_data profile_size = le32 intent ++ le32 profile_data ++ le32 profile_size ++ le32 0

-- a LONG or FXPT2DOT30 as its 32 bits
unfoldable pub longs : List ℤ → List ℕ
longs zs = map (of_z w32) zs
