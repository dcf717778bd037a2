-- the bytes of words
use Rattle.std.specs.Prelude.{ℕ, ◌/◌, ◌%◌, List, [], ◌∷◌, ◌++◌}

-- the four bytes of a word, least significant first
abbrev pub four : ℕ → List ℕ
four w = (w % 256) ∷ (w / 256 % 256) ∷ (w / 65536 % 256) ∷ (w / 16777216 % 256) ∷ []

-- the bytes of one word after another
unfoldable pub spread : List ℕ → List ℕ
spread [] = []
spread (w ∷ ws) = four w ++ spread ws
