-- Numbers in a row of places, the empty places behind them. Assumes nothing.
use Rattle.std.specs.Prelude.{◌≡◌, ℕ, ◌<◌, List, [], ◌∷◌, Some, None, Option, slice_index_or}

-- the numbers, up to the first empty place
abbrev pub numbers : List (Option ℕ) → List ℕ
numbers [] = []
numbers (None ∷ ps) = []
numbers (Some x ∷ ps) = x ∷ numbers ps

-- behind an empty place there are only empty places
abbrev pub Packed : List (Option ℕ) → Type 0
Packed ps = (j k : ℕ) → j < k → slice_index_or ps j None ≡ None → slice_index_or ps k None ≡ None
