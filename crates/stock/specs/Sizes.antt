-- Frame lengths and lists of bad slots. Assumes nothing.
use Rattle.std.specs.Prelude.{◌≡◌, ℕ, ◌<◌, Bool, true, false, cond, ◌&&◌, List, [], ◌∷◌, ◌++◌, length, Some, None, Option, ◌==◌, nat_le, nat_lt, slice_index}
use Rattle.stock.specs.Refusals.{unless}
use Rattle.fault.specs.declared.shape.ShapeFault.{ShapeFault}
use Rattle.fault.specs.declared.shape.ShapeFault.TheVariants.{FrameSize, ListFull}

-- 1: a frame length outside 16 to 8,208
abbrev pub size_fault : ℕ → Option ShapeFault
size_fault n = cond (nat_le 16 n && nat_le n 8208) None (Some FrameSize)

-- whether i stands in the list
abbrev pub listed : List ℕ → ℕ → Bool
listed [] i = false
listed (x ∷ xs) i = cond (x == i) true (listed xs i)

-- no number stands twice
abbrev pub Distinct : List ℕ → Type 0
Distinct xs = (j k : ℕ) → (j < length xs) × (k < length xs) × (slice_index xs j ≡ slice_index xs k) → j ≡ k

-- 15: a seventeenth that is not yet listed
abbrev pub list_fault : List ℕ → ℕ → Option ShapeFault
list_fault xs i = cond (listed xs i) None (cond (nat_lt (length xs) 16) None (Some ListFull))

-- the list after i is added: at its end, unless it is listed or refused
abbrev pub with_listed : List ℕ → ℕ → List ℕ
with_listed xs i = cond (listed xs i) xs (unless (list_fault xs i) (xs ++ i ∷ []) xs)
