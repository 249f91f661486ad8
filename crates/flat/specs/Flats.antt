-- What a flat area stands for: slot after slot, a mark byte and then a frame of n bytes. Assumes nothing.
use Rattle.std.specs.Prelude.{◌≡◌, ℕ, ◌+◌, ◌*◌, ◌/◌, ◌<◌, min, Bool, cond, List, map, length, ◌==◌, ◌≢◌, slice_index, slice_set}
use Rattle.std.specs.List.{range_with_len}
use Rattle.stock.specs.Areas.{written, row_at}
use Rattle.stock.specs.Slots.{Slot, bad, blank, filled, Contents}
use Rattle.stock.specs.Sizes.{listed}
use Rattle.stock.specs.declared.condition.Condition.{Condition}
use Rattle.stock.specs.declared.condition.Condition.TheVariants.{Bad, Filled, Blank}

-- how many slots an area of so many bytes has
abbrev pub flat_count : ℕ → ℕ → ℕ
flat_count n len = min (len / (n + 1)) 65536

abbrev pub mark_at : ℕ → List ℕ → ℕ → ℕ
mark_at n area i = slice_index area (i * (n + 1))

abbrev pub body_at : ℕ → List ℕ → ℕ → List ℕ
body_at n area i = row_at n (i * (n + 1) + 1) area

-- a slot by its mark and its bytes: mark 1 means filled, every other blank
abbrev pub marked : ℕ → List ℕ → Slot
marked m bs = cond (m == 1) (filled bs) blank

-- its condition, by whether it is listed as bad and by its mark
abbrev pub flat_condition : Bool → ℕ → Condition
flat_condition b m = cond b Bad (cond (m == 1) Filled Blank)

-- the list of bad slots outranks the marks
abbrev pub flat_slot : ℕ → List ℕ → List ℕ → ℕ → Slot
flat_slot n bads area i = cond (listed bads i) bad (marked (mark_at n area i) (body_at n area i))

abbrev pub flat_contents : ℕ → ℕ → List ℕ → List ℕ → Contents
flat_contents n s bads area = record { frame = n; slots = map (flat_slot n bads area) (range_with_len 0 s) }

-- the area after a put and after a clear of slot i: its bytes and its mark change, or its mark alone
abbrev pub flat_put : ℕ → ℕ → List ℕ → List ℕ → List ℕ
flat_put n i bs area = slice_set (written (i * (n + 1) + 1) bs area) (i * (n + 1)) 1

abbrev pub flat_clear : ℕ → ℕ → List ℕ → List ℕ
flat_clear n i area = slice_set area (i * (n + 1)) 0

-- the marks of s slots are 0, and every other byte is as it was
pub record Unmarked (n s : ℕ) (before after : List ℕ) : Type 0 where
  pub as_long : length after ≡ length before
  pub marks : (i : ℕ) → i < s → mark_at n after i ≡ 0
  pub others : (j : ℕ) → ((i : ℕ) → i < s → j ≢ i * (n + 1)) → slice_index after j ≡ slice_index before j
