-- What a stock holds: a frame length and a row of slots, each bad, blank or filled with bytes. Assumes nothing.
use Rattle.std.specs.Prelude.{◌≡◌, ℕ, ◌<◌, Bool, true, false, List, [], length, ◌≢◌, slice_index_or}

pub data Slot : Type 0 where
  bad : Slot
  blank : Slot
  filled : List ℕ → Slot

pub record Contents : Type 0 where
  pub frame : ℕ
  pub slots : List Slot

abbrev pub with_slots : Contents → List Slot → Contents
with_slots h ss = record { frame = h.frame; slots = ss }

abbrev pub slot_at : Contents → ℕ → Slot
slot_at h i = slice_index_or h.slots i bad

abbrev pub bytes_in : Slot → List ℕ
bytes_in bad = []
bytes_in blank = []
bytes_in (filled bs) = bs

abbrev pub is_bad : Slot → Bool
is_bad bad = true
is_bad blank = false
is_bad (filled bs) = false

abbrev pub Framed : ℕ → Slot → Type 0
Framed n bad = Unit {0}
Framed n blank = Unit {0}
Framed n (filled bs) = length bs ≡ n

-- every frame that is held has the frame length
abbrev pub AllFramed : Contents → Type 0
AllFramed h = (i : ℕ) → i < length h.slots → Framed h.frame (slot_at h i)

-- a change of slot i at most: the frame length, the number of slots, which of them are bad and all the others stay
pub record OnlySlot (i : ℕ) (before after : Contents) : Type 0 where
  pub frame : after.frame ≡ before.frame
  pub count : length after.slots ≡ length before.slots
  pub bads : (k : ℕ) → is_bad (slot_at after k) ≡ is_bad (slot_at before k)
  pub others : (k : ℕ) → (k ≢ i) → slot_at after k ≡ slot_at before k
