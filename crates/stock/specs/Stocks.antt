-- What each call of a stock answers and leaves, by what the stock holds. Assumes nothing.
use Rattle.std.specs.Prelude.{ℕ, Bool, cond, List, map, length, Some, None, Option, ◌==◌, nat_lt, slice_set}
use Rattle.std.specs.List.{range_with_len}
use Rattle.fault.specs.Faults.{at_slot}
use Rattle.fault.specs.declared.stock.StockFault.{StockFault}
use Rattle.fault.specs.declared.stock.StockCause.TheVariants.{NoSlot, WrongLength, BadSlot, BlankSlot}
use Rattle.stock.specs.declared.condition.Condition.{Condition}
use Rattle.stock.specs.declared.condition.Condition.TheVariants as condition
use Rattle.stock.specs.Refusals.{unless}
use Rattle.stock.specs.Sizes.{listed}
use Rattle.stock.specs.Slots.{Slot, bad, blank, filled, Contents, with_slots, slot_at, bytes_in}

abbrev pub condition_of : Slot → Condition
condition_of bad = condition.Bad
condition_of blank = condition.Blank
condition_of (filled bs) = condition.Filled

-- the condition of slot i
abbrev pub condition_at : Contents → ℕ → Condition
condition_at h i = cond (nat_lt i (length h.slots)) (condition_of (slot_at h i)) condition.NoSlot

-- 7 where the row or area is not one frame long, else what is given
abbrev pub fitting : Bool → ℕ → Option StockFault → Option StockFault
fitting fits i o = cond fits o (Some (at_slot WrongLength i))

-- Which refusal a call meets first at slot i, by the slot's condition and by whether the row `fits`: 6 where there is no such
-- slot, then 7, then 8 where it is bad, then 9 where it is blank and a frame is to be got.
abbrev pub put_refusal : Condition → ℕ → Bool → Option StockFault
put_refusal condition.NoSlot i fits = Some (at_slot NoSlot i)
put_refusal condition.Bad i fits = fitting fits i (Some (at_slot BadSlot i))
put_refusal condition.Blank i fits = fitting fits i None
put_refusal condition.Filled i fits = fitting fits i None

abbrev pub clear_refusal : Condition → ℕ → Option StockFault
clear_refusal condition.NoSlot i = Some (at_slot NoSlot i)
clear_refusal condition.Bad i = Some (at_slot BadSlot i)
clear_refusal condition.Blank i = None
clear_refusal condition.Filled i = None

abbrev pub get_refusal : Condition → ℕ → Bool → Option StockFault
get_refusal condition.NoSlot i fits = Some (at_slot NoSlot i)
get_refusal condition.Bad i fits = fitting fits i (Some (at_slot BadSlot i))
get_refusal condition.Blank i fits = fitting fits i (Some (at_slot BlankSlot i))
get_refusal condition.Filled i fits = fitting fits i None

-- the same of a stock's slot and a row of so many bytes
abbrev pub put_fault : Contents → ℕ → ℕ → Option StockFault
put_fault h i len = put_refusal (condition_at h i) i (len == h.frame)

abbrev pub clear_fault : Contents → ℕ → Option StockFault
clear_fault h i = clear_refusal (condition_at h i) i

abbrev pub get_fault : Contents → ℕ → ℕ → Option StockFault
get_fault h i len = get_refusal (condition_at h i) i (len == h.frame)

-- what the stock holds after a put and after a clear, and what the area holds after a get
abbrev pub after_put : Contents → ℕ → List ℕ → Contents
after_put h i bs = unless (put_fault h i (length bs)) (with_slots h (slice_set h.slots i (filled bs))) h

abbrev pub after_clear : Contents → ℕ → Contents
after_clear h i = unless (clear_fault h i) (with_slots h (slice_set h.slots i blank)) h

abbrev pub got : Contents → ℕ → List ℕ → List ℕ
got h i before = unless (get_fault h i (length before)) (bytes_in (slot_at h i)) before

-- a stock of s slots made fresh: each is blank, or bad if listed
abbrev pub fresh_contents : ℕ → ℕ → List ℕ → Contents
fresh_contents n s bads = record { frame = n; slots = map (λ i. cond (listed bads i) bad blank) (range_with_len 0 s) }
