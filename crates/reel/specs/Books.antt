-- The book of a reel: what stands at each address, told by the calls and their arguments alone. Assumes nothing.
use Rattle.std.specs.Prelude.{ℕ, ◌*◌, ◌%◌, Bool, true, cond, ◌&&◌, List, length, Some, None, Option, ◌==◌, nat_le, nat_lt, slice_set}
use Rattle.std.specs.Option.{option_map}
use Rattle.stock.specs.Refusals.{first, unless}
use Rattle.stock.specs.Slots.{Slot, Contents, with_slots, slot_at, bytes_in, filled, blank}
use Rattle.stock.specs.Stocks.{put_fault, clear_fault, get_fault}
use Rattle.fault.specs.declared.reel.ReelFault.{ReelFault}
use Rattle.fault.specs.declared.reel.ReelCause.TheVariants.{NotBlocks, NoAddress, WrongArea}
use Rattle.fault.specs.Faults.{at_address, passed_up}

-- A book begins with the frame length, the number of slots and which of them are bad, and is then fed each call with its
-- arguments. For each address it holds bad, blank or a frame.
pub record Book : Type 0 where
  pub held : Contents

abbrev pub book_of : Contents → Book
book_of h = record { held = h }

-- the book with one address set
abbrev pub with_address : Book → ℕ → Slot → Book
with_address k a s = book_of (with_slots k.held (slice_set k.held.slots a s))

-- from `lo` to `hi` whole blocks of b bytes
abbrev pub whole : ℕ → ℕ → ℕ → ℕ → Bool
whole b lo hi n = n % b == 0 && (nat_le (lo * b) n && nat_le n (hi * b))

-- 5 where frames are not 2 to 513 whole blocks of b bytes, then 6 where the address is not below the number of slots, then
-- 7 where the row or area does not fit
abbrev pub shape_fault : ℕ → Book → ℕ → Bool → Option ReelFault
shape_fault b k a fits =
    cond (whole b 2 513 k.held.frame)
    (cond (nat_lt a (length k.held.slots))
    (cond fits None (Some (at_address WrongArea a)))
    (Some (at_address NoAddress a)))
    (Some (at_address NotBlocks a))

-- which of 5 to 9 a call meets first, if any: those, and then the stock's own, passed up
abbrev pub load_fault : ℕ → Book → ℕ → ℕ → Option ReelFault
load_fault b k a len = first (shape_fault b k a (len == k.held.frame)) (option_map passed_up (put_fault k.held a len))

abbrev pub erase_fault : ℕ → Book → ℕ → Option ReelFault
erase_fault b k a = first (shape_fault b k a true) (option_map passed_up (clear_fault k.held a))

abbrev pub take_fault : ℕ → Book → ℕ → ℕ → Option ReelFault
take_fault b k a len = first (shape_fault b k a (len == k.held.frame)) (option_map passed_up (get_fault k.held a len))

-- the book after a load and after an erase: the address is set, unless the call is refused
abbrev pub after_load : ℕ → Book → ℕ → List ℕ → Book
after_load b k a bytes = unless (load_fault b k a (length bytes)) (with_address k a (filled bytes)) k

abbrev pub after_erase : ℕ → Book → ℕ → Book
after_erase b k a = unless (erase_fault b k a) (with_address k a blank) k

-- what the area holds after a take: the frame standing there, unless the call is refused
abbrev pub taken : ℕ → Book → ℕ → List ℕ → List ℕ
taken b k a before = unless (take_fault b k a (length before)) (bytes_in (slot_at k.held a)) before
