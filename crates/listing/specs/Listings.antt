-- The listing of a stock, and what of it an area takes. Assumes nothing.
use Rattle.std.specs.Prelude.{◌≡◌, ℕ, suc, ◌+◌, ◌-◌, ◌*◌, ◌<◌, ◌≤◌, cond, List, [], ◌∷◌, ◌++◌, length, take, drop, Some, None, Option, Result, nat_le, slice_index, slice_index_or}
use Rattle.stock.specs.Refusals.{answered}
use Rattle.stock.specs.Slots.{Slot, bad, blank, filled, Contents, bytes_in}
use Rattle.fault.specs.declared.line.LineFault.{LineFault}
use Rattle.fault.specs.declared.line.LineCause.TheVariants.{NoRoom}
use Rattle.fault.specs.Faults.{at_line}
use Rattle.listing.specs.Lines.{line_for}

-- the lines of the filled slots, the first slot being number i
abbrev pub lines_of : ℕ → List Slot → List (List ℕ)
lines_of i [] = []
lines_of i (bad ∷ ss) = lines_of (i + 1) ss
lines_of i (blank ∷ ss) = lines_of (i + 1) ss
lines_of i (filled bs ∷ ss) = line_for i bs ∷ lines_of (i + 1) ss

-- lines, one after another
abbrev pub joined : List (List ℕ) → List ℕ
joined [] = []
joined (t ∷ ts) = t ++ joined ts

-- the listing of the slots
abbrev pub listing_of : List Slot → List ℕ
listing_of ss = joined (lines_of 0 ss)

-- each byte of each frame is one
abbrev pub AllBytes : List Slot → Type 0
AllBytes ss = (i k : ℕ) → slice_index (bytes_in (slice_index_or ss i bad)) k < 256

-- what is written of a listing, and what stopped it
pub record Listed : Type 0 where
  pub text : List ℕ
  pub fault : Option LineFault

abbrev pub after_text : List ℕ → Listed → Listed
after_text t l = record { text = t ++ l.text; fault = l.fault }

-- 14: a line so long has no room; n lines are written before it
abbrev pub no_room : ℕ → ℕ → ℕ → Option LineFault
no_room n long room = cond (nat_le long room) None (Some (at_line NoRoom (n + 1)))

-- line after line into so much room, n lines being written: 14 at the first that does not fit
abbrev pub listed_in : ℕ → ℕ → List (List ℕ) → Listed
listed_in room n [] = record { text = []; fault = None }
listed_in room n (t ∷ ts) =
    cond (nat_le (length t) room) (after_text t (listed_in (room - length t) (n + 1) ts)) (record { text = []; fault = Some (at_line NoRoom (n + 1)) })

-- the listing of the slots in an area of so many bytes
abbrev pub listing_in : List Slot → ℕ → Listed
listing_in ss room = listed_in room 0 (lines_of 0 ss)

-- Of the lines ts as many as have room, one after another, are written whole; the first that has none is told.
pub record WholeLines (ts : List (List ℕ)) (room : ℕ) (l : Listed) : Type 0 where
  pub count : ℕ
  pub text : l.text ≡ joined (take count ts)
  pub fits : length l.text ≤ room
  pub all : l.fault ≡ None → count ≡ length ts
  pub next : (e : LineFault) → l.fault ≡ Some e → (e ≡ at_line NoRoom (suc count)) × (room < length (joined (take (suc count) ts)))

-- where there is room for a line of every slot, the whole listing is written
abbrev pub RoomForAll : Contents → ℕ → Type 0
RoomForAll h room = length h.slots * (10 + 2 * h.frame) ≤ room → listing_in h.slots room ≡ record { text = listing_of h.slots; fault = None }

-- an area with a text at its front
abbrev pub over_front : List ℕ → List ℕ → List ℕ
over_front t area = t ++ drop (length t) area

-- what listing a stock into an area answers, and what the area holds then
abbrev pub listing_answer : Contents → List ℕ → Result ℕ LineFault
listing_answer h area = answered (listing_in h.slots (length area)).fault (length (listing_in h.slots (length area)).text)

abbrev pub listing_area : Contents → List ℕ → List ℕ
listing_area h area = over_front (listing_in h.slots (length area)).text area
