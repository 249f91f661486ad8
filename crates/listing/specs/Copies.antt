-- A listing loaded into a blank stock of the same shape. Assumes nothing.
use Rattle.std.specs.Prelude.{◌≡◌, ℕ, true, map, length, Some, None, Ok, Err, Result}
use Rattle.stock.specs.Slots.{Slot, bad, blank, filled, Contents, with_slots}
use Rattle.reel.specs.Books.{Book, book_of, whole}
use Rattle.fault.specs.declared.line.LineFault.{LineFault}
use Rattle.listing.specs.Listings.{lines_of, Listed, listing_in}
use Rattle.listing.specs.Loadings.{Loading, loaded}

-- listing into an area of so many bytes, then loading what was listed
abbrev pub loaded_from : ℕ → Book → Listed → Loading
loaded_from b to l = elim l.fault [ None ↦ loaded b to l.text | Some e ↦ record { after = to; answer = Err e } ]

abbrev pub copied : ℕ → Contents → Book → ℕ → Loading
copied b from to room = loaded_from b to (listing_in from.slots room)

-- the same shape, with no slot filled
abbrev pub emptied : Slot → Slot
emptied bad = bad
emptied blank = blank
emptied (filled bs) = blank

abbrev pub blanked : Contents → Contents
blanked h = with_slots h (map emptied h.slots)

-- where frames are 2 to 513 whole blocks of b bytes, the book `to` is blank and of the same shape, and the area has
-- room for the whole listing, every slot comes over
abbrev pub ComesOver : ℕ → Contents → Book → ℕ → Book → Result ℕ LineFault → Type 0
ComesOver b from to room after r =
    whole b 2 513 from.frame ≡ true → to ≡ book_of (blanked from) → (listing_in from.slots room).fault ≡ None
    → (after ≡ book_of from) × (r ≡ Ok (length (lines_of 0 from.slots)))
