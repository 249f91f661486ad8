use Rattle.std.proofs.Common.{◌≡◌, ℕ, ◌<◌, length, get_or, drop}
use Rattle.stock.specs.Slots.{bad, bytes_in}
use Rattle.listing.specs.Listings.{lines_of, listing_in}
use Rattle.listing.proofs.Writes.{Sofar}
use Rattle.listing.proofs.list.list_frames.Given as goal

abbrev pub invariant-loop-slot : goal.invariant-loop-slot
invariant-loop-slot g l =
    Sofar (listing_in (g.St.Stock.held l.stock).slots (length l.initial.listing.area.now)) l.initial.listing.area.now l.listing.area.now l.listing.bytes l.listing.lines (lines_of l.slot (drop l.slot (g.St.Stock.held l.stock).slots))
    × (l.listing.area.ghost_name ≡ l.initial.listing.area.ghost_name)
    × (length l.row ≡ (g.St.Stock.held l.stock).frame)
    × ((i : ℕ) → i < l.slot → (k : ℕ) → get_or (bytes_in (get_or (g.St.Stock.held l.stock).slots i bad)) k 0 < 256)
