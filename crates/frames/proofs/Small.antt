-- The small reel after a loading. Assumes nothing.
use Rattle.std.proofs.Common.{◌≡◌, ℕ, ◌+◌, ◌*◌, ◌≤◌, List, length, ap, ◌∙◌, arith}
use Rattle.stock.specs.Slots.{Contents}
use Rattle.flat.specs.declared.flat.FlatStock.{FlatStock}
use Rattle.flat.specs.FlatHeld.{flat_held}
use Rattle.reel.specs.Books.{Book, book_of}
use Rattle.listing.specs.Lines.{lines}
use Rattle.listing.specs.Loadings.{loading}
use Rattle.listing.proofs.Shapes.{loading_keeps}
use Rattle.frames.specs.Filters.{blank_book, filtered}

-- what its stock s holds, k being its book before the loading and t the stock as it is in the reel
pub held_loaded : (text : List ℕ) (k : Book) (s t : FlatStock) → k ≡ blank_book → book_of (flat_held t) ≡ (loading 8 k 0 0 (lines text)).after → s ≡ t → flat_held s ≡ (filtered text).after.held
held_loaded text k s t ek et es = ap flat_held es ∙ (ap (λ (z : Book). z.held) et ∙ ap (λ (z : Book). (loading 8 z 0 0 (lines text)).after.held) ek)

lines_fit : (c f n : ℕ) → c ≡ 4 → f ≡ 16 → n ≡ 168 → c * (10 + 2 * f) ≤ n
lines_fit c f n ec ef en = rw (ec, ef, en) (omega arith)

-- a line of each of its slots has room in 168 bytes
pub room_is : (text : List ℕ) (h : Contents) (n : ℕ) → h ≡ (filtered text).after.held → n ≡ 168 → length h.slots * (10 + 2 * h.frame) ≤ n
room_is text h n eh en =
    let s = loading_keeps 8 blank_book 0 0 (lines text) in
    lines_fit _ _ n (ap (λ (z : Contents). length z.slots) eh ∙ s.count) (ap (λ (z : Contents). z.frame) eh ∙ s.frame) en
