-- What the filter makes of a text. Assumes nothing.
use Rattle.std.specs.Prelude.{◌≡◌, ℕ, List, [], vec_items}
use Rattle.stock.specs.Stocks.{fresh_contents}
use Rattle.reel.specs.Books.{Book, book_of}
use Rattle.listing.specs.Listings.{listing_of}
use Rattle.listing.specs.Loadings.{Loading, loaded}
use Rattle.frames.specs.declared.filter.Outcome.{Outcome}

-- four blank slots for frames of 16 bytes
abbrev pub blank_book : Book
blank_book = book_of (fresh_contents 16 4 [])

-- the text loaded there, with blocks of 8 bytes
abbrev pub filtered : List ℕ → Loading
filtered text = loaded 8 blank_book text

-- the listing of the small reel after the text was loaded there, and the answer of that loading
pub record Filtered (text : List ℕ) (o : Outcome) : Type 0 where
  pub listing : vec_items o.listing ≡ listing_of (filtered text).after.held.slots
  pub loaded : o.loaded ≡ (filtered text).answer
