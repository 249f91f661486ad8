-- The book that a reel stands for. Assumes nothing.
use Rattle.stock.specs.Slots.{Contents}
use Rattle.reel.specs.declared.reel.LockedReel.{LockedReel}
use Rattle.reel.specs.Books.{Book, book_of}

module _ {St Su : Type 0} (held : St → Contents) where
  abbrev pub locked_book : LockedReel St Su → Book
  locked_book r = book_of (held r.stock)
