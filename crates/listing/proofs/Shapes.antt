-- A loading keeps the frame length and the number of slots. Assumes nothing.
use Rattle.std.proofs.Common.{◌≡◌, ℕ, ◌+◌, List, [], ◌∷◌, length, Some, None, Option, refl, ◌∙◌}
use Rattle.std.proofs.lemmas.List.{length-set}
use Rattle.stock.specs.Refusals.{unless}
use Rattle.stock.specs.Slots.{filled}
use Rattle.fault.specs.declared.reel.ReelFault.{ReelFault}
use Rattle.reel.specs.Books.{Book, with_address, load_fault}
use Rattle.fault.specs.declared.line.LineCause.{LineCause}
use Rattle.listing.specs.Lines.{Line, address_in, frame_in}
use Rattle.listing.specs.Loadings.{Loading, loading, after_line, stopped, decline}

pub record SameShape (before after : Book) : Type 0 where
  pub frame : after.held.frame ≡ before.held.frame
  pub count : length after.held.slots ≡ length before.held.slots

pub line_keeps : (b : ℕ) (k : Book) (l : Line) → SameShape k (after_line b k l)
line_keeps b k l = by_fault (load_fault b k (address_in l.text) (length (frame_in l.text)))
  where
    by_fault : (o : Option ReelFault) → SameShape k (unless o (with_address k (address_in l.text) (filled (frame_in l.text))) k)
    by_fault None = record { frame = refl; count = length-set k.held.slots (address_in l.text) (filled (frame_in l.text)) }
    by_fault (Some e) = record { frame = refl; count = refl }

pub loading_keeps : (b : ℕ) (k : Book) (n low : ℕ) (ls : List Line) → SameShape k (loading b k n low ls).after
loading_keeps b k n low [] = record { frame = refl; count = refl }
loading_keeps b k n low (l ∷ ls) = by_line (decline b k low l) _ (loading_keeps b (after_line b k l) (n + 1) (address_in l.text + 1) ls)
  where
    by_line : (o : Option LineCause) (rest : Loading) → SameShape (after_line b k l) rest.after → SameShape k (stopped k n o rest).after
    by_line None rest x = let y = line_keeps b k l in record { frame = x.frame ∙ y.frame; count = x.count ∙ y.count }
    by_line (Some c) rest x = record { frame = refl; count = refl }
