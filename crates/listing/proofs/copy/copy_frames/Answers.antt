use Rattle.std.proofs.Common.{◌≡◌, ℕ, List, length, take, sym, ap, ◌∙◌}
use Rattle.stock.specs.Slots.{Contents}
use Rattle.stock.proofs.Allowed.{ok_answers}
use Rattle.reel.specs.Books.{Book}
use Rattle.listing.specs.Listings.{Listed, listing_in}
use Rattle.listing.specs.Loadings.{Loading}
use Rattle.listing.proofs.Round.{copied_is, over_all, front_read}
use Rattle.listing.proofs.copy.copy_frames.Goals as goal

pub returns : goal.returns
returns g c =
    let from : Contents = g.St.Stock.held c.args.stock.now in
    let to : Book = g.R.Loadable.book c.args.reel.now in
    let area : List ℕ = c.args.area.now in
    let l : Listed = listing_in from.slots (length area) in
    let o = ok_answers _ _ _ c.in_ok-end.ensures.answer in
    let p : take c.in_ok-end.end c.list_frames.new.area ≡ l.text = front_read l.text area c.list_frames.new.area c.in_ok-end.end o.1 c.list_frames.ensures.area in
    let e = copied_is g.R.Loadable.block to l _ o.0 p in
    record {
      answer = c.load_listing.ensures.answer ∙ ap (λ (z : Loading). z.answer) (sym e);
      book = c.load_listing.ensures.book ∙ ap (λ (z : Loading). z.after) (sym e);
      area = c.list_frames.ensures.area;
      rest = c.load_listing.ensures.rest;
      over = λ wh et ef.
          let a = over_all g.R.Loadable.block from to (length area) _ (g.met.St.Stock.framed c.args.stock.now) c.in_ok-end.ensures.bytes (g.met.St.Stock.few c.args.stock.now) p wh et ef in
          (c.load_listing.ensures.book ∙ ap (λ (z : Loading). z.after) a, c.load_listing.ensures.answer ∙ ap (λ (z : Loading). z.answer) a);
    }
