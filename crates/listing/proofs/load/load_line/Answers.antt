use Rattle.std.proofs.Common.{length, Ok, Err, refl, ap, ◌∙◌}
use Rattle.std.proofs.lemmas.Result.{err_from_is_err_and}
use Rattle.stock.proofs.Allowed.{ok_answers, err_answers}
use Rattle.reel.specs.Books.{Book}
use Rattle.listing.specs.Lines.{Line, line_of}
use Rattle.listing.proofs.Declines.{decline_own, decline_reel, decline_none, loaded_is}
use Rattle.listing.proofs.load.load_line.Goals as goal

pub returns-in_err-address : goal.returns-in_err-address
returns-in_err-address g c =
    let p = err_from_is_err_and c.from_residual.result c.from_residual.ensures.1 in
    let l : Line = line_of c.args.line.now in
    let e = decline_own g.R.Loadable.block (g.R.Loadable.book c.args.reel.now) c.args.low (length c.args.row.now) l c.requires _ (err_answers _ _ _ c.in_err-address.ensures.answer) in
    record { answer = rw e (p.1 ∙ ap Err p.2); book = rw e refl; rest = refl; small = rw p.1 tt }

pub returns-in_err-load : goal.returns-in_err-load
returns-in_err-load g c =
    let p = err_from_is_err_and c.from_residual-in_err-load.result c.from_residual-in_err-load.ensures.1 in
    let k : Book = g.R.Loadable.book c.args.reel.now in
    let l : Line = line_of c.args.line.now in
    let o = ok_answers _ _ _ c.in_ok-address.ensures.answer in
    let f = err_answers _ _ _ c.in_err-load.ensures.answer in
    let e = decline_reel g.R.Loadable.block k c.args.low (length c.args.row.now) l c.requires _ _ o.0 o.1 (c.in_ok-address.ensures.frame) _ f in
    record { answer = rw e (p.1 ∙ ap Err p.2); book = rw e (c.load.ensures.book ∙ rw f); rest = c.load.ensures.rest; small = rw p.1 tt }

pub returns : goal.returns
returns g c =
    let k : Book = g.R.Loadable.book c.args.reel.now in
    let l : Line = line_of c.args.line.now in
    let o = ok_answers _ _ _ c.in_ok-address.ensures.answer in
    let f = (ok_answers _ _ _ c.in_ok-load.ensures.answer).0 in
    let r = c.in_ok-address.ensures.frame in
    let e = decline_none g.R.Loadable.block k c.args.low (length c.args.row.now) l c.requires _ _ o.0 o.1 r f in
    let w = loaded_is g.R.Loadable.block k c.args.low (length c.args.row.now) l c.requires _ _ o.0 o.1 r _ c.load.ensures.book in
    record { answer = rw e (ap Ok o.1); book = rw e w; rest = c.load.ensures.rest; small = c.in_ok-address.ensures.small }
