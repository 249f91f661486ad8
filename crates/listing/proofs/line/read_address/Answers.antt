use Rattle.std.proofs.Common.{Ok, Err, ap, ◌∙◌}
use Rattle.std.proofs.lemmas.Result.{err_from_is_err_and}
use Rattle.stock.proofs.Allowed.{ok_answers, err_answers}
use Rattle.listing.specs.Lines.{address_from}
use Rattle.listing.proofs.Pairs.{word_is}
use Rattle.listing.proofs.line.read_address.Goals as goal

pub returns-in_err-read_row : goal.returns-in_err-read_row
returns-in_err-read_row c =
    let p = err_from_is_err_and c.from_residual.result c.from_residual.ensures.1 in
    let e = err_answers _ _ _ c.in_err-read_row.ensures.answer in
    rw e (p.1 ∙ ap Err p.2)

pub returns : goal.returns
returns c =
    let o = ok_answers _ _ _ c.in_ok-read_row.ensures.answer in
    rw o.0 (ap Ok (c.from_be_bytes.ensures ∙ (word_is c.read_row.new.row ∙ ap address_from c.in_ok-read_row.ensures.row)))
