use Rattle.std.proofs.Common.{◌≡◌, ◌-◌, length, get_or, Ok, Err, refl, ap, ◌∙◌, rules}
use Rattle.std.proofs.lemmas.Result.{err_from_is_err_and}
use Rattle.stock.proofs.Allowed.{ok_answers, err_answers}
use Rattle.listing.proofs.Cuts.{ended_is}
use Rattle.listing.proofs.Causes.{head_stops, gap_stops, frame_stops, low_stops, nothing_stops}
use Rattle.listing.proofs.line.read_line.Goals as goal

pub returns-in_err-read_address-clause-answer : goal.returns-in_err-read_address-clause-answer
returns-in_err-read_address-clause-answer c =
    let feed : get_or c.args.line.now (length c.args.line.now - 1) 0 ≡ 10 = search rules in
    let p = err_from_is_err_and c.from_residual.result c.from_residual.ensures.1 in
    let f = err_answers _ _ _ c.in_err-read_address.ensures in
    rw (head_stops _ c.args.low _ _ (ended_is _ feed) c.if-text-frame.false _ f) (p.1 ∙ ap Err p.2)

pub returns-then-text-ne32-clause-answer : goal.returns-then-text-ne32-clause-answer
returns-then-text-ne32-clause-answer c =
    let feed : get_or c.args.line.now (length c.args.line.now - 1) 0 ≡ 10 = search rules in
    let o = ok_answers _ _ _ c.in_ok-read_address.ensures in
    rw (gap_stops _ c.args.low _ _ (ended_is _ feed) c.if-text-frame.false o.0 c.if-text-ne32.true) refl

pub returns-in_err-read_row-clause-answer : goal.returns-in_err-read_row-clause-answer
returns-in_err-read_row-clause-answer c =
    let feed : get_or c.args.line.now (length c.args.line.now - 1) 0 ≡ 10 = search rules in
    let o = ok_answers _ _ _ c.in_ok-read_address.ensures in
    let p = err_from_is_err_and c.from_residual-in_err-read_row.result c.from_residual-in_err-read_row.ensures.1 in
    let f = err_answers _ _ _ c.in_err-read_row.ensures.answer in
    rw (frame_stops _ c.args.low _ _ (ended_is _ feed) c.if-text-frame.false o.0 c.if-text-ne32.false _ f) (p.1 ∙ ap Err p.2)

pub returns-in_err-check_above-clause-answer : goal.returns-in_err-check_above-clause-answer
returns-in_err-check_above-clause-answer c =
    let feed : get_or c.args.line.now (length c.args.line.now - 1) 0 ≡ 10 = search rules in
    let o = ok_answers _ _ _ c.in_ok-read_address.ensures in
    let r = ok_answers _ _ _ c.in_ok-read_row.ensures.answer in
    let p = err_from_is_err_and c.from_residual-in_err-check_above.result c.from_residual-in_err-check_above.ensures.1 in
    let f = c.in_err-check_above.ensures in
    rw (low_stops _ c.args.low _ _ (ended_is _ feed) c.if-text-frame.false o.0 c.if-text-ne32.false r.0 _ (c.from-address.ensures ∙ o.1) f.1) (p.1 ∙ ap Err (p.2 ∙ f.0))

pub returns-clause-answer : goal.returns-clause-answer
returns-clause-answer c =
    let feed : get_or c.args.line.now (length c.args.line.now - 1) 0 ≡ 10 = search rules in
    let o = ok_answers _ _ _ c.in_ok-read_address.ensures in
    let r = ok_answers _ _ _ c.in_ok-read_row.ensures.answer in
    rw (nothing_stops _ c.args.low _ _ (ended_is _ feed) c.if-text-frame.false o.0 c.if-text-ne32.false r.0 _ (c.from-address.ensures ∙ o.1) c.in_ok-check_above.ensures, ended_is _ feed) (ap Ok (c.from-address.ensures ∙ o.1))
