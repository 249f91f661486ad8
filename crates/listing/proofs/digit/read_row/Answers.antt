use Rattle.std.proofs.Common.{◌/◌, ◌<◌, length, Err, ap, ◌∙◌, arith}
use Rattle.std.proofs.lemmas.Result.{err_from_is_err_and}
use Rattle.stock.proofs.Allowed.{ok_answers, err_answers}
use Rattle.listing.proofs.Pairs.{high_stops, low_stops, hex_more, read_more}
use Rattle.listing.proofs.digit.read_row.Goals as goal

pub returns-in_err-value-clause-answer : goal.returns-in_err-value-clause-answer
returns-in_err-value-clause-answer c =
    let p = err_from_is_err_and c.from_residual.result c.from_residual.ensures.1 in
    let h : c.loop-i.i < length c.args.text.now / 2 = omega arith in
    let e = high_stops c.args.text.now _ c.loop-i.i _ c.as_chunks.ensures.front h c.loop-i.invariant.0 _ (err_answers _ _ _ c.in_err-value.ensures.answer) in
    rw e (p.1 ∙ ap Err p.2)

pub returns-in_err-row-clause-answer : goal.returns-in_err-row-clause-answer
returns-in_err-row-clause-answer c =
    let p = err_from_is_err_and c.from_residual-in_err-row.result c.from_residual-in_err-row.ensures.1 in
    let h : c.loop-i.i < length c.args.text.now / 2 = omega arith in
    let o = ok_answers _ _ _ c.in_ok-value.ensures.answer in
    let e = low_stops c.args.text.now _ c.loop-i.i _ c.as_chunks.ensures.front h c.loop-i.invariant.0 _ o.0 (err_answers _ _ _ c.in_err-row.ensures.answer) in
    rw e (p.1 ∙ ap Err p.2)

pub loop-i-preserved : goal.loop-i-preserved
loop-i-preserved c =
    let h : c.loop-i.i < length c.args.text.now / 2 = omega arith in
    let l : c.loop-i.i < length c.loop-i.row = (let k = c.loop-i.auto.row in omega arith) in
    let o = ok_answers _ _ _ c.in_ok-value.ensures.answer in
    let u = ok_answers _ _ _ c.in_ok-row.ensures.answer in (
      hex_more c.args.text.now _ c.loop-i.i _ c.as_chunks.ensures.front h c.loop-i.invariant.0 o.0 u.0,
      read_more c.args.text.now _ c.loop-i.i _ c.as_chunks.ensures.front h c.loop-i.invariant.0 _ _ _ _ l o.1 u.1 c.loop-i.invariant.1,
    )
