use Rattle.std.proofs.Common.{◌≡◌, ◌+◌, ◌<◌, length, Ok, Err, sym, refl, ap, ◌∙◌, arith, rules}
use Rattle.std.proofs.lemmas.Result.{err_from_is_err_and}
use Rattle.reel.specs.Books.{Book}
use Rattle.fault.specs.Faults.{at_line}
use Rattle.listing.specs.Lines.{Line, line_of, lines}
use Rattle.listing.specs.Loadings.{Loading, loading, after_line}
use Rattle.listing.proofs.Cuts.{lines_none}
use Rattle.listing.proofs.Declines.{load_more, load_stop, one_load_each, first_refused, fault_made, none_made}
use Rattle.listing.proofs.Shapes.{line_keeps}
use Rattle.listing.proofs.load.load_listing.Goals as goal

pub returns-in_err-address : goal.returns-in_err-address
returns-in_err-address g c =
    let k : Book = g.R.Loadable.book c.loop-line.reel in
    let d = fault_made _ _ _ c.load_line.ensures.answer _ _ c.map_err.ensures.cases c.in_err-address.field-0.0 c.in_err-address.was in
    let w : c.in_err-address.field-0.0 ≡ at_line d.0 (c.loop-line.loaded + 1) = (let h = d.2 in search rules) in
    let p = err_from_is_err_and c.from_residual.result c.from_residual.ensures.1 in
    let s = load_stop g.R.Loadable.block c.loop-line.loaded c.loop-line.low k _ _ _ c.in-Some.ensures.0 d.0 d.1 in
    let x : Loading = record { after = k; answer = c.from_residual.result } in
    let e : x ≡ record { after = k; answer = Err (at_line d.0 (c.loop-line.loaded + 1)) } = ap (λ z. record { after = k; answer = z }) (p.1 ∙ ap Err (p.2 ∙ w)) in
    let r : x ≡ _ = e ∙ (sym s ∙ c.loop-line.invariant.0) in
    let b : g.R.Loadable.book c.load_line.new.reel ≡ k = c.load_line.ensures.book ∙ rw d.1 in
    record { answer = ap (λ (z : Loading). z.answer) r; book = b ∙ ap (λ (z : Loading). z.after) r; loads = one_load_each _ _ _ x r _ b; first = first_refused _ _ _ x r; rest = c.load_line.ensures.rest ∙ c.loop-line.invariant.4 }

pub loop-line-preserved : goal.loop-line-preserved
loop-line-preserved g c =
    let b = g.R.Loadable.block in
    let k : Book = g.R.Loadable.book c.loop-line.reel in
    let l : Line = line_of c.in-Some.line.now in
    let rest = lines c.in-Some.after.now in
    let d = none_made _ _ _ c.load_line.ensures.answer _ _ c.map_err.ensures.cases c.in_ok-address.address c.in_ok-address.was in
    let m = load_more b c.loop-line.loaded c.loop-line.low k l rest _ c.in-Some.ensures.0 d.0 in
    let x : g.R.Loadable.book c.load_line.new.reel ≡ after_line b k l = c.load_line.ensures.book ∙ rw d.0 in (
      ap (λ (z : Book). loading b z (c.loop-line.loaded + 1) (c.in_ok-address.address + 1) rest) x
          ∙ (ap (λ z. loading b (after_line b k l) (c.loop-line.loaded + 1) (z + 1) rest) d.1 ∙ (sym m ∙ c.loop-line.invariant.0)),
      c.load_line.auto.row ∙ (c.loop-line.invariant.1 ∙ sym (ap (λ (z : Book). z.held.frame) x ∙ (line_keeps b k l).frame)),
      (let s = c.in-Some.ensures.1 in omega arith),
      (let s = c.load_line.ensures.small in let t : c.in_ok-address.address < 4294967296 = rw d.2 at s in omega arith),
      c.load_line.ensures.rest ∙ c.loop-line.invariant.4,
    )

pub returns : goal.returns
returns g c =
    let b = g.R.Loadable.block in
    let k : Book = g.R.Loadable.book c.loop-line.reel in
    let z : length c.loop-line.rest.now ≡ 0 = search rules in
    let x : Loading = record { after = k; answer = Ok c.loop-line.loaded } in
    let r : x ≡ _ = sym (ap (loading b k c.loop-line.loaded c.loop-line.low) (lines_none _ z)) ∙ c.loop-line.invariant.0 in
    record { answer = ap (λ (z : Loading). z.answer) r; book = ap (λ (z : Loading). z.after) r; loads = one_load_each _ _ _ x r _ refl; first = first_refused _ _ _ x r; rest = c.loop-line.invariant.4 }
