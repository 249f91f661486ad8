use Rattle.std.proofs.Common.{◌≡◌, eqb, rules, sym, tests}
use Rattle.std.specs.Slice.Iter.{split_inclusive_rest}
use Rattle.std.proofs.lemmas.Fn.{always_returns_same}
use Rattle.listing.proofs.Cuts.{first_line}
use Rattle.listing.proofs.line.split_line.Goals as goal

pub returns : goal.returns
returns c =
    let s = c.in_ok-line.ensures.steps in
    let k = (s.1.2 (λ x. eqb x 10) (always_returns_same _ _ _ (λ a r f h. search (rules, tests)))).1 in
    let e : c.args.text.now ≡ split_inclusive_rest c.split_inclusive.result = sym c.split_inclusive.ensures.rest in
    rw e (first_line _ _ _ _ s.0 s.1.1 s.2 k)
