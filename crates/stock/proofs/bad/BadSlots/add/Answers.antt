use Rattle.std.proofs.Common.{◌≡◌, ℕ, true, false, List, length, None, Some, Option, is_none, position, ltb, sym, ◌∙◌, arith, rules, lt-ltb, length-append}
use Rattle.std.proofs.lemmas.Bool.{le-ltb}
use Rattle.stock.specs.Sizes.{listed}
use Rattle.stock.specs.Places.{numbers}
use Rattle.stock.proofs.Distinct.{distinct_push}
use Rattle.stock.proofs.Places.{room, no_room, packed_set, numbers_set}
use Rattle.stock.proofs.bad.BadSlots.add.Goals as goal

pub returns-in_err-free-clause-answer : goal.returns-in_err-free-clause-answer
returns-in_err-free-clause-answer c =
    let ps : List (Option ℕ) = c.args.self.now.slots in
    let n : listed (numbers ps) c.args.slot ≡ false = sym c.has.ensures ∙ c.if-has.false in
    let e : position is_none ps ≡ None = search rules in
    let l = no_room ps e in
    let t : ltb (length (numbers ps)) 16 ≡ false = le-ltb _ _ (omega arith) in
    rw (n, t) (search rules)

pub returns-in_err-free-clause-list : goal.returns-in_err-free-clause-list
returns-in_err-free-clause-list c =
    let ps : List (Option ℕ) = c.args.self.now.slots in
    let n : listed (numbers ps) c.args.slot ≡ false = sym c.has.ensures ∙ c.if-has.false in
    let e : position is_none ps ≡ None = search rules in
    let l = no_room ps e in
    let t : ltb (length (numbers ps)) 16 ≡ false = le-ltb _ _ (omega arith) in
    rw (n, t)

pub invariant_of-self : goal.invariant_of-self
invariant_of-self c =
    let ps : List (Option ℕ) = c.args.self.now.slots in
    let n : listed (numbers ps) c.args.slot ≡ false = sym c.has.ensures ∙ c.if-has.false in
    let e : position is_none ps ≡ Some c.in_ok-free.free = search rules in
    let r = room ps c.in_ok-free.free e in
    record {
      packed = packed_set ps c.in_ok-free.free c.args.slot c.args.self.now.packed e;
      few = simp (numbers_set ps c.in_ok-free.free c.args.slot c.args.self.now.packed e, length-append) (omega arith);
      once = rw (numbers_set ps c.in_ok-free.free c.args.slot c.args.self.now.packed e) (distinct_push (numbers ps) c.args.slot c.args.self.now.once n);
    }

pub returns : goal.returns
returns c =
    let ps : List (Option ℕ) = c.args.self.now.slots in
    let n : listed (numbers ps) c.args.slot ≡ false = sym c.has.ensures ∙ c.if-has.false in
    let e : position is_none ps ≡ Some c.in_ok-free.free = search rules in
    let r = room ps c.in_ok-free.free e in
    let t : ltb (length (numbers ps)) 16 ≡ true = lt-ltb _ _ (omega arith) in
    record { answer = rw (n, t); list = rw (n, t) (numbers_set ps c.in_ok-free.free c.args.slot c.args.self.now.packed e) }
