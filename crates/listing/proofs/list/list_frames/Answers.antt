use Rattle.std.proofs.Common.{◌≡◌, ℕ, ◌+◌, ◌-◌, ◌*◌, ◌<◌, ◌≤◌, List, length, Err, sym, ap, ◌∙◌, arith, rules, below_more}
use Rattle.std.proofs.lemmas.Result.{err_from_is_err_and}
use Rattle.stock.specs.Areas.{written}
use Rattle.stock.specs.Slots.{Contents, slot_at, bytes_in}
use Rattle.stock.specs.Stocks.{condition_of}
use Rattle.stock.specs.declared.condition.Condition.TheVariants.{Filled}
use Rattle.stock.proofs.Allowed.{ok_answers, err_answers}
use Rattle.listing.specs.Listings.{lines_of, listing_area}
use Rattle.listing.specs.Lines.{line_for}
use Rattle.listing.proofs.Writes.{sofar_more, sofar_full, front_of, lines_next, lines_skip, seen, length_line, sofar_at, got_filled, not_filled, no_bytes, no_room_tells, room_tells}
use Rattle.listing.proofs.Room.{whole_lines, room_for_all}
use Rattle.listing.proofs.list.list_frames.Goals as goal
use Rattle.listing.proofs.list.list_frames.Goals.{then-is_ok+in_ok-add, else-is_ok}

pub loop-slot-preserved : goal.loop-slot-preserved
loop-slot-preserved g c =
    let h : Contents = g.St.Stock.held c.args.stock.now in
    let i : ℕ = c.loop-slot.slot in
    let lt : i < length h.slots = omega arith in
    let row : length c.get.new.area ≡ h.frame = c.get.auto.area ∙ c.loop-slot.invariant.2 in
    let e = c.is_ok.ensures.value in
    elim c.if-is_ok.branch [
      | then-is_ok+in_ok-add w ↦
          let f = got_filled h i c.loop-slot.row _ _ c.get.ensures.answer (sym e ∙ w.if-is_ok.true) c.get.ensures.area in
          let full = sym (seen h i lt) ∙ f.0 in
          let so = sofar_at _ _ _ _ _ _ _ (lines_next h.slots i lt full) c.loop-slot.invariant.0 in
          let o = ok_answers _ _ _ w.in_ok-add.ensures.answer in
          let line : List ℕ = line_for i (bytes_in (slot_at h i)) in
          let ll : length line ≡ 10 + 2 * length c.get.new.area = length_line i (bytes_in (slot_at h i)) ∙ ap (λ z. 10 + 2 * length z) (sym f.1) in
          let ea : w.add.new.self.area.now ≡ written c.loop-slot.listing.bytes line c.loop-slot.listing.area.now =
          w.in_ok-add.ensures.written ∙ ap (λ z. written c.loop-slot.listing.bytes (line_for i z) c.loop-slot.listing.area.now) f.1 in
          let ee = w.in_ok-add.ensures.bytes ∙ ap (λ z. c.loop-slot.listing.bytes + z) (sym ll) in
          let fits : length line ≤ length c.args.area.now - c.loop-slot.listing.bytes = (let r = room_tells _ _ _ o.0 in let l = so.long in omega arith) in
          rw w.listing-is (
            sofar_more _ _ _ _ _ _ _ so _ _ _ ea ee w.in_ok-add.ensures.lines (omega arith) fits,
            w.in_ok-add.ensures.same_area ∙ c.loop-slot.invariant.1,
            row,
            below_more _ _ c.loop-slot.invariant.3 (let b = w.in_ok-add.ensures.fit in rw f.1 at b),
          )
      | else-is_ok w ↦
          let ne = not_filled h i c.loop-slot.row c.get.new.area _ c.get.ensures.answer c.loop-slot.invariant.2 (sym e ∙ w.if-is_ok.false) in
          let nc : condition_of (slot_at h i) ≡ Filled → ⊥ = λ q. ne (seen h i lt ∙ q) in
          rw w.listing-is (
            sofar_at _ _ _ _ _ _ _ (lines_skip h.slots i lt nc) c.loop-slot.invariant.0,
            c.loop-slot.invariant.1,
            row,
            below_more _ _ c.loop-slot.invariant.3 (no_bytes (slot_at h i) nc),
          )
    ]

pub returns-in_err-add : goal.returns-in_err-add
returns-in_err-add g c =
    let h : Contents = g.St.Stock.held c.args.stock.now in
    let i : ℕ = c.loop-slot.slot in
    let lt : i < length h.slots = omega arith in
    let f = got_filled h i c.loop-slot.row _ _ c.get.ensures.answer (sym c.is_ok.ensures.value ∙ c.if-is_ok.true) c.get.ensures.area in
    let so = sofar_at _ _ _ _ _ _ _ (lines_next h.slots i lt (sym (seen h i lt) ∙ f.0)) c.loop-slot.invariant.0 in
    let n = err_answers _ _ _ c.in_err-add.ensures.answer in
    let t = no_room_tells _ _ _ _ n in
    let ll : length (line_for i (bytes_in (slot_at h i))) ≡ 10 + 2 * length c.get.new.area = length_line i (bytes_in (slot_at h i)) ∙ ap (λ z. 10 + 2 * length z) (sym f.1) in
    let e = sofar_full _ _ _ _ _ _ _ so (let r = t.0 in let l = so.long in omega arith) in
    let p = err_from_is_err_and c.from_residual.result c.from_residual.ensures.1 in
    let a : c.add.new.self.area.now ≡ listing_area h c.args.area.now = c.in_err-add.ensures.unaltered ∙ rw e (front_of _ _ _ _ _ _ so) in
    record {
      answer = rw e (p.1 ∙ ap Err (p.2 ∙ t.1));
      area = search rules;
      lines = whole_lines (length c.args.area.now) (lines_of 0 h.slots);
      room = room_for_all h (length c.args.area.now) (g.met.St.Stock.framed c.args.stock.now);
      within = rw p.1 tt;
      bytes = rw p.1 tt;
    }

pub returns-clause-lines : goal.returns-clause-lines
returns-clause-lines g c = whole_lines (length c.args.area.now) (lines_of 0 (g.St.Stock.held c.args.stock.now).slots)

pub returns-clause-room : goal.returns-clause-room
returns-clause-room g c = room_for_all (g.St.Stock.held c.args.stock.now) (length c.args.area.now) (g.met.St.Stock.framed c.args.stock.now)
