use Rattle.std.proofs.Common.{◌≡◌, ℕ, ◌+◌, ◌-◌, ◌*◌, ◌<◌, ◌≤◌, List, ◌∷◌, length, set, false, None, vec_items, sym, ap, ◌∙◌, arith}
use borrow.Rule.Slice.PartMut.{put_mid}
use Rattle.std.proofs.lemmas.List.{with_items_is}
use Rattle.stock.specs.Areas.{written}
use Rattle.stock.specs.BadLists.{bad_list}
use Rattle.stock.specs.Sizes.{listed}
use Rattle.stock.specs.Stocks.{put_fault}
use Rattle.stock.proofs.Areas.{written_mid, written_behind}
use Rattle.stock.proofs.Rows.{slots_long}
use Rattle.stock.proofs.Allowed.{through, put}
use Rattle.flat.specs.Flats.{flat_count, flat_put}
use Rattle.flat.specs.FlatHeld.{flat_over, flat_held}
use Rattle.flat.specs.FlatArea.{unlisted, length_put, slots_put}
use Rattle.flat.proofs.flat.calls.FlatStockStock.put.Goals as goal

pub place-place-requires : goal.place-place-requires
place-place-requires c =
    let s = c.args.self.now in
    let u = put (flat_held s) c.args.slot _ c.condition.ensures _ _ c.get.ensures _ _ c.in_ok-allows_put.ensures in
    rw s.count (rw slots_long at u.0.below)

filled_area : (n i at k : ℕ) (bs row was xs : List ℕ) → at ≡ i * (n + 1) → row ≡ 1 ∷ bs → k ≡ length (1 ∷ bs) → was ≡ xs → at + 1 + length bs ≤ length xs → put_mid at k was row ≡ flat_put n i bs xs
filled_area n i at k bs row was xs ea er ek ex f = written_mid at k (1 ∷ bs) row was er ek ∙ (ap (written at (1 ∷ bs)) ex ∙ (sym (written_behind at 1 bs xs f) ∙ ap (λ z. set (written (z + 1) bs xs) z 1) ea))

pub returns : goal.returns
returns c =
    let s = c.args.self.now in
    let n : ℕ = s.size.bytes in
    let i : ℕ = c.args.slot in
    let bs = c.args.bytes.now in
    let xs : List ℕ = vec_items s.area in
    let u = put (flat_held s) i _ c.condition.ensures _ _ c.get.ensures _ _ c.in_ok-allows_put.ensures in
    let h : i < flat_count n (length xs) = rw slots_long at u.0.below in
    let l : length bs ≡ n = u.1 in
    let e : put_fault (flat_held s) i (length bs) ≡ None = u.2 in
    let nb : listed (bad_list s.bad) i ≡ false = unlisted _ _ _ _ i h u.0.good in
    let d = c.deref_mut.ensures in
    let f : c.place-place.result.start + 1 + length bs ≤ length xs = omega (arith, c.place-place.ensures.end, c.place-place.ensures.within) in
    let k : c.place-place.result.end - c.place-place.result.start ≡ length (1 ∷ bs) = omega (arith, c.place-place.ensures.end) in
    let p = filled_area n i c.place-place.result.start _ bs c.fill_slot.new.slot c.deref_mut.result.now xs c.place-place.ensures.start c.fill_slot.ensures k d.value f in
    let z = with_items_is s.area _ (ap length p ∙ (length_put n (bad_list s.bad) xs i h nb bs l ∙ (sym (ap length d.value) ∙ d.len))) ∙ p in
    record {
      answer = rw e;
      held = ap (flat_over s.size s.bad) z ∙ (slots_put n (bad_list s.bad) xs i h nb bs l ∙ sym (through _ _ _ e));
      area = z ∙ sym (through _ _ _ e);
    }
