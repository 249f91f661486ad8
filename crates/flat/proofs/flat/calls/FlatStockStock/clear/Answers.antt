use Rattle.std.proofs.Common.{◌≡◌, ℕ, suc, ◌+◌, ◌-◌, ◌*◌, ◌<◌, List, ◌∷◌, ◌++◌, length, get_or, take, drop, set, None, vec_items, sym, ap, ◌∙◌, arith}
use borrow.Rule.Slice.PartMut.{put_mid}
use Rattle.std.proofs.Math.Seq.{set-append_seam, drop-cons}
use Rattle.std.proofs.lemmas.List.{with_items_is, length-set, length-take-le, take-append-drop}
use Rattle.stock.specs.BadLists.{bad_list}
use Rattle.stock.specs.Stocks.{clear_fault}
use Rattle.stock.proofs.Rows.{slots_long}
use Rattle.stock.proofs.Allowed.{through, cleared}
use Rattle.flat.specs.Flats.{flat_count, flat_clear}
use Rattle.flat.specs.FlatHeld.{flat_over, flat_held}
use Rattle.flat.specs.FlatArea.{unlisted, slots_clear}
use Rattle.flat.proofs.flat.calls.FlatStockStock.clear.Goals as goal

pub place-place-requires : goal.place-place-requires
place-place-requires c =
    let s = c.args.self.now in
    let u = cleared (flat_held s) c.args.slot _ c.condition.ensures _ _ c.in_ok-allows_clear.ensures in
    rw s.count (rw slots_long at u.0.below)

-- the first byte of a row is set, and the row put back
set_row : (at j m : ℕ) (xs : List ℕ) → at < length xs → put_mid at (suc j) xs (set (take (suc j) (drop at xs)) 0 m) ≡ set xs at m
set_row at j m xs h =
    let l : length (take at xs) ≡ at = length-take-le at xs (omega arith) in
    let d = drop-cons xs at 0 h in
    let left : put_mid at (suc j) xs (set (take (suc j) (drop at xs)) 0 m) ≡ take at xs ++ (m ∷ drop (suc at) xs) =
    ap (λ z. take at xs ++ (set (take (suc j) z) 0 m ++ drop (suc j) z)) d ∙ ap (λ z. take at xs ++ (m ∷ z)) (take-append-drop j (drop (suc at) xs)) in
    let right : set xs at m ≡ take at xs ++ (m ∷ drop (suc at) xs) =
    ap (λ z. set z at m) (sym (take-append-drop at xs))
    ∙ (ap (λ z. set (take at xs ++ z) at m) d
    ∙ (ap (λ z. set (take at xs ++ (get_or xs at 0 ∷ drop (suc at) xs)) z m) (sym l) ∙ set-append_seam (take at xs) (get_or xs at 0) (drop (suc at) xs) m)) in
    left ∙ sym right

cleared_area : (n i at k : ℕ) (row was xs : List ℕ) → at ≡ i * (n + 1) → k ≡ suc n → row ≡ set (take k (drop at was)) 0 0 → was ≡ xs → at < length xs → put_mid at k was row ≡ flat_clear n i xs
cleared_area n i at k row was xs ea ek er ex h =
    ap (put_mid at k was) er
    ∙ (ap (λ z. put_mid at k z (set (take k (drop at z)) 0 0)) ex
    ∙ (ap (λ z. put_mid at z xs (set (take z (drop at xs)) 0 0)) ek ∙ (set_row at n 0 xs h ∙ ap (λ z. set xs z 0) ea)))

pub returns : goal.returns
returns c =
    let s = c.args.self.now in
    let n : ℕ = s.size.bytes in
    let i : ℕ = c.args.slot in
    let xs : List ℕ = vec_items s.area in
    let u = cleared (flat_held s) i _ c.condition.ensures _ _ c.in_ok-allows_clear.ensures in
    let h : i < flat_count n (length xs) = rw slots_long at u.0.below in
    let e : clear_fault (flat_held s) i ≡ None = u.1 in
    let d = c.deref_mut.ensures in
    let f : c.place-place.result.start < length xs = omega (arith, c.place-place.ensures.end, c.place-place.ensures.within) in
    let k : c.place-place.result.end - c.place-place.result.start ≡ suc n = omega (arith, c.place-place.ensures.end) in
    let p = cleared_area n i c.place-place.result.start _ c.clear_slot.new.slot c.deref_mut.result.now xs c.place-place.ensures.start k c.clear_slot.ensures d.value f in
    let z = with_items_is s.area _ (ap length p ∙ (length-set xs (i * (n + 1)) 0 ∙ (sym (ap length d.value) ∙ d.len))) ∙ p in
    record {
      answer = rw e;
      held = ap (flat_over s.size s.bad) z ∙ (slots_clear n (bad_list s.bad) xs i h (unlisted _ _ _ _ i h u.0.good) ∙ sym (through _ _ _ e));
      area = z ∙ sym (through _ _ _ e);
    }
