use Rattle.std.proofs.Common.{◌≡◌, ℕ, List, length, vec_items, ap, ◌∙◌}
use Rattle.std.proofs.lemmas.List.{with_items_is}
use Rattle.stock.specs.declared.size.FrameSize.{FrameSize}
use Rattle.stock.specs.BadLists.{bad_list}
use Rattle.stock.specs.Stocks.{fresh_contents}
use Rattle.flat.specs.Flats.{Unmarked, flat_count, flat_contents}
use Rattle.flat.specs.FlatArea.{fresh_flat}
use Rattle.flat.proofs.flat.FlatStock.fresh.Goals as goal

unmarked_at : (n s t : ℕ) (xs ys zs ws : List ℕ) → s ≡ t → ys ≡ xs → ws ≡ zs → Unmarked n s ys zs → Unmarked n t xs ws
unmarked_at n s t xs ys zs ws es ey ew u = rw (ew, ← es, ← ey) u

fresh_at : (n m : ℕ) (b d xs ws : List ℕ) → m ≡ n → b ≡ d → Unmarked n (flat_count n (length xs)) xs ws → flat_contents m (flat_count m (length ws)) b ws ≡ fresh_contents n (flat_count n (length xs)) d
fresh_at n m b d xs ws em eb u =
    ap (λ z. flat_contents z (flat_count z (length ws)) b ws) em ∙ (ap (λ z. flat_contents n (flat_count n z) b ws) u.as_long
    ∙ (fresh_flat n _ b ws u.marks ∙ ap (fresh_contents n (flat_count n (length xs))) eb))

pub returns-clause-held : goal.returns-clause-held
returns-clause-held c =
    let o = c.over-stock.result in
    let p = c.over-stock.ensures.parts in
    let ev : vec_items o.area ≡ vec_items c.args.area = ap vec_items c.over-stock.ensures.area in
    let r = with_items_is o.area c.clear_marks.new.area (c.clear_marks.auto.area ∙ c.as_mut_slice.ensures.len) in
    let es : o.slots ≡ flat_count c.args.size.bytes (length (vec_items c.args.area)) = o.count ∙ (ap (λ (z : FrameSize). flat_count z.bytes (length (vec_items o.area))) p.0 ∙ ap (λ z. flat_count c.args.size.bytes (length z)) ev) in
    let u = unmarked_at _ _ _ _ _ _ _ es (c.as_mut_slice.ensures.value ∙ ev) r c.clear_marks.ensures in
    fresh_at _ _ _ _ _ _ (ap (λ (z : FrameSize). z.bytes) p.0) (ap bad_list p.1) u
