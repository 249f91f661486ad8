-- The slots of a flat area, and what a write to one of them leaves. Assumes nothing.
use Rattle.std.specs.Prelude.{◌≡◌, ℕ, ◌+◌, ◌*◌, ◌/◌, ◌<◌, ◌≤◌, Bool, true, false, cond, ◌≢◌, ◌⊎◌, List, length, take, vec_items, Vec, ◌==◌, slice_index, slice_index_or, slice_set, refl}
use Rattle.std.proofs.Common.{sym, ap, ◌∙◌, inl, inr, ⊎_elim, arith, div-mul-le_self, mul-le-mul_right, le_trans, lt-ltb, ne_eqb}
use Rattle.std.specs.Vec.{with_items}
use Rattle.std.proofs.lemmas.List.{with_items_is, length-set, get_or-set_same, get_or-set_other, get_or_read, drop-set-lt}
use Rattle.stock.specs.Slots.{Slot, bad, blank, filled, Contents, Framed, AllFramed, slot_at, with_slots}
use Rattle.stock.specs.Sizes.{listed}
use Rattle.stock.specs.Stocks.{condition_at, condition_of, fresh_contents}
use Rattle.stock.specs.declared.condition.Condition.TheVariants.{Bad, Filled, Blank}
use Rattle.flat.specs.Flats.{flat_count, marked, mark_at, body_at, flat_condition, flat_slot, flat_contents, flat_put, flat_clear}
use Rattle.stock.specs.Areas.{written}
use Rattle.stock.proofs.Records.{within, apart}
use Rattle.stock.proofs.Rows.{slots_long, slots_at, slots_set, slots_same}
use Rattle.stock.proofs.Areas.{length_written, written_other, written_row, same_row, row_long}

-- an area that is written to in place has as many slots as before
pub recounted : {Z : Type 0} (v : Vec ℕ Z) (ws was : List ℕ) (s n : ℕ) → length ws ≡ length was → was ≡ vec_items v → length was ≡ v.len → s ≡ flat_count n (length (vec_items v)) → s ≡ flat_count n (length (vec_items (with_items v ws)))
recounted v ws was s n el ew en es = let r = with_items_is v ws (el ∙ en) in es ∙ ap (flat_count n) (sym (ap length r ∙ (el ∙ ap length ew)))

-- so many slots lie within the area
pub count_fits : (s n len : ℕ) → s ≡ flat_count n len → s * (n + 1) ≤ len
count_fits s n len e =
    let h : s ≤ len / (n + 1) = omega arith in
    le_trans (mul-le-mul_right (n + 1) h) (div-mul-le_self len (n + 1))

module _ (n s : ℕ) (bads xs : List ℕ) (fit : s * (n + 1) ≤ length xs) where
  framed_cond : (b m : Bool) (bs : List ℕ) → length bs ≡ n → Framed n (cond b bad (cond m (filled bs) blank))
  framed_cond true m bs e = tt
  framed_cond false true bs e = e
  framed_cond false false bs e = tt

  pub all_framed : AllFramed (flat_contents n s bads xs)
  all_framed i h =
      let hi : i < s = rw (slots_long (flat_slot n bads xs) s) at h in
      let w = within i s (n + 1) (length xs) hi fit in
      rw (slots_at (flat_slot n bads xs) s i hi) (framed_cond (listed bads i) (mark_at n xs i == 1) (body_at n xs i) (row_long n (i * (n + 1) + 1) xs (omega arith)))

  -- a slot whose bytes are as they were
  slot_same : (ys : List ℕ) (k : ℕ) → k < s → length ys ≡ length xs → ((j : ℕ) → k * (n + 1) ≤ j → j < k * (n + 1) + (n + 1) → slice_index ys j ≡ slice_index xs j) → flat_slot n bads ys k ≡ flat_slot n bads xs k
  slot_same ys k h len same =
      let w = within k s (n + 1) (length xs) h fit in
      let m : mark_at n ys k ≡ mark_at n xs k = same (k * (n + 1)) (omega arith) (omega arith) in
      let b : body_at n ys k ≡ body_at n xs k = same_row n (k * (n + 1) + 1) xs ys (omega arith) len (λ j lo hi. same j (omega arith) (omega arith)) in
      ap (λ z. cond (listed bads k) bad (marked z (body_at n ys k))) m ∙ ap (λ z. cond (listed bads k) bad (marked (mark_at n xs k) z)) b

  -- a change within slot i alone
  changed : (ys : List ℕ) (i : ℕ) (v : Slot) → i < s → length ys ≡ length xs → flat_slot n bads ys i ≡ v → ((j : ℕ) → (j < i * (n + 1)) ⊎ (i * (n + 1) + (n + 1) ≤ j) → slice_index ys j ≡ slice_index xs j)
      → flat_contents n s bads ys ≡ with_slots (flat_contents n s bads xs) (slice_set (flat_contents n s bads xs).slots i v)
  changed ys i v h len at same =
      ap (with_slots (flat_contents n s bads xs)) (slots_set (flat_slot n bads xs) (flat_slot n bads ys) s i v h at
      (λ k hk ne. slot_same ys k hk len (λ j lo hi. same j (⊎_elim (λ (a : k * (n + 1) + (n + 1) ≤ i * (n + 1)). inl (omega arith)) (λ (a : i * (n + 1) + (n + 1) ≤ k * (n + 1)). inr (omega arith)) (apart i k (n + 1) ne)))))

  pub after_fill : (i : ℕ) (bs : List ℕ) → i < s → listed bads i ≡ false → length bs ≡ n → flat_contents n s bads (flat_put n i bs xs) ≡ with_slots (flat_contents n s bads xs) (slice_set (flat_contents n s bads xs).slots i (filled bs))
  after_fill i bs h nb e =
      let w = within i s (n + 1) (length xs) h fit in
      let at : ℕ = i * (n + 1) + 1 in
      let f : at + length bs ≤ length xs = omega arith in
      let lw = length_written at bs xs f in
      let lt : i * (n + 1) < length (written at bs xs) = omega arith in
      let mk : mark_at n (flat_put n i bs xs) i ≡ 1 = get_or-set_same (written at bs xs) (i * (n + 1)) 1 0 lt in
      let bd : body_at n (flat_put n i bs xs) i ≡ bs = ap (take n) (drop-set-lt at (written at bs xs) (i * (n + 1)) 1 (omega arith)) ∙ written_row at bs xs f n e in
      changed (flat_put n i bs xs) i (filled bs) h (length-set (written at bs xs) (i * (n + 1)) 1 ∙ lw)
      (simp (nb, mk) (ap filled bd))
      (λ j o. let ne : j ≢ i * (n + 1) = ⊎_elim (λ (a : j < i * (n + 1)) (z : j ≡ i * (n + 1)). omega arith) (λ (a : i * (n + 1) + (n + 1) ≤ j) (z : j ≡ i * (n + 1)). omega arith) o in
      get_or-set_other (written at bs xs) (i * (n + 1)) j 1 0 ne ∙ written_other at bs xs f j (⊎_elim (λ (a : j < i * (n + 1)). inl (omega arith)) (λ (a : i * (n + 1) + (n + 1) ≤ j). inr (omega arith)) o))

  pub after_empty : (i : ℕ) → i < s → listed bads i ≡ false → flat_contents n s bads (flat_clear n i xs) ≡ with_slots (flat_contents n s bads xs) (slice_set (flat_contents n s bads xs).slots i blank)
  after_empty i h nb =
      let w = within i s (n + 1) (length xs) h fit in
      let lt : i * (n + 1) < length xs = omega arith in
      changed (slice_set xs (i * (n + 1)) 0) i blank h (length-set xs (i * (n + 1)) 0)
      (simp (nb, get_or-set_same xs (i * (n + 1)) 0 0 lt) refl)
      (λ j o. get_or-set_other xs (i * (n + 1)) j 0 0 (⊎_elim (λ (a : j < i * (n + 1)) (e : j ≡ i * (n + 1)). omega arith) (λ (a : i * (n + 1) + (n + 1) ≤ j) (e : j ≡ i * (n + 1)). omega arith) o))

-- what the mark and the list say of a slot, and back
module _ (n s : ℕ) (bads xs : List ℕ) (i : ℕ) (h : i < s) where
  seen : slot_at (flat_contents n s bads xs) i ≡ flat_slot n bads xs i
  seen = slots_at (flat_slot n bads xs) s i h

  told : condition_at (flat_contents n s bads xs) i ≡ condition_of (flat_slot n bads xs i)
  told = rw (slots_long (flat_slot n bads xs) s, lt-ltb i s h, seen)

  -- its condition is that of its mark, unless it is listed
  pub told_condition : condition_at (flat_contents n s bads xs) i ≡ flat_condition (listed bads i) (mark_at n xs i)
  told_condition = told ∙ by_test (listed bads i) (mark_at n xs i == 1)
    where
      by_test : (b m : Bool) → condition_of (cond b bad (cond m (filled (body_at n xs i)) blank)) ≡ cond b Bad (cond m Filled Blank)
      by_test true m = refl
      by_test false true = refl
      by_test false false = refl

  pub unlisted : (slot_at (flat_contents n s bads xs) i ≢ bad) → listed bads i ≡ false
  unlisted ne = by_list (listed bads i) (λ z. ne (seen ∙ rw z))
    where
      by_list : (b : Bool) → (b ≢ true) → b ≡ false
      by_list true f = absurd (f refl)
      by_list false f = refl

  pub body_is : (bs : List ℕ) → slot_at (flat_contents n s bads xs) i ≡ filled bs → body_at n xs i ≡ bs
  body_is bs e = by_test (listed bads i) (mark_at n xs i == 1) (body_at n xs i) (sym seen ∙ e)
    where
      by_test : (b m : Bool) (ys : List ℕ) → cond b bad (cond m (filled ys) blank) ≡ filled bs → ys ≡ bs
      by_test true m ys z = cc
      by_test false true ys z = cc
      by_test false false ys z = cc

-- the byte that was read where slot i begins is its mark
pub mark_is : (n : ℕ) (xs : List ℕ) (i base x : ℕ) → base ≡ i * (n + 1) → base < length xs → x ≡ slice_index_or xs base x → mark_at n xs i ≡ x
mark_is n xs i base x e lt r = sym (get_or_read xs base x lt r 0 ∙ ap (λ z. slice_index xs z) e)

pub fresh_flat : (n s : ℕ) (bads xs : List ℕ) → ((i : ℕ) → i < s → mark_at n xs i ≡ 0) → flat_contents n s bads xs ≡ fresh_contents n s bads
fresh_flat n s bads xs f =
    ap (λ z. record { frame = n; slots = z }) (slots_same (flat_slot n bads xs) (λ i. cond (listed bads i) bad blank) s
    (λ k h. ap (λ z. cond (listed bads k) bad (cond z (filled (body_at n xs k)) blank)) (ne_eqb (mark_at n xs k) 1 (λ e. let z = f k h in omega arith))))

-- the same of the whole area: as many slots as it has room for
module _ (n : ℕ) (bads xs : List ℕ) where
  abbrev pub all_slots : List ℕ → Contents
  all_slots ys = flat_contents n (flat_count n (length ys)) bads ys

  fit : flat_count n (length xs) * (n + 1) ≤ length xs
  fit = count_fits _ n (length xs) refl

  pub slots_framed : AllFramed (all_slots xs)
  slots_framed = all_framed n _ bads xs fit

  pub slots_few : length (all_slots xs).slots ≤ 65536
  slots_few = rw slots_long (omega arith)

  same_count : (ys : List ℕ) → length ys ≡ length xs → all_slots ys ≡ flat_contents n (flat_count n (length xs)) bads ys
  same_count ys e = ap (λ z. flat_contents n (flat_count n z) bads ys) e

  module _ (i : ℕ) (h : i < flat_count n (length xs)) (nb : listed bads i ≡ false) where
    pub length_put : (bs : List ℕ) → length bs ≡ n → length (flat_put n i bs xs) ≡ length xs
    length_put bs e =
        let w = within i _ (n + 1) (length xs) h fit in
        length-set (written (i * (n + 1) + 1) bs xs) (i * (n + 1)) 1 ∙ length_written (i * (n + 1) + 1) bs xs (omega arith)

    pub slots_put : (bs : List ℕ) → length bs ≡ n → all_slots (flat_put n i bs xs) ≡ with_slots (all_slots xs) (slice_set (all_slots xs).slots i (filled bs))
    slots_put bs e = same_count (flat_put n i bs xs) (length_put bs e) ∙ after_fill n _ bads xs fit i bs h nb e

    pub slots_clear : all_slots (flat_clear n i xs) ≡ with_slots (all_slots xs) (slice_set (all_slots xs).slots i blank)
    slots_clear = same_count (flat_clear n i xs) (length-set xs (i * (n + 1)) 0) ∙ after_empty n _ bads xs fit i h nb
