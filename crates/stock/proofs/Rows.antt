-- A row of slots given by a function of the slot's number. Assumes nothing.
use Rattle.std.proofs.Common.{◌≡◌, ℕ, ◌<◌, ◌≢◌, map, length, get_or, set, sym, ap, ◌∙◌, ⊎_elim, arith}
use Rattle.std.specs.List.{range_with_len}
use Rattle.std.proofs.lemmas.List.FromFn.{fill_by_all, length-map-range_with_len, get_or-map-range_with_len}
use Rattle.std.proofs.lemmas.List.{length-set, get_or-set_same, get_or-set_other}
use Rattle.std.proofs.lemmas.Bool.{cases_eq}
use Rattle.stock.specs.Slots.{Slot, bad}

module _ (f : ℕ → Slot) (s : ℕ) where
  pub slots_long : length (map f (range_with_len 0 s)) ≡ s
  slots_long = length-map-range_with_len f 0 s

  pub slots_at : (i : ℕ) → i < s → get_or (map f (range_with_len 0 s)) i bad ≡ f i
  slots_at i h = get_or-map-range_with_len f 0 s i i bad h (omega arith)

-- one slot is set to v, and the others are as they were
pub slots_set : (f g : ℕ → Slot) (s i : ℕ) (v : Slot) → i < s → g i ≡ v → ((k : ℕ) → k < s → k ≢ i → g k ≡ f k) → map g (range_with_len 0 s) ≡ set (map f (range_with_len 0 s)) i v
slots_set f g s i v h at other =
    sym (fill_by_all g (set (map f (range_with_len 0 s)) i v) s bad (length-set (map f (range_with_len 0 s)) i v ∙ slots_long f s)
    (λ k hk. ⊎_elim
    (λ (e : k ≡ i). ap (λ z. get_or (set (map f (range_with_len 0 s)) i v) z bad) e ∙ (get_or-set_same (map f (range_with_len 0 s)) i v bad (rw (slots_long f s) h) ∙ (sym at ∙ ap g (sym e))))
    (λ (ne : k ≢ i). get_or-set_other (map f (range_with_len 0 s)) i k v bad ne ∙ (slots_at f s k hk ∙ sym (other k hk ne)))
    (cases_eq k i)))

-- the same function, and the same slots
pub slots_same : (f g : ℕ → Slot) (s : ℕ) → ((k : ℕ) → k < s → f k ≡ g k) → map f (range_with_len 0 s) ≡ map g (range_with_len 0 s)
slots_same f g s e = fill_by_all g (map f (range_with_len 0 s)) s bad (slots_long f s) (λ k h. slots_at f s k h ∙ e k h)
