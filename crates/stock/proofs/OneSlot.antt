-- A put or a clear changes one slot at most. Assumes nothing.
use Rattle.std.proofs.Common.{◌≡◌, ℕ, false, ◌≢◌, get_or, set, sym, refl, ap, ◌∙◌, ⊎_elim}
use Rattle.std.proofs.lemmas.List.{length-set, get_or-set_same, get_or-set_other}
use Rattle.std.proofs.lemmas.Bool.{cases_eq}
use Rattle.stock.specs.Slots.{Slot, bad, blank, filled, Contents, with_slots, slot_at, is_bad, OnlySlot}
use Rattle.stock.proofs.Allowed.{Usable}

pub unchanged : (h : Contents) (i : ℕ) → OnlySlot i h h
unchanged h i = record { frame = refl; count = refl; bads = λ k. refl; others = λ k ne. refl }

not_bad : (s : Slot) → (s ≡ bad → ⊥) → is_bad s ≡ false
not_bad bad ne = absurd (ne refl)
not_bad blank ne = refl
not_bad (filled bs) ne = refl

module _ (h : Contents) (i : ℕ) where
  pub one_set : (v : Slot) → Usable h i → is_bad v ≡ false → OnlySlot i h (with_slots h (set h.slots i v))
  one_set v u e =
      record {
        frame = refl;
        count = length-set h.slots i v;
        bads = λ k. ⊎_elim
            (λ (s : k ≡ i). ap (λ z. is_bad (get_or (set h.slots i v) z bad)) s ∙ (ap is_bad (get_or-set_same h.slots i v bad u.below) ∙ (e ∙ (sym (not_bad (slot_at h i) u.good) ∙ ap (λ z. is_bad (slot_at h z)) (sym s)))))
            (λ (ne : k ≢ i). ap is_bad (get_or-set_other h.slots i k v bad ne))
            (cases_eq k i);
        others = λ k ne. get_or-set_other h.slots i k v bad ne;
      }
