-- A put and a clear of a stock change one slot at most. Assumes nothing.
use Rattle.std.proofs.Common.{◌≡◌, ℕ, false, eqb, List, length, Some, None, Option, set, refl}
use Rattle.stock.specs.Refusals.{unless}
use Rattle.stock.specs.Slots.{Slot, filled, blank, Contents, with_slots, is_bad, OnlySlot}
use Rattle.fault.specs.declared.stock.StockFault.{StockFault}
use Rattle.stock.specs.Stocks.{condition_at, put_fault, clear_fault, after_put, after_clear}
use Rattle.stock.proofs.Allowed.{Usable, put_allowed, clear_allowed}
use Rattle.stock.proofs.OneSlot.{unchanged, one_set}

module _ (h : Contents) (i : ℕ) where
  -- a call that sets its slot unless it is refused changes that slot alone
  one_slot : (v : Slot) (o : Option StockFault) → (o ≡ None → Usable h i) → is_bad v ≡ false → OnlySlot i h (unless o (with_slots h (set h.slots i v)) h)
  one_slot v None u e = one_set h i v (u refl) e
  one_slot v (Some f) u e = unchanged h i

  pub put_only : (bs : List ℕ) → OnlySlot i h (after_put h i bs)
  put_only bs = one_slot (filled bs) (put_fault h i (length bs)) (λ n. (put_allowed h i (condition_at h i) (eqb (length bs) h.frame) refl n).0) refl

  pub clear_only : OnlySlot i h (after_clear h i)
  clear_only = one_slot blank (clear_fault h i) (λ n. clear_allowed h i (condition_at h i) refl n) refl
