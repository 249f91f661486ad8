-- What is known where a stock's call is not refused, and how a refusal settles an answer. Assumes nothing.
use Rattle.std.proofs.Common.{◌≡◌, ℕ, ◌<◌, Bool, true, false, cond, ltb, List, length, Some, None, Ok, Err, Option, refl, ◌∙◌, eqb, eqb-true, ltb-true}
use Rattle.stock.specs.declared.condition.Condition.{Condition}
use Rattle.stock.specs.declared.condition.Condition.TheVariants.{NoSlot, Bad, Filled, Blank}
use Rattle.stock.specs.Refusals.{answered, unless}
use Rattle.stock.specs.Slots.{Slot, bad, blank, filled, Contents, slot_at}
use Rattle.stock.specs.Stocks.{condition_of, condition_at, put_refusal, clear_refusal, get_refusal, put_fault, clear_fault, get_fault}

module _ {E : Type 0} where
  pub ok_answers : {X : Type 0} (o : Option E) (x y : X) → Ok x ≡ answered o y → (o ≡ None) × (x ≡ y)
  ok_answers None x y e = (refl, cc)
  ok_answers (Some f) x y e = cc

  pub err_answers : {X : Type 0} (o : Option E) (f : E) (y : X) → Err f ≡ answered o y → o ≡ Some f
  err_answers None f y e = cc
  err_answers (Some g) f y e = cc

  pub through : {X : Type 0} (o : Option E) (x y : X) → o ≡ None → unless o x y ≡ x
  through o x y e = rw e

-- a slot that may be put or cleared
pub record Usable (h : Contents) (i : ℕ) : Type 0 where
  pub below : i < length h.slots
  pub good : slot_at h i ≡ bad → ⊥

-- a slot that may be got
pub record Readable (h : Contents) (i : ℕ) : Type 0 where
  pub below : i < length h.slots
  pub frame : List ℕ
  pub full : slot_at h i ≡ filled frame

module _ (h : Contents) (i : ℕ) where
  clear_by : (t : Bool) (s : Slot) → ltb i (length h.slots) ≡ t → slot_at h i ≡ s → clear_refusal (cond t (condition_of s) NoSlot) i ≡ None → Usable h i
  clear_by true blank et es e = record { below = ltb-true _ _ et; good = λ z. cc }
  clear_by true (filled bs) et es e = record { below = ltb-true _ _ et; good = λ z. cc }
  clear_by true bad et es e = cc
  clear_by false s et es e = cc

  pub clear_allowed : (c : Condition) → c ≡ condition_at h i → clear_refusal c i ≡ None → Usable h i
  clear_allowed c ec e = clear_by _ _ refl refl (rw ec at e)

  -- a put is allowed where a clear is, if the row is one frame long
  put_is_clear : (c : Condition) (fits : Bool) → put_refusal c i fits ≡ None → (clear_refusal c i ≡ None) × (fits ≡ true)
  put_is_clear NoSlot fits e = cc
  put_is_clear Bad true e = cc
  put_is_clear Blank true e = (refl, refl)
  put_is_clear Filled true e = (refl, refl)
  put_is_clear Bad false e = cc
  put_is_clear Blank false e = cc
  put_is_clear Filled false e = cc

  pub put_allowed : (c : Condition) (fits : Bool) → c ≡ condition_at h i → put_refusal c i fits ≡ None → Usable h i × (fits ≡ true)
  put_allowed c fits ec e = let p = put_is_clear c fits e in (clear_allowed c ec p.0, p.1)

  get_by : (t : Bool) (s : Slot) (fits : Bool) → ltb i (length h.slots) ≡ t → slot_at h i ≡ s → get_refusal (cond t (condition_of s) NoSlot) i fits ≡ None → Readable h i × (fits ≡ true)
  get_by true (filled bs) true et es e = (record { below = ltb-true _ _ et; frame = bs; full = es }, refl)
  get_by true bad true et es e = cc
  get_by true blank true et es e = cc
  get_by true bad false et es e = cc
  get_by true blank false et es e = cc
  get_by true (filled bs) false et es e = cc
  get_by false s fits et es e = cc

  pub get_allowed : (c : Condition) (fits : Bool) → c ≡ condition_at h i → get_refusal c i fits ≡ None → Readable h i × (fits ≡ true)
  get_allowed c fits ec e = get_by _ _ fits refl refl (rw ec at e)

-- the same of a call that was answered with Ok, and of a row of len bytes
module _ (h : Contents) (i : ℕ) (c : Condition) (ec : c ≡ condition_at h i) where
  pub cleared : {X : Type 0} (x y : X) → Ok x ≡ answered (clear_refusal c i) y → Usable h i × (clear_fault h i ≡ None)
  cleared x y e = let o = (ok_answers _ x y e).0 in (clear_allowed h i c ec o, rw ec at o)

  module _ (len n : ℕ) (en : n ≡ h.frame) where
    pub put : {X : Type 0} (x y : X) → Ok x ≡ answered (put_refusal c i (eqb len n)) y → Usable h i × (len ≡ h.frame) × (put_fault h i len ≡ None)
    put x y e = let o = (ok_answers _ x y e).0 in let u = put_allowed h i c _ ec o in (u.0, eqb-true _ _ u.1 ∙ en, rw (ec, en) at o)

    pub got : {X : Type 0} (x y : X) → Ok x ≡ answered (get_refusal c i (eqb len n)) y → Readable h i × (len ≡ h.frame) × (get_fault h i len ≡ None)
    got x y e = let o = (ok_answers _ x y e).0 in let u = get_allowed h i c _ ec o in (u.0, eqb-true _ _ u.1 ∙ en, rw (ec, en) at o)
