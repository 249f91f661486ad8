-- A listing, one slot on. Assumes nothing.
use Rattle.std.proofs.Common.{◌≡◌, ℕ, ◌+◌, ◌-◌, ◌*◌, ◌<◌, ◌≤◌, ◌==◌, Bool, true, false, cond, leb, List, [], ◌∷◌, ◌++◌, length, get_or, take, drop, Some, None, Option, Result, is_ok, sym, refl, ap, ◌∙◌, arith, lt-ltb, eq-eqb, le-leb, leb-true, leb-false}
use borrow.Author.Tests.{lt-leb}
use borrow.Rule.Slice.PartMut.{put_mid}
use Rattle.std.proofs.lemmas.List.{at_drop_more, append_assoc, append-nil, drop-drop, length-append, take-append-drop, length-take-le}
use Rattle.std.proofs.lemmas.Slice.{take-put_mid, drop-put_mid}
use Rattle.stock.specs.Slots.{Slot, bad, blank, filled, Contents, slot_at, bytes_in}
use Rattle.stock.specs.Areas.{written}
use Rattle.stock.specs.Refusals.{answered}
use Rattle.stock.specs.Stocks.{condition_of, condition_at, get_refusal, get_fault, got}
use Rattle.stock.specs.declared.condition.Condition.{Condition}
use Rattle.stock.specs.declared.condition.Condition.TheVariants.{Blank, Filled, Bad, NoSlot}
use Rattle.fault.specs.declared.stock.StockFault.{StockFault}
use Rattle.fault.specs.declared.line.LineFault.{LineFault}
use Rattle.fault.specs.declared.line.LineCause.TheVariants.{NoRoom}
use Rattle.listing.specs.Lines.{line_for, address_bytes}
use Rattle.listing.specs.Digits.{digits_of}
use Rattle.listing.specs.Listings.{lines_of, Listed, listed_in, after_text, over_front, no_room}
use Rattle.fault.specs.Faults.{at_line}
use Rattle.listing.proofs.Pairs.{length_mid, length_digits, length_address}

module _ (ss : List Slot) (i : ℕ) (h : i < length ss) where
  next_of : (s : Slot) (rest : List Slot) → condition_of s ≡ Filled → lines_of i (s ∷ rest) ≡ line_for i (bytes_in s) ∷ lines_of (i + 1) rest
  next_of (filled bs) rest e = refl
  next_of bad rest e = cc
  next_of blank rest e = cc

  skip_of : (s : Slot) (rest : List Slot) → (condition_of s ≡ Filled → ⊥) → lines_of i (s ∷ rest) ≡ lines_of (i + 1) rest
  skip_of (filled bs) rest ne = absurd (ne refl)
  skip_of bad rest ne = refl
  skip_of blank rest ne = refl

  pub lines_next : condition_of (get_or ss i bad) ≡ Filled → lines_of i (drop i ss) ≡ line_for i (bytes_in (get_or ss i bad)) ∷ lines_of (i + 1) (drop (i + 1) ss)
  lines_next e = at_drop_more (lines_of i) ss i bad h ∙ next_of (get_or ss i bad) (drop (i + 1) ss) e

  pub lines_skip : (condition_of (get_or ss i bad) ≡ Filled → ⊥) → lines_of i (drop i ss) ≡ lines_of (i + 1) (drop (i + 1) ss)
  lines_skip ne = at_drop_more (lines_of i) ss i bad h ∙ skip_of (get_or ss i bad) (drop (i + 1) ss) ne

pub length_line : (a : ℕ) (bs : List ℕ) → length (line_for a bs) ≡ 10 + 2 * length bs
length_line a bs =
    let x = length-append (digits_of (address_bytes a)) (32 ∷ (digits_of bs ++ 10 ∷ [])) in
    let y = length-append (digits_of bs) (10 ∷ []) in
    let u = length_address a in
    let v = length_digits bs in
    omega arith

-- what is listed so far, and what is left to list: `all` is the whole
pub record Sofar (all : Listed) (before area : List ℕ) (at k : ℕ) (ts : List (List ℕ)) : Type 0 where
  pub text : after_text (take at area) (listed_in (length before - at) k ts) ≡ all
  pub rest : drop at area ≡ drop at before
  pub within : at ≤ length before
  pub few : k ≤ at
  pub long : length area ≡ length before

module _ (all : Listed) (before area : List ℕ) (at k : ℕ) (t : List ℕ) (ts : List (List ℕ)) (so : Sofar all before area at k (t ∷ ts)) where
  after_assoc : (x y : List ℕ) (l : Listed) → after_text x (after_text y l) ≡ after_text (x ++ y) l
  after_assoc x y l = ap (λ z. record { text = z; fault = l.fault }) (sym (append_assoc x y l.text))

  pub sofar_more : (after : List ℕ) (end n : ℕ) → after ≡ written at t area → end ≡ at + length t → n ≡ k + 1 → 0 < length t → length t ≤ length before - at → Sofar all before after end n ts
  sofar_more after end n ea ee en pos fits = rw (ea, en)
      (let la = so.long in
      let w : written at t area ≡ put_mid at (length t) area t = ap (λ z. take at area ++ (t ++ z)) (sym (drop-drop (length t) at area)) in
      let fit : leb (length t) (length before - at) ≡ true = le-leb _ _ fits in
      let wi = so.within in
      let tk : take end (written at t area) ≡ take at area ++ t = ap (take end) w ∙ take-put_mid at (length t) area t end ee (omega arith) in
      let dr : drop end (written at t area) ≡ drop end area = ap (drop end) w ∙ drop-put_mid at (length t) area t end (omega arith) (omega arith) refl in
      let d2 : drop end area ≡ drop end before = ap (λ z. drop z area) ee ∙ (sym (drop-drop (length t) at area) ∙ (ap (drop (length t)) so.rest ∙ (drop-drop (length t) at before ∙ ap (λ z. drop z before) (sym ee)))) in
      let step : listed_in (length before - at) k (t ∷ ts) ≡ after_text t (listed_in (length before - at - length t) (k + 1) ts) = rw fit in
      let e : length before - at - length t ≡ length before - end = omega arith in
      record {
        text = ap (λ z. after_text z (listed_in (length before - end) (k + 1) ts)) tk
            ∙ (sym (after_assoc (take at area) t (listed_in (length before - end) (k + 1) ts))
            ∙ (ap (λ z. after_text (take at area) (after_text t (listed_in z (k + 1) ts))) (sym e) ∙ (ap (after_text (take at area)) (sym step) ∙ so.text)));
        rest = dr ∙ d2;
        within = omega arith;
        few = (let q = so.few in omega arith);
        long = ap length w ∙ (length_mid at (length t) area t (omega arith) refl ∙ la);
      })

  pub sofar_full : length before - at < length t → all ≡ record { text = take at area; fault = Some (at_line NoRoom (k + 1)) }
  sofar_full h =
      let step : listed_in (length before - at) k (t ∷ ts) ≡ record { text = []; fault = Some (at_line NoRoom (k + 1)) } = rw (lt-leb (length t) (length before - at) h) in
      sym so.text ∙ (ap (after_text (take at area)) step ∙ ap (λ z. record { text = z; fault = Some (at_line NoRoom (k + 1)) }) (append-nil (take at area)))

-- the front of the area holds what is listed
pub front_of : (all : Listed) (before area : List ℕ) (at k : ℕ) (ts : List (List ℕ)) → Sofar all before area at k ts → area ≡ over_front (take at area) before
front_of all before area at k ts so =
    let l : length (take at area) ≡ at = length-take-le at area (let a = so.within in let b = so.long in omega arith) in
    sym (take-append-drop at area) ∙ (ap (λ z. take at area ++ z) so.rest ∙ ap (λ z. take at area ++ drop z before) (sym l))

-- what the condition says of the slot
module _ (h : Contents) (i : ℕ) (l : i < length h.slots) where
  pub seen : condition_at h i ≡ condition_of (slot_at h i)
  seen = rw (lt-ltb i (length h.slots) l)

-- what a get of a slot's frame into a row of its length tells, r being its answer and `after` the row then
module _ (h : Contents) (i : ℕ) (row after : List ℕ) (r : Result (Unit {0}) StockFault) (er : r ≡ answered (get_fault h i (length row)) tt) where
  refusal_none : (c : Condition) (fits : Bool) → get_refusal c i fits ≡ None → c ≡ Filled
  refusal_none NoSlot fits e = cc
  refusal_none Bad true e = cc
  refusal_none Bad false e = cc
  refusal_none Blank true e = cc
  refusal_none Blank false e = cc
  refusal_none Filled fits e = refl

  allowed : is_ok r ≡ true → get_fault h i (length row) ≡ None
  allowed ok = by_fault (get_fault h i (length row)) (sym (ap is_ok er) ∙ ok)
    where
      by_fault : (o : Option StockFault) → is_ok (answered {X = Unit {0}} o tt) ≡ true → o ≡ None
      by_fault None e = refl
      by_fault (Some f) e = cc

  pub got_filled : is_ok r ≡ true → after ≡ got h i row → (condition_at h i ≡ Filled) × (after ≡ bytes_in (slot_at h i))
  got_filled ok ea = let n = allowed ok in (refusal_none (condition_at h i) (length row == h.frame) n, ea ∙ rw n)

  pub not_filled : length row ≡ h.frame → is_ok r ≡ false → condition_at h i ≡ Filled → ⊥
  not_filled len wrong e =
      let n : get_fault h i (length row) ≡ None = rw (e, eq-eqb (length row) h.frame len) in
      let y : is_ok r ≡ true = ap is_ok er ∙ rw n in
      absurd (let z : ◌≡◌ {A = Bool} true false = sym y ∙ wrong in let k : ◌≡◌ {A = ℕ} 0 1 = cc in omega arith)

-- whether a line has room
module _ (n long room : ℕ) where
  pub no_room_tells : (e : LineFault) → no_room n long room ≡ Some e → (room < long) × (e ≡ at_line NoRoom (n + 1))
  no_room_tells e h = by_test (leb long room) refl h
    where
      by_test : (b : Bool) → leb long room ≡ b → cond b None (Some (at_line NoRoom (n + 1))) ≡ Some e → (room < long) × (e ≡ at_line NoRoom (n + 1))
      by_test true q h = cc
      by_test false q h = (leb-false long room q, cc)

  pub room_tells : no_room n long room ≡ None → long ≤ room
  room_tells h = by_test (leb long room) refl h
    where
      by_test : (b : Bool) → leb long room ≡ b → cond b None (Some (at_line NoRoom (n + 1))) ≡ None → long ≤ room
      by_test true q h = leb-true long room q
      by_test false q h = cc

pub no_bytes : (s : Slot) → (condition_of s ≡ Filled → ⊥) → (k : ℕ) → get_or (bytes_in s) k 0 < 256
no_bytes (filled bs) ne k = absurd (ne refl)
no_bytes bad ne k = omega arith
no_bytes blank ne k = omega arith

pub sofar_at : (all : Listed) (before area : List ℕ) (at k : ℕ) (ts us : List (List ℕ)) → ts ≡ us → Sofar all before area at k ts → Sofar all before area at k us
sofar_at all before area at k ts us e so = rw e at so
