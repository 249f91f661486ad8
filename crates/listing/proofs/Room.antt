-- How much of a listing an area takes. Assumes nothing.
use Rattle.std.proofs.Common.{◌≡◌, ℕ, suc, ◌+◌, ◌-◌, ◌*◌, ◌<◌, ◌≤◌, Bool, true, false, cond, leb, List, [], ◌∷◌, ◌++◌, length, get_or, take, Some, None, Option, sym, refl, ap, ◌∙◌, suc-mul, arith, le-leb, leb-false, leb-true}
use Rattle.std.proofs.lemmas.List.{length-append}
use Rattle.stock.specs.Slots.{Slot, bad, blank, filled, Contents, Framed, AllFramed}
use Rattle.fault.specs.declared.line.LineFault.{LineFault}
use Rattle.fault.specs.declared.line.LineCause.TheVariants.{NoRoom}
use Rattle.fault.specs.Faults.{at_line}
use Rattle.listing.specs.Lines.{line_for}
use Rattle.listing.specs.Listings.{lines_of, joined, Listed, listed_in, after_text, WholeLines, RoomForAll}
use Rattle.listing.proofs.Writes.{length_line}

-- the lines that are written, n others being written before
record Written (n room : ℕ) (ts : List (List ℕ)) (l : Listed) : Type 0 where
  pub count : ℕ
  pub text : l.text ≡ joined (take count ts)
  pub fits : length l.text ≤ room
  pub all : l.fault ≡ None → count ≡ length ts
  pub next : (e : LineFault) → l.fault ≡ Some e → (e ≡ at_line NoRoom (n + suc count)) × (room < length (joined (take (suc count) ts)))

none_some : {X A : Type 0} (x : X) → ◌≡◌ {A = Option X} None (Some x) → A
none_some x e = cc

some_none : {X A : Type 0} (x : X) → ◌≡◌ {A = Option X} (Some x) None → A
some_none x e = cc

some_is : {X : Type 0} (x y : X) → Some x ≡ Some y → x ≡ y
some_is x y e = cc

written : (room n : ℕ) (ts : List (List ℕ)) → Written n room ts (listed_in room n ts)
written room n [] = record { count = 0; text = refl; fits = omega arith; all = λ _. refl; next = λ e q. none_some e q }
written room n (t ∷ ts) = by_test (leb (length t) room) refl (written (room - length t) (n + 1) ts)
  where
    by_test : (b : Bool) → leb (length t) room ≡ b → Written (n + 1) (room - length t) ts (listed_in (room - length t) (n + 1) ts)
        → Written n room (t ∷ ts) (cond b (after_text t (listed_in (room - length t) (n + 1) ts)) (record { text = []; fault = Some (at_line NoRoom (n + 1)) }))
    by_test true h w =
        let le = leb-true (length t) room h in
        let l = length-append t (listed_in (room - length t) (n + 1) ts).text in
        let f = w.fits in
        record {
          count = suc w.count;
          text = ap (λ z. t ++ z) w.text;
          fits = omega arith;
          all = λ q. ap suc (w.all q);
          next = λ e q.
              let x = w.next e q in
              let a = length-append t (joined (take (suc w.count) ts)) in
              let m : n + 1 + suc w.count ≡ n + suc (suc w.count) = omega arith in
              (x.0 ∙ ap (at_line NoRoom) m, (let r = x.1 in omega arith));
        }
    by_test false h w =
        let lt = leb-false (length t) room h in
        let a = length-append t [] in
        record {
          count = 0;
          text = refl;
          fits = omega arith;
          all = λ q. some_none (at_line NoRoom (n + 1)) q;
          next = λ e q. (sym (some_is (at_line NoRoom (n + 1)) e q), omega arith);
        }

pub whole_lines : (room : ℕ) (ts : List (List ℕ)) → WholeLines ts room (listed_in room 0 ts)
whole_lines room ts =
    let w = written room 0 ts in
    let m : 0 + suc w.count ≡ suc w.count = omega arith in
    record { count = w.count; text = w.text; fits = w.fits; all = w.all; next = λ e q. ((w.next e q).0 ∙ ap (at_line NoRoom) m, (w.next e q).1) }

-- lines that have room together are all written
all_written : (room n : ℕ) (ts : List (List ℕ)) → length (joined ts) ≤ room → listed_in room n ts ≡ record { text = joined ts; fault = None }
all_written room n [] h = refl
all_written room n (t ∷ ts) h =
    let l = length-append t (joined ts) in
    rw (le-leb (length t) room (omega arith)) (ap (after_text t) (all_written (room - length t) (n + 1) ts (omega arith)))

-- a line of each slot is as much as there can be
most : (w n i : ℕ) (ss : List Slot) → w ≡ 10 + 2 * n → ((j : ℕ) → j < length ss → Framed n (get_or ss j bad)) → length (joined (lines_of i ss)) ≤ length ss * w
most w n i [] e f = omega arith
most w n i (bad ∷ ss) e f = let h = most w n (i + 1) ss e (λ j l. f (suc j) (omega arith)) in let m = suc-mul (length ss) w in omega arith
most w n i (blank ∷ ss) e f = let h = most w n (i + 1) ss e (λ j l. f (suc j) (omega arith)) in let m = suc-mul (length ss) w in omega arith
most w n i (filled bs ∷ ss) e f =
    let h = most w n (i + 1) ss e (λ j l. f (suc j) (omega arith)) in
    let m = suc-mul (length ss) w in
    let b : length bs ≡ n = f 0 (omega arith) in
    let l = length_line i bs in
    let a = length-append (line_for i bs) (joined (lines_of (i + 1) ss)) in
    omega arith

pub room_for_all : (h : Contents) (room : ℕ) → AllFramed h → RoomForAll h room
room_for_all h room f r =
    let m = most (10 + 2 * h.frame) h.frame 0 h.slots refl f in
    all_written room 0 (lines_of 0 h.slots) (omega arith)
