-- A listing read back. Assumes nothing.
use Rattle.std.proofs.Common.{◌≡◌, ℕ, zero, suc, ◌+◌, ◌-◌, ◌*◌, ◌/◌, ◌%◌, ◌^◌, ◌<◌, ◌≤◌, Bool, true, false, cond, ltb, leb, List, [], ◌∷◌, ◌++◌, map, length, get_or, take, drop, set, Some, None, Ok, Err, Option, sym, refl, ap, ◌∙◌, mod-eq_of_lt, arith, ltb-false, ltb-true, lt-ltb, eq-eqb, le-leb}
use native.Mathlib.Nat.{div-div-eq-div-mul}
use borrow.Author.Tests.{lt-leb}
use Rattle.std.proofs.lemmas.List.{append_assoc, take_at, drop_at, get_or_at, set_at, length-append, length_push}
use Rattle.stock.specs.Slots.{Slot, bad, blank, filled, Contents, bytes_in, Framed, AllFramed}
use Rattle.reel.specs.Books.{Book, book_of, whole, load_fault, after_load}
use Rattle.fault.specs.declared.line.LineFault.{LineFault}
use Rattle.fault.specs.declared.line.LineCause.TheVariants.{NoRoom}
use Rattle.listing.specs.Digits.{hex, is_hex, hex_value, digits_of, all_hex, row_of}
use Rattle.listing.specs.Lines.{Line, lines, address_bytes, address_from, line_for, address_in, frame_in, spelt, line_cause}
use Rattle.listing.specs.Listings.{AllBytes, lines_of, joined, listed_in, listing_in, after_text, over_front, Listed}
use Rattle.fault.specs.Faults.{at_line}
use Rattle.listing.specs.Loadings.{loading, decline, after_line}
use Rattle.listing.specs.Copies.{emptied, blanked, loaded_from}
use Rattle.listing.proofs.Pairs.{length_digits, length_address}
use Rattle.listing.proofs.Cuts.{Clean, clean_append, lines_cut}
use Rattle.listing.proofs.Declines.{decline_none, loaded_is, load_more}

module _ (v : ℕ) (h : v < 16) where
  value_by : (t : Bool) → ltb v 10 ≡ t → hex_value (cond t (48 + v) (55 + v)) ≡ v
  value_by true e = let l = ltb-true v 10 e in rw (le-leb (48 + v) 57 (omega arith)) (omega arith)
  value_by false e = let l = ltb-false v 10 e in rw (lt-leb (55 + v) 57 (omega arith)) (omega arith)

  pub value_hex : hex_value (hex v) ≡ v
  value_hex = value_by _ refl

  is_by : (t : Bool) → ltb v 10 ≡ t → is_hex (cond t (48 + v) (55 + v)) ≡ true
  is_by true e = let l = ltb-true v 10 e in rw (le-leb 48 (48 + v) (omega arith), le-leb (48 + v) 57 (omega arith))
  is_by false e = let l = ltb-false v 10 e in rw (le-leb 48 (55 + v) (omega arith), lt-leb (55 + v) 57 (omega arith), le-leb 65 (55 + v) (omega arith), le-leb (55 + v) 70 (omega arith))

  pub is_hex_hex : is_hex (hex v) ≡ true
  is_hex_hex = is_by _ refl

hex_clean : (v : ℕ) → hex v ≡ 10 → ⊥
hex_clean v = by_test _
  where
    by_test : (t : Bool) → cond t (48 + v) (55 + v) ≡ 10 → ⊥
    by_test true e = omega arith
    by_test false e = omega arith

digits_clean : (bs : List ℕ) → Clean (digits_of bs)
digits_clean [] = tt
digits_clean (b ∷ bs) = (hex_clean (b / 16), (hex_clean (b % 16), digits_clean bs))

abbrev Bytes : List ℕ → Type 0
Bytes bs = (k : ℕ) → get_or bs k 0 < 256

all_digits : (bs : List ℕ) → Bytes bs → all_hex (digits_of bs) ≡ true
all_digits [] h = refl
all_digits (b ∷ bs) h =
    let l = h 0 in
    rw (is_hex_hex (b / 16) (omega arith), is_hex_hex (b % 16) (omega arith)) (all_digits bs (λ k. h (suc k)))

row_digits : (bs : List ℕ) → Bytes bs → row_of (digits_of bs) ≡ bs
row_digits [] h = refl
row_digits (b ∷ bs) h =
    let l = h 0 in
    let e : hex_value (hex (b / 16)) * 16 + hex_value (hex (b % 16)) ≡ b = rw (value_hex (b / 16) (omega arith), value_hex (b % 16) (omega arith)) (omega arith) in
    ap (λ z. z ∷ row_of (digits_of bs)) e ∙ ap (λ z. b ∷ z) (row_digits bs (λ k. h (suc k)))

four_bytes : (w x y z : ℕ) → w < 256 → x < 256 → y < 256 → z < 256 → Bytes (w ∷ (x ∷ (y ∷ (z ∷ []))))
four_bytes w x y z a b c d zero = a
four_bytes w x y z a b c d (suc zero) = b
four_bytes w x y z a b c d (suc (suc zero)) = c
four_bytes w x y z a b c d (suc (suc (suc zero))) = d
four_bytes w x y z a b c d (suc (suc (suc (suc k)))) = omega arith

address_small : (a : ℕ) → Bytes (address_bytes a)
unfolding address_bytes
address_small a = four_bytes (a / 16777216 % 256) (a / 65536 % 256) (a / 256 % 256) (a % 256) (omega arith) (omega arith) (omega arith) (omega arith)

four : (a p q r m₀ m₁ m₂ m₃ : ℕ) → a ≡ 256 * p + m₀ → p ≡ 256 * q + m₁ → q ≡ 256 * r + m₂ → m₃ ≡ r → m₃ * 16777216 + m₂ * 65536 + m₁ * 256 + m₀ ≡ a
four a p q r m₀ m₁ m₂ m₃ e f g h = omega arith

by_256 : (p q : ℕ) → p / 256 ≡ q → p ≡ 256 * q + p % 256
by_256 p q e = omega arith

address_back : (a : ℕ) → a < 2 ^ 32 → address_from (address_bytes a) ≡ a
unfolding address_bytes
address_back a h =
    let e = by_256 (a / 256) (a / 65536) (div-div-eq-div-mul a 256 256) in
    let f = by_256 (a / 65536) (a / 16777216) (div-div-eq-div-mul a 65536 256) in
    let z = by_256 a (a / 256) refl in
    let g : a / 16777216 % 256 ≡ a / 16777216 = mod-eq_of_lt (omega arith) in
    four a (a / 256) (a / 65536) (a / 16777216) _ _ _ _ z e f g

-- the line of a frame, without its line feed
abbrev body : ℕ → List ℕ → List ℕ
body a bs = digits_of (address_bytes a) ++ (32 ∷ digits_of bs)

module _ (a : ℕ) (bs : List ℕ) (ha : a < 2 ^ 32) (hb : Bytes bs) where
  long : length (body a bs) ≡ 9 + 2 * length bs
  long = length-append (digits_of (address_bytes a)) (32 ∷ digits_of bs) ∙ (let u = length_address a in let v = length_digits bs in omega arith)

  head : take 8 (body a bs) ≡ digits_of (address_bytes a)
  head = take_at (digits_of (address_bytes a)) (32 ∷ digits_of bs) 8 (length_address a)

  space : get_or (body a bs) 8 0 ≡ 32
  space = get_or_at (digits_of (address_bytes a)) 32 (digits_of bs) 0 8 (length_address a)

  tail : drop 9 (body a bs) ≡ digits_of bs
  tail =
      let e : body a bs ≡ (digits_of (address_bytes a) ++ 32 ∷ []) ++ digits_of bs = sym (append_assoc (digits_of (address_bytes a)) (32 ∷ []) (digits_of bs)) in
      let l : length (digits_of (address_bytes a) ++ 32 ∷ []) ≡ 9 = length_push (digits_of (address_bytes a)) 32 ∙ ap (λ z. z + 1) (length_address a) in
      ap (drop 9) e ∙ drop_at (digits_of (address_bytes a) ++ 32 ∷ []) (digits_of bs) 9 l

  address_read : address_in (body a bs) ≡ a
  address_read = ap (λ z. address_from (row_of z)) head ∙ (ap address_from (row_digits (address_bytes a) (address_small a)) ∙ address_back a ha)

  frame_read : frame_in (body a bs) ≡ bs
  frame_read = ap row_of tail ∙ row_digits bs hb

  well_spelt : spelt (body a bs) ≡ true
  well_spelt = rw (ap all_hex head ∙ all_digits (address_bytes a) (address_small a), eq-eqb _ _ space, ap all_hex tail ∙ all_digits bs hb)

  no_cause : (n low : ℕ) → length bs ≡ n → low ≤ a → line_cause n low (record { text = body a bs; ended = true }) ≡ None
  no_cause n low e l =
      let q : length (body a bs) ≡ 9 + 2 * n = long ∙ ap (λ z. 9 + 2 * z) e in
      let z : leb low (address_in (body a bs)) ≡ true = le-leb _ _ (let r = address_read in omega arith) in
      rw (eq-eqb _ _ q, well_spelt, z)

  clean : Clean (body a bs)
  clean = clean_append (digits_of (address_bytes a)) (32 ∷ digits_of bs) (digits_clean (address_bytes a)) ((λ e. omega arith), digits_clean bs)

  first_line : (rest : List ℕ) → lines (line_for a bs ++ rest) ≡ record { text = body a bs; ended = true } ∷ lines rest
  first_line rest =
      let e : line_for a bs ++ rest ≡ body a bs ++ 10 ∷ rest = simp append_assoc in
      ap lines e ∙ lines_cut (body a bs) rest clean

-- a listing that is not stopped is whole
pub all_listed : (room k : ℕ) (ts : List (List ℕ)) → (listed_in room k ts).fault ≡ None → (listed_in room k ts).text ≡ joined ts
all_listed room k [] e = refl
all_listed room k (t ∷ ts) e = by_test (leb (length t) room) (all_listed (room - length t) (k + 1) ts) e
  where
    by_test : (b : Bool) → ((listed_in (room - length t) (k + 1) ts).fault ≡ None → (listed_in (room - length t) (k + 1) ts).text ≡ joined ts)
        → (cond b (after_text t (listed_in (room - length t) (k + 1) ts)) (record { text = []; fault = Some (at_line NoRoom (k + 1)) })).fault ≡ None
        → (cond b (after_text t (listed_in (room - length t) (k + 1) ts)) (record { text = []; fault = Some (at_line NoRoom (k + 1)) })).text ≡ t ++ joined ts
    by_test true ih f = ap (λ z. t ++ z) (ih f)
    by_test false ih f = absurd (let z : ◌≡◌ {A = ℕ} 0 1 = cc in omega arith)

module _ (b n : ℕ) (fits : whole b 2 513 n ≡ true) where
  abbrev pub Good : List Slot → Type 0
  Good [] = Unit {0}
  Good (s ∷ ss) = Framed n s × Bytes (bytes_in s) × Good ss

  abbrev with : List Slot → Book
  with ss = book_of (record { frame = n; slots = ss })

  may_load : (ss : List Slot) (a len : ℕ) → a < length ss → get_or ss a bad ≡ blank → len ≡ n → load_fault b (with ss) a len ≡ None
  may_load ss a len l e en = rw (fits, lt-ltb a (length ss) l, eq-eqb len n en, e)

  -- a load of a blank slot
  load_blank : (ss ts : List Slot) (a : ℕ) (bs : List ℕ) → a < length ss → get_or ss a bad ≡ blank → length bs ≡ n → set ss a (filled bs) ≡ ts → after_load b (with ss) a bs ≡ with ts
  load_blank ss ts a bs l e en et =
      let f : load_fault b (with ss) a (length bs) ≡ None = may_load ss a (length bs) l e en in
      rw f (ap with et)

  -- every slot of ss comes over, those of ps being over: `to` is what the stock holds, `end` what it is to hold
  pub comes_over : (ps ss : List Slot) (i k low : ℕ) (to end : List Slot) → i ≡ length ps → to ≡ ps ++ map emptied ss → end ≡ ps ++ ss → Good ss → low ≤ i → i + length ss ≤ 65536
      → loading b (with to) k low (lines (joined (lines_of i ss))) ≡ record { after = with end; answer = Ok (k + length (lines_of i ss)) }
  comes_over ps [] i k low to end ei et ee g l few =
      let z : k ≡ k + 0 = omega arith in
      ap (λ x. record { after = with x; answer = Ok k }) (et ∙ sym ee) ∙ ap (λ x. record { after = with end; answer = Ok x }) z
  comes_over ps (bad ∷ ss) i k low to end ei et ee g l few =
      comes_over (ps ++ bad ∷ []) ss (i + 1) k low to end (ap (λ z. z + 1) ei ∙ sym (length_push ps bad)) (et ∙ sym (append_assoc ps (bad ∷ []) (map emptied ss))) (ee ∙ sym (append_assoc ps (bad ∷ []) ss)) g.2 (omega arith) (omega arith)
  comes_over ps (blank ∷ ss) i k low to end ei et ee g l few =
      comes_over (ps ++ blank ∷ []) ss (i + 1) k low to end (ap (λ z. z + 1) ei ∙ sym (length_push ps blank)) (et ∙ sym (append_assoc ps (blank ∷ []) (map emptied ss))) (ee ∙ sym (append_assoc ps (blank ∷ []) ss)) g.2 (omega arith) (omega arith)
  comes_over ps (filled bs ∷ ss) i k low to end ei et ee g l few =
      let ha : i < 2 ^ 32 = omega arith in
      let hb : Bytes bs = g.1 in
      let t : Line = record { text = body i bs; ended = true } in
      let rest : List ℕ = joined (lines_of (i + 1) ss) in
      let lt : length to ≡ length ps + length (blank ∷ map emptied ss) = ap length et ∙ length-append ps (blank ∷ map emptied ss) in
      let li : i < length to = omega arith in
      let bl : get_or to i bad ≡ blank = ap (λ z. get_or z i bad) et ∙ get_or_at ps blank (map emptied ss) bad i (sym ei) in
      let ar : i ≡ address_in (body i bs) = sym (address_read i bs ha hb) in
      let fr : bs ≡ frame_in (body i bs) = sym (frame_read i bs ha hb) in
      let nc = no_cause i bs ha hb n low g.0 l in
      let d : decline b (with to) low t ≡ None = decline_none b (with to) low n t refl i bs nc ar fr (may_load to i (length bs) li bl g.0) in
      let m = load_more b k low (with to) t (lines rest) _ (first_line i bs ha hb rest) d in
      let next : List Slot = (ps ++ filled bs ∷ []) ++ map emptied ss in
      let st : set to i (filled bs) ≡ next = ap (λ z. set z i (filled bs)) et ∙ (set_at ps blank (map emptied ss) (filled bs) i (sym ei) ∙ sym (append_assoc ps (filled bs ∷ []) (map emptied ss))) in
      let af : after_line b (with to) t ≡ with next = sym (loaded_is b (with to) low n t refl i bs nc ar fr (with next) (sym (load_blank to next i bs li bl g.0 st))) in
      let q : k + 1 + length (lines_of (i + 1) ss) ≡ k + length (lines_of i (filled bs ∷ ss)) = omega arith in
      let lo : address_in (body i bs) + 1 ≤ i + 1 = omega arith in
      m ∙ (ap (λ (z : Book). loading b z (k + 1) (address_in (body i bs) + 1) (lines rest)) af
      ∙ (comes_over (ps ++ filled bs ∷ []) ss (i + 1) (k + 1) (address_in (body i bs) + 1) next end
      (ap (λ z. z + 1) ei ∙ sym (length_push ps (filled bs))) refl (ee ∙ sym (append_assoc ps (filled bs ∷ []) ss)) g.2 lo (omega arith)
      ∙ ap (λ z. record { after = with end; answer = Ok z }) q))

  pub good_all : (ss : List Slot) → ((i : ℕ) → i < length ss → Framed n (get_or ss i bad)) → AllBytes ss → Good ss
  good_all [] f h = tt
  good_all (s ∷ ss) f h = (f 0 (omega arith), h 0, good_all ss (λ i l. f (suc i) (omega arith)) (λ i k. h (suc i) k))

-- a copy that is not stopped by its listing
pub copied_is : (b : ℕ) (to : Book) (l : Listed) (part : List ℕ) → l.fault ≡ None → part ≡ l.text → loaded_from b to l ≡ loading b to 0 0 (lines part)
copied_is b to l part e p =
    ap (λ (o : Option LineFault). elim o [ None ↦ loading b to 0 0 (lines l.text) | Some x ↦ record { after = to; answer = Err x } ]) e ∙ ap (λ z. loading b to 0 0 (lines z)) (sym p)

pub over_all : (b : ℕ) (from : Contents) (to : Book) (room : ℕ) (part : List ℕ) → AllFramed from → AllBytes from.slots → length from.slots ≤ 65536 → part ≡ (listing_in from.slots room).text
    → whole b 2 513 from.frame ≡ true → to ≡ book_of (blanked from) → (listing_in from.slots room).fault ≡ None
    → loading b to 0 0 (lines part) ≡ record { after = book_of from; answer = Ok (length (lines_of 0 from.slots)) }
over_all b from to room part fr by few ep wh et ef =
    let t = ep ∙ all_listed room 0 (lines_of 0 from.slots) ef in
    let z : 0 + length (lines_of 0 from.slots) ≡ length (lines_of 0 from.slots) = omega arith in
    ap (λ (k : Book). loading b k 0 0 (lines part)) et ∙ (ap (λ x. loading b (book_of (blanked from)) 0 0 (lines x)) t
    ∙ (comes_over b from.frame wh [] from.slots 0 0 0 (map emptied from.slots) from.slots refl refl refl (good_all b from.frame wh from.slots fr by) (omega arith) (omega arith)
    ∙ ap (λ x. record { after = book_of from; answer = Ok x }) z))

pub front_read : (t area end-area : List ℕ) (end : ℕ) → end ≡ length t → end-area ≡ over_front t area → take end end-area ≡ t
front_read t area w end e ew = ap (λ m. take m w) e ∙ (ap (take (length t)) ew ∙ take_at t (drop (length t) area) (length t) refl)
