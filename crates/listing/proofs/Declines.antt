-- Why a line is refused, by itself and then by its load, and how a loading goes on. Assumes nothing.
use Rattle.std.proofs.Common.{◌≡◌, ℕ, zero, suc, ◌+◌, ◌<◌, List, [], ◌∷◌, length, take, Some, None, Ok, Err, Option, Result, MatchResult, IsErrAnd, sym, refl, ap, ◌∙◌, arith}
use Rattle.stock.specs.Refusals.{answered}
use Rattle.fault.specs.declared.reel.ReelFault.{ReelFault}
use Rattle.reel.specs.Books.{Book, load_fault, after_load}
use Rattle.fault.specs.declared.line.LineFault.{LineFault}
use Rattle.fault.specs.declared.line.LineCause.{LineCause}
use Rattle.fault.specs.declared.line.LineCause.TheVariants.{Reel}
use Rattle.fault.specs.Faults.{at_line}
use Rattle.listing.specs.Lines.{Line, line_cause, address_in, frame_in}
use Rattle.listing.specs.Loadings.{decline, after_line, after_lines, stopped, Loading, loading, lines_loaded, decline_at, FirstRefused}

err_is : {X : Type 0} (x y : X) → ◌≡◌ {A = Result ℕ X} (Err x) (Err y) → x ≡ y
err_is x y e = cc

-- What `map_err` makes, m, of a call's answer r: P is what its closure says.
module _ (o : Option LineCause) (a : ℕ) (r : Result ℕ LineCause) (er : r ≡ answered o a) (m : Result ℕ LineFault) (P : LineCause → LineFault → Type 0) (made : MatchResult r (λ x. m ≡ Ok x) (λ c. IsErrAnd m (P c))) where
  pub fault_made : (f : LineFault) → m ≡ Err f → (c : LineCause) × (o ≡ Some c) × P c f
  fault_made f e = by_fault o (rw er at made)
    where
      by_fault : (q : Option LineCause) → MatchResult (answered q a) (λ x. m ≡ Ok x) (λ c. IsErrAnd m (P c)) → (c : LineCause) × (q ≡ Some c) × P c f
      by_fault None h = absurd (let z : ◌≡◌ {A = ℕ} 0 1 = cc in omega arith)
      by_fault (Some c) h = (c, refl, rw e at h)

  pub none_made : (x : ℕ) → m ≡ Ok x → (o ≡ None) × (x ≡ a) × (r ≡ Ok x)
  none_made x e = let d = by_fault o (rw er at made) in (d.0, d.1, er ∙ rw (d.0, d.1) refl)
    where
      by_fault : (q : Option LineCause) → MatchResult (answered q a) (λ y. m ≡ Ok y) (λ c. IsErrAnd m (P c)) → (q ≡ None) × (x ≡ a)
      by_fault None h = (refl, cc)
      by_fault (Some c) h = absurd (rw e at h)

module _ (b : ℕ) (k : Book) (low n : ℕ) (l : Line) (en : n ≡ k.held.frame) where
  pub decline_own : (c : LineCause) → line_cause n low l ≡ Some c → decline b k low l ≡ Some c
  decline_own c e = let f : line_cause k.held.frame low l ≡ Some c = rw en at e in rw f

  -- the load of a line that is not refused by itself
  module _ (a : ℕ) (row : List ℕ) (e : line_cause n low l ≡ None) (ea : a ≡ address_in l.text) (er : row ≡ frame_in l.text) where
    by_load : (o : Option ReelFault) → load_fault b k a (length row) ≡ o → load_fault b k (address_in l.text) (length (frame_in l.text)) ≡ o
    by_load o f = rw (ea, er) at f

    pub decline_reel : (r : ReelFault) → load_fault b k a (length row) ≡ Some r → decline b k low l ≡ Some (Reel r)
    decline_reel r f =
        let e2 : line_cause k.held.frame low l ≡ None = rw en at e in
        rw (e2, by_load (Some r) f)

    pub decline_none : load_fault b k a (length row) ≡ None → decline b k low l ≡ None
    decline_none f =
        let e2 : line_cause k.held.frame low l ≡ None = rw en at e in
        rw (e2, by_load None f)

    pub loaded_is : (after : Book) → after ≡ after_load b k a row → after ≡ after_line b k l
    loaded_is after f = rw (ea, er) at f

-- one line more, and the line that stops a loading
module _ (b n low : ℕ) (k : Book) (l : Line) (ls ms : List Line) (e : ms ≡ l ∷ ls) where
  pub load_more : decline b k low l ≡ None → loading b k n low ms ≡ loading b (after_line b k l) (n + 1) (address_in l.text + 1) ls
  load_more d = ap (loading b k n low) e ∙ ap (λ (o : Option LineCause). stopped k n o (loading b (after_line b k l) (n + 1) (address_in l.text + 1) ls)) d

  pub load_stop : (c : LineCause) → decline b k low l ≡ Some c → loading b k n low ms ≡ record { after = k; answer = Err (at_line c (n + 1)) }
  load_stop c d = ap (loading b k n low) e ∙ ap (λ (o : Option LineCause). stopped k n o (loading b (after_line b k l) (n + 1) (address_in l.text + 1) ls)) d

-- A loading after n others: m lines are loaded, each by one load, and the answer tells what comes then.
record Each (b : ℕ) (k : Book) (n low : ℕ) (ls : List Line) (x : Loading) : Type 0 where
  pub m : ℕ
  pub counted : lines_loaded x.answer ≡ n + m
  pub loads : x.after ≡ after_lines b k (take m ls)
  pub before : (i : ℕ) (d : Line) → i < m → decline_at b k low ls i d ≡ None
  pub this : (e : LineFault) (d : Line) → x.answer ≡ Err e → decline_at b k low ls m d ≡ Some e.cause
  pub all : (i : ℕ) → x.answer ≡ Ok i → m ≡ length ls

each : (b : ℕ) (k : Book) (n low : ℕ) (ls : List Line) → Each b k n low ls (loading b k n low ls)
each b k n low [] = record { m = 0; counted = omega arith; loads = refl; before = λ i d h. absurd (omega arith); this = λ e d q. absurd (let z : ◌≡◌ {A = ℕ} 0 1 = cc in omega arith); all = λ i q. refl }
each b k n low (l ∷ ls) = by_line (decline b k low l) refl _ (each b (after_line b k l) (n + 1) (address_in l.text + 1) ls)
  where
    by_line : (o : Option LineCause) → decline b k low l ≡ o → (rest : Loading) → Each b (after_line b k l) (n + 1) (address_in l.text + 1) ls rest → Each b k n low (l ∷ ls) (stopped k n o rest)
    by_line None h rest x = record { m = suc x.m; counted = (let q = x.counted in omega arith); loads = x.loads; before = earlier; this = x.this; all = λ i q. ap suc (x.all i q) }
      where
        earlier : (i : ℕ) (d : Line) → i < suc x.m → decline_at b k low (l ∷ ls) i d ≡ None
        earlier zero d lt = h
        earlier (suc i) d lt = x.before i d (omega arith)
    by_line (Some c) h rest x =
        record {
          m = 0;
          counted = omega arith;
          loads = refl;
          before = λ i d lt. absurd (omega arith);
          this = λ e d q. h ∙ ap (λ (f : LineFault). Some f.cause) (err_is (at_line c (n + 1)) e q);
          all = λ i q. absurd (let z : ◌≡◌ {A = ℕ} 0 1 = cc in omega arith);
        }

-- the two laws of a loading, of its answer r and the book after it
module _ (b : ℕ) (k : Book) (ls : List Line) (x : Loading) (ex : x ≡ loading b k 0 0 ls) where
  counts : (each b k 0 0 ls).m ≡ lines_loaded x.answer
  counts = let c = (each b k 0 0 ls).counted in let z : lines_loaded (loading b k 0 0 ls).answer ≡ lines_loaded x.answer = ap (λ (y : Loading). lines_loaded y.answer) (sym ex) in omega arith

  answers : (f : Result ℕ LineFault) → x.answer ≡ f → (loading b k 0 0 ls).answer ≡ f
  answers f q = ap (λ (y : Loading). y.answer) (sym ex) ∙ q

  pub one_load_each : (after : Book) → after ≡ x.after → after ≡ after_lines b k (take (lines_loaded x.answer) ls)
  one_load_each after ea = ea ∙ (ap (λ (y : Loading). y.after) ex ∙ ((each b k 0 0 ls).loads ∙ ap (λ z. after_lines b k (take z ls)) counts))

  pub first_refused : FirstRefused b k ls x.answer
  first_refused =
      record {
        before = λ i d lt. (each b k 0 0 ls).before i d (let c = counts in omega arith);
        this = λ e d q. ap (λ z. decline_at b k 0 ls z d) (sym counts) ∙ (each b k 0 0 ls).this e d (answers (Err e) q);
        all = λ i q. sym (ap lines_loaded q) ∙ (sym counts ∙ (each b k 0 0 ls).all i (answers (Ok i) q));
      }
