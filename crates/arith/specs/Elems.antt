-- The numbers of n digits, for n = m + 1, are such a space.
use Rattle.std.specs.Prelude.{◌≡◌, ℕ, zero, suc, ◌*◌, ◌/◌, ◌%◌, ◌^◌, ◌<◌, ◌≤◌, true, T, ◌⊎◌, List, [], ◌∷◌, ◌==◌, bit_xor, nat_lt}
use Rattle.std.proofs.Math.Path.{refl, ap, ap₂}
use Rattle.std.proofs.Common.{sym, ◌∙◌, subst, inl, inr, ⊎_elim, add-zero, mod-lt, mod-eq_of_lt, div-add-mod', div-lt_iff_lt-mul, le-div_iff_mul-le, mul-le-mul_left, pow-suc, arith, pow_pos, pow_mono, ltb→lt, lt→ltb}
use mathlib.Core.HLevel.{Σ_prop_path}
use Rattle.std.proofs.Math.Nat.{div-eq_of_lt}
use Rattle.std.proofs.Math.Arith.{lt-one}
use Rattle.std.proofs.Math.Pow.{pow-lt}
use Rattle.std.proofs.lemmas.Nat.{xor_lt, xor_block, xor_shr, xor_mod, xor_comm}
use Rattle.std.specs.Int.Bits.{xor_self, xor_zero_r, xor_assoc, xor_shifted}
use Rattle.std.proofs.Math.Dec.{T_prop}
use Rattle.std.proofs.lemmas.Bool.{and_parts, eqb-true, ltb-true, cases_lt, lt-ltb, le-ltb}
use Rattle.arith.specs.Domain.{Domain}
use Rattle.arith.specs.Field.{pick, doublings, digits, doubled, product_low, product, Elem, Field}
use Rattle.arith.specs.Cyclic as C
use Rattle.arith.specs.Cyclic.{Space, doublings_map, medial}
use Rattle.arith.specs.Certificate.{times, lin, table, finds, passes}

-- ---- on all numbers

xor4 : (a b c d : ℕ) → bit_xor (bit_xor a b) (bit_xor c d) ≡ bit_xor (bit_xor a c) (bit_xor b d)
xor4 = medial bit_xor xor_assoc xor_comm

xor_twice : (a b : ℕ) → bit_xor a b * 2 ≡ bit_xor (a * 2) (b * 2)
xor_twice a b =
    sym (add-zero (bit_xor a b * 2)) ∙ sym (xor_block 1 a b 0 0 (pow_pos 1) (pow_pos 1))
    ∙ ap₂ bit_xor (add-zero (a * 2)) (add-zero (b * 2))

pick_xor : (t s a : ℕ) → t < 2 → s < 2 → pick 0 (bit_xor t s) a ≡ bit_xor (pick 0 t a) (pick 0 s a)
pick_xor zero s a h k = refl
pick_xor (suc zero) zero a h k = sym (xor_zero_r a)
pick_xor (suc zero) (suc zero) a h k = sym (xor_self a)
pick_xor (suc zero) (suc (suc s)) a h k = absurd (omega arith)
pick_xor (suc (suc t)) s a h k = absurd (omega arith)

pick_one : (t : ℕ) → t < 2 → pick 0 t 1 ≡ t
pick_one zero h = refl
pick_one (suc zero) h = refl
pick_one (suc (suc t)) h = absurd (omega arith)

-- with nothing taken off, the digits of b stand for b
whole : (k b : ℕ) → b < 2 ^ k → doublings 0 bit_xor (λ x. x * 2) (digits k b) 1 ≡ b
whole zero b h = sym (lt-one h)
whole (suc k) b h =
    ap₂ bit_xor (pick_one (b % 2) (omega arith))
    (sym (doublings_map (λ x. x * 2) bit_xor (λ x. x * 2) refl xor_twice (λ _. refl) (digits k (b / 2)) 1)
    ∙ ap (λ x. x * 2) (whole k (b / 2) (omega arith)))
    ∙ xor_comm (b % 2) (b / 2 * 2) ∙ xor_shifted (b / 2) 1 (b % 2) (omega arith) ∙ div-add-mod' b 2

lin_add : (es : List ℕ) (v w : ℕ) → lin es (bit_xor v w) ≡ bit_xor (lin es v) (lin es w)
lin_add [] v w = refl
lin_add (e ∷ es) v w =
    ap₂ (λ x y. bit_xor (pick 0 x e) (lin es y)) (xor_mod v w 1) (xor_shr v w 1)
    ∙ ap₂ bit_xor (pick_xor (v % 2) (w % 2) e (omega arith) (omega arith)) (lin_add es (v / 2) (w / 2))
    ∙ xor4 (pick 0 (v % 2) e) (pick 0 (w % 2) e) (lin es (v / 2)) (lin es (w / 2))

-- ---- numbers of n digits

pub elem_path : (n : ℕ) {a b : Elem n} → a.0 ≡ b.0 → a ≡ b
elem_path n p = Σ_prop_path (λ x. T_prop (nat_lt x (2 ^ n))) p

pub below : (n : ℕ) (a : Elem n) → a.0 < 2 ^ n
below n a = ltb→lt a.0 (2 ^ n) a.1

pub inside : (n x : ℕ) → x < 2 ^ n → T (nat_lt x (2 ^ n))
inside n x h = lt→ltb x (2 ^ n) h

-- doubling without its case
pub doubled_is : (n c a : ℕ) → doubled n c a ≡ bit_xor (a * 2 % 2 ^ n) (pick 0 (a * 2 / 2 ^ n) c)
doubled_is n c a =
    ⊎_elim
    (λ h. rw (lt-ltb (a * 2) (2 ^ n) h, div-eq_of_lt h) (sym (xor_zero_r (a * 2 % 2 ^ n))))
    (λ h. rw (le-ltb (a * 2) (2 ^ n) h) (pick_some (a * 2 / 2 ^ n) ((le-div_iff_mul-le {x = 1} (pow_pos n)).1 (omega arith))))
    (cases_lt (a * 2) (2 ^ n))
  where
    pick_some : (t : ℕ) → 1 ≤ t → bit_xor (a * 2 % 2 ^ n) c ≡ bit_xor (a * 2 % 2 ^ n) (pick 0 t c)
    pick_some zero h = absurd (omega arith)
    pick_some (suc t) h = refl

pub doubled_low : (n c a : ℕ) → a * 2 < 2 ^ n → doubled n c a ≡ a * 2
doubled_low n c a h = rw (lt-ltb (a * 2) (2 ^ n) h) (mod-eq_of_lt h)

plain : (n c k b a : ℕ) → a * 2 ^ k ≤ 2 ^ n → doublings 0 bit_xor (doubled n c) (digits k b) a ≡ doublings 0 bit_xor (λ x. x * 2) (digits k b) a
plain n c zero b a h = refl
plain n c (suc zero) b a h = refl
plain n c (suc (suc k)) b a h =
    ap (bit_xor (pick 0 (b % 2) a))
    (ap (doublings 0 bit_xor (doubled n c) (digits (suc k) (b / 2)))
    (doubled_low n c a (omega (arith, h, pow_pos n, mul-le-mul_left a (pow_mono {i = 2} {j = suc (suc k)} (omega arith)))))
    ∙ plain n c (suc k) (b / 2) (a * 2) (omega (arith, rw (pow-suc 2 (suc k)) at h)))

pub pick_lt : (k t a : ℕ) → a < 2 ^ k → pick 0 t a < 2 ^ k
pick_lt k zero a h = pow_pos k
pick_lt k (suc t) a h = h

pub doubled_lt : (n c a : ℕ) → c < 2 ^ n → doubled n c a < 2 ^ n
doubled_lt n c a h = rw (doubled_is n c a) (xor_lt n (a * 2 % 2 ^ n) (pick 0 (a * 2 / 2 ^ n) c) (mod-lt (a * 2) (pow_pos n)) (pick_lt n (a * 2 / 2 ^ n) c h))

module _ (m c : ℕ) (c_lt : c < 2 ^ suc m) where
  abbrev n : ℕ
  n = suc m

  top : (a : Elem n) → a.0 * 2 / 2 ^ n < 2
  top a = (div-lt_iff_lt-mul (pow_pos n)).1 (omega (arith, below n a))

  abbrev nil : Elem n
  nil = (0, inside n 0 (pow_pos n))

  abbrev one : Elem n
  one = (1, inside n 1 (pow-lt {i = 0} {j = n} (omega arith)))

  abbrev add : Elem n → Elem n → Elem n
  add a b = (bit_xor a.0 b.0, inside n (bit_xor a.0 b.0) (xor_lt n a.0 b.0 (below n a) (below n b)))

  abbrev twice : Elem n → Elem n
  twice a = (doubled n c a.0, inside n (doubled n c a.0) (doubled_lt n c a.0 c_lt))

  pub mul_value : (a b : Elem n) → (doublings nil add twice (digits n b.0) a).0 ≡ product n c a.0 b.0
  unfolding product_low
  mul_value a b = doublings_map (λ a. a.0) {z = nil} {add = add} {dbl = twice} bit_xor (doubled n c) refl (λ a b. refl) (λ a. refl) (digits n b.0) a

  pub one_value : (b : Elem n) → product n c 1 b.0 ≡ b.0
  unfolding product_low
  one_value b = plain n c n b.0 1 (omega arith) ∙ whole n b.0 (below n b)

  pub mul_lt : (a b : Elem n) → product n c a.0 b.0 < 2 ^ n
  mul_lt a b = subst (λ x. x < 2 ^ n) (mul_value a b) (below n (doublings nil add twice (digits n b.0) a))

  abbrev prod : Elem n → Elem n → Elem n
  prod a b = (product n c a.0 b.0, inside n (product n c a.0 b.0) (mul_lt a b))

  pub doubled_xor : (a b : Elem n) → doubled n c (bit_xor a.0 b.0) ≡ bit_xor (doubled n c a.0) (doubled n c b.0)
  doubled_xor a b =
      doubled_is n c (bit_xor a.0 b.0) ∙ ap (λ x. bit_xor (x % 2 ^ n) (pick 0 (x / 2 ^ n) c)) (xor_twice a.0 b.0)
      ∙ ap₂ (λ x y. bit_xor x (pick 0 y c)) (xor_mod (a.0 * 2) (b.0 * 2) n) (xor_shr (a.0 * 2) (b.0 * 2) n)
      ∙ ap (bit_xor (bit_xor (a.0 * 2 % 2 ^ n) (b.0 * 2 % 2 ^ n))) (pick_xor (a.0 * 2 / 2 ^ n) (b.0 * 2 / 2 ^ n) c (top a) (top b))
      ∙ xor4 (a.0 * 2 % 2 ^ n) (b.0 * 2 % 2 ^ n) (pick 0 (a.0 * 2 / 2 ^ n) c) (pick 0 (b.0 * 2 / 2 ^ n) c)
      ∙ ap₂ bit_xor (sym (doubled_is n c a.0)) (sym (doubled_is n c b.0))

  abbrev space : Space (Elem n)
  space =
      record {
        nil = nil;
        one = one;
        add = add;
        mul = prod;
        dbl = twice;
        digits = λ b. digits n b.0;
        add_comm = λ a b. elem_path n (xor_comm a.0 b.0);
        add_assoc = λ a b d. elem_path n (xor_assoc a.0 b.0 d.0);
        nil_add = λ a. elem_path n refl;
        add_self = λ a. elem_path n (xor_self a.0);
        dbl_add = λ a b. elem_path n (doubled_xor a b);
        mul_doublings = λ a b. elem_path n (sym (mul_value a b));
        one_mul = λ b. elem_path n (one_value b);
      }

  abbrev square : ℕ → ℕ
  square a = product n c a a

  module _ (es : List ℕ) where
    g : Elem n → ℕ
    g a = lin es (bit_xor (square a.0) a.0)

    g_add : (a b : Elem n) → g (add a b) ≡ bit_xor (g a) (g b)
    unfolding g
    g_add a b =
        ap (λ x. lin es (bit_xor x (bit_xor a.0 b.0))) (ap (λ x. x.0) (C.sq_add space a b))
        ∙ ap (lin es) (xor4 (square a.0) (square b.0) a.0 b.0)
        ∙ lin_add es (bit_xor (square a.0) a.0) (bit_xor (square b.0) b.0)

    g_idem : (a : Elem n) → prod a a ≡ a → g a ≡ 0
    unfolding g
    g_idem a h =
        ap (λ x. lin es (bit_xor x.0 a.0)) h ∙ ap (lin es) (xor_self a.0) ∙ lin_add es 0 0 ∙ xor_self (lin es 0)

    pick_idem : (t : ℕ) → prod (pick nil t one) (pick nil t one) ≡ pick nil t one
    pick_idem zero = C.nil_mul space nil
    pick_idem (suc t) = space.one_mul one

    g_pick : (t : ℕ) (a : Elem n) → g a ≡ a.0 → g (pick nil t a) ≡ (pick nil t a).0
    g_pick zero a h = g_idem nil (pick_idem 0)
    g_pick (suc t) a h = h

    -- where the table finds a, its double, and so on, it finds their sums
    g_doublings : (k b : ℕ) (a : Elem n) → finds n c es k a.0 ≡ true → g (doublings nil add twice (digits k b) a) ≡ (doublings nil add twice (digits k b) a).0
    unfolding g
    g_doublings zero b a h = g_idem nil (pick_idem 0)
    g_doublings (suc k) b a h =
        let (p, q) = and_parts (g a == a.0) (finds n c es k (doubled n c a.0)) h in
        g_add (pick nil (b % 2) a) (doublings nil add twice (digits k (b / 2)) (twice a))
        ∙ ap₂ bit_xor (g_pick (b % 2) a (eqb-true (g a) a.0 p)) (g_doublings k (b / 2) (twice a) q)

    pub idem : finds n c es m (doubled n c 1) ≡ true → (a : Elem n) → prod a a ≡ a → (a ≡ nil) ⊎ (a ≡ one)
    idem found a h = go (a.0 % 2) (parts ∙ ap (add low) (elem_path n high_nil))
      where
        low : Elem n
        low = pick nil (a.0 % 2) one

        high : Elem n
        high = doublings nil add twice (digits m (a.0 / 2)) (twice one)

        parts : a ≡ add low high
        parts = sym (space.one_mul a) ∙ space.mul_doublings one a

        high_nil : high.0 ≡ 0
        high_nil =
            sym (g_doublings m (a.0 / 2) (twice one) found) ∙ ap (λ x. bit_xor x (g high)) (sym (g_idem low (pick_idem (a.0 % 2))))
            ∙ sym (g_add low high) ∙ ap g (sym parts) ∙ g_idem a h

        go : (t : ℕ) → a ≡ add (pick nil t one) nil → (a ≡ nil) ⊎ (a ≡ one)
        go zero e = inl (e ∙ elem_path n refl)
        go (suc t) e = inr (e ∙ elem_path n refl)

  pub sqs_value : (k : ℕ) (a : Elem n) → (times (λ x. prod x x) k a).0 ≡ times square k a.0
  sqs_value zero a = refl
  sqs_value (suc k) a = ap square (sqs_value k a)

abbrev pub domain : (m c : ℕ) → passes m c ≡ true → Domain (Elem (suc m))
domain m c h =
    let (p, q) = and_parts (nat_lt c (2 ^ suc m)) _ h in
    let (found, back) = and_parts (finds (suc m) c (table m c) m (doubled (suc m) c 1)) _ q in
    let lt = ltb-true c (2 ^ suc m) p in
    let s = space m c lt in
    record {
      zero = s.nil;
      one = s.one;
      add = s.add;
      mul = s.mul;
      add_comm = s.add_comm;
      add_assoc = s.add_assoc;
      zero_add = s.nil_add;
      add_self = s.add_self;
      mul_comm = C.mul_comm s;
      mul_assoc = C.mul_assoc s;
      one_mul = s.one_mul;
      mul_add = C.mul_add s;
      zero_product = C.no_divisors s m (elem_path (suc m) (sqs_value m c lt (suc m) (s.dbl s.one) ∙ eqb-true _ _ back)) (idem m c lt (table m c) found);
    }

pub field : (m c : ℕ) → passes m c ≡ true → Field (suc m) c
field m c h =
    record { domain = domain m c h; zero_is = refl; one_is = refl; add_is = λ a b. refl; mul_is = λ a b. refl }
