-- What follows of a space over the field of two elements that one element spans under one additive map, `dbl`.
-- The product of a and b is the sum of a doubled i times over the digits i of b that are 1, so it is read off `dbl` alone.
use Rattle.std.specs.Prelude.{◌≡◌, ℕ, zero, suc, ◌⊎◌, List, [], ◌∷◌, refl}
use Rattle.std.proofs.Common.{sym, ap, ap₂, ◌∙◌, inl, inr}
use Rattle.arith.specs.Field.{pick, doublings}
use Rattle.arith.specs.Certificate.{times}

module _ {B C : Type 0} (h : B → C) {z : B} {add : B → B → B} {dbl : B → B} {z' : C} (add' : C → C → C) (dbl' : C → C)
    (h-z : h z ≡ z') (h-add : (a b : B) → h (add a b) ≡ add' (h a) (h b)) (h-dbl : (a : B) → h (dbl a) ≡ dbl' (h a)) where
  pick_map : (t : ℕ) (a : B) → h (pick z t a) ≡ pick z' t (h a)
  pick_map zero a = h-z
  pick_map (suc t) a = refl

  pub doublings_map : (ts : List ℕ) (a : B) → h (doublings z add dbl ts a) ≡ doublings z' add' dbl' ts (h a)
  doublings_map [] a = h-z
  doublings_map (t ∷ ts) a =
      h-add (pick z t a) (doublings z add dbl ts (dbl a))
      ∙ ap₂ add' (pick_map t a) (doublings_map ts (dbl a) ∙ ap (doublings z' add' dbl' ts) (h-dbl a))

pub medial : {B : Type 0} (add : B → B → B) → ((a b c : B) → add (add a b) c ≡ add a (add b c)) → ((a b : B) → add a b ≡ add b a)
    → (a b c d : B) → add (add a b) (add c d) ≡ add (add a c) (add b d)
medial add assoc comm a b c d =
    assoc a b (add c d) ∙ ap (add a) (sym (assoc b c d) ∙ ap (λ x. add x d) (comm b c) ∙ assoc c b d) ∙ sym (assoc a c (add b d))

pub record Space (B : Type 0) : Type 0 where
  pub nil : B
  pub one : B
  pub add : B → B → B
  pub mul : B → B → B
  pub dbl : B → B
  pub digits : B → List ℕ
  pub add_comm : (a b : B) → add a b ≡ add b a
  pub add_assoc : (a b c : B) → add (add a b) c ≡ add a (add b c)
  pub nil_add : (a : B) → add nil a ≡ a
  pub add_self : (a : B) → add a a ≡ nil
  pub dbl_add : (a b : B) → dbl (add a b) ≡ add (dbl a) (dbl b)
  pub mul_doublings : (a b : B) → mul a b ≡ doublings nil add dbl (digits b) a
  pub one_mul : (b : B) → mul one b ≡ b

module _ {B : Type 0} (s : Space B) where
  open s use {nil, one, add, mul, dbl, digits, add_comm, add_assoc, nil_add, add_self, dbl_add, mul_doublings, one_mul}

  abbrev Additive : (B → B) → Type 0
  Additive f = (a b : B) → f (add a b) ≡ add (f a) (f b)

  abbrev pub sq : B → B
  sq a = mul a a

  additive_nil : {f : B → B} → Additive f → f nil ≡ nil
  additive_nil {f} h = ap f (sym (add_self nil)) ∙ h nil nil ∙ add_self (f nil)

  add4 : (a b c d : B) → add (add a b) (add c d) ≡ add (add a c) (add b d)
  add4 = medial add add_assoc add_comm

  -- an additive map that commutes with `dbl` passes through a product
  through : (f : B → B) → Additive f → ((a : B) → f (dbl a) ≡ dbl (f a)) → (a b : B) → f (mul a b) ≡ mul (f a) b
  through f h k a b =
      ap f (mul_doublings a b) ∙ doublings_map f add dbl (additive_nil h) h k (digits b) a ∙ sym (mul_doublings (f a) b)

  pick_add : (t : ℕ) (a b : B) → pick nil t (add a b) ≡ add (pick nil t a) (pick nil t b)
  pick_add zero a b = sym (nil_add nil)
  pick_add (suc t) a b = refl

  doublings_add : (ts : List ℕ) → Additive (doublings nil add dbl ts)
  doublings_add [] a b = sym (nil_add nil)
  doublings_add (t ∷ ts) a b =
      ap₂ add (pick_add t a b) (ap (doublings nil add dbl ts) (dbl_add a b) ∙ doublings_add ts (dbl a) (dbl b))
      ∙ add4 (pick nil t a) (pick nil t b) (doublings nil add dbl ts (dbl a)) (doublings nil add dbl ts (dbl b))

  add_mul : (c : B) → Additive (λ a. mul a c)
  add_mul c a b = mul_doublings (add a b) c ∙ doublings_add (digits c) a b ∙ sym (ap₂ add (mul_doublings a c) (mul_doublings b c))

  dbl_mul : (a b : B) → mul (dbl a) b ≡ dbl (mul a b)
  dbl_mul a b = sym (through dbl dbl_add (λ _. refl) a b)

  swap : (a b c : B) → mul (mul a b) c ≡ mul (mul a c) b
  swap a b c = through (λ x. mul x c) (add_mul c) (λ x. dbl_mul x c) a b

  pub mul_comm : (a b : B) → mul a b ≡ mul b a
  mul_comm a b = ap (λ x. mul x b) (sym (one_mul a)) ∙ swap one a b ∙ ap (λ x. mul x a) (one_mul b)

  pub mul_assoc : (a b c : B) → mul (mul a b) c ≡ mul a (mul b c)
  mul_assoc a b c = ap (λ x. mul x c) (mul_comm a b) ∙ swap b a c ∙ mul_comm (mul b c) a

  pub mul_add : (a b c : B) → mul a (add b c) ≡ add (mul a b) (mul a c)
  mul_add a b c = mul_comm a (add b c) ∙ add_mul a b c ∙ ap₂ add (mul_comm b a) (mul_comm c a)

  pub nil_mul : (a : B) → mul nil a ≡ nil
  nil_mul a = additive_nil (add_mul a)

  pub sq_add : Additive sq
  sq_add a b =
      add_mul (add a b) a b ∙ ap₂ add (mul_add a a b) (mul_add b a b)
      ∙ ap (λ x. add (add (mul a a) (mul a b)) x) (add_comm (mul b a) (mul b b))
      ∙ add4 (mul a a) (mul a b) (mul b b) (mul b a)
      ∙ ap (add (add (mul a a) (mul b b))) (ap (add (mul a b)) (mul_comm b a) ∙ add_self (mul a b))
      ∙ add_comm (add (mul a a) (mul b b)) nil ∙ nil_add (add (mul a a) (mul b b))

  sq_mul : (a b : B) → sq (mul a b) ≡ mul (sq a) (sq b)
  sq_mul a b = swap a b (mul a b) ∙ ap (λ x. mul x b) (sym (mul_assoc a a b)) ∙ mul_assoc (mul a a) b b

  sqs_add : (k : ℕ) → Additive (times sq k)
  sqs_add zero a b = refl
  sqs_add (suc k) a b = ap sq (sqs_add k a b) ∙ sq_add (times sq k a) (times sq k b)

  sqs_mul : (k : ℕ) (a b : B) → times sq k (mul a b) ≡ mul (times sq k a) (times sq k b)
  sqs_mul zero a b = refl
  sqs_mul (suc k) a b = ap sq (sqs_mul k a b) ∙ sq_mul (times sq k a) (times sq k b)

  sqs_one : (k : ℕ) → times sq k one ≡ one
  sqs_one zero = refl
  sqs_one (suc k) = ap sq (sqs_one k) ∙ one_mul one

  two_mul : (a : B) → mul (dbl one) a ≡ dbl a
  two_mul a = dbl_mul one a ∙ ap dbl (one_mul a)

  -- a square of a square .. of a, one or more times, is a multiple of the square of a
  multiple : (k : ℕ) (a : B) → (x : B) × (times sq (suc k) a ≡ mul (mul a a) x)
  multiple zero a = (one, sym (mul_comm (mul a a) one ∙ one_mul (mul a a)))
  multiple (suc k) a =
      let (x, e) = multiple k a in
      (mul x (mul (mul a a) x), ap sq e ∙ mul_assoc (mul a a) x (mul (mul a a) x))

  -- what a computation must show of the space: k + 1 squarings take 2 back to 2, and 0 and 1 are the only roots of x² = x
  module _ (k : ℕ) (back : times sq (suc k) (dbl one) ≡ dbl one) (idem : (e : B) → sq e ≡ e → (e ≡ nil) ⊎ (e ≡ one)) where
    sqs_back : (a : B) → times sq (suc k) a ≡ a
    sqs_back a =
        ap f (sym (one_mul a)) ∙ through f (sqs_add (suc k)) f_dbl one a ∙ ap (λ x. mul x a) (sqs_one (suc k)) ∙ one_mul a
      where
        f : B → B
        f = times sq (suc k)

        f_dbl : (b : B) → f (dbl b) ≡ dbl (f b)
        f_dbl b = ap f (sym (two_mul b)) ∙ sqs_mul (suc k) (dbl one) b ∙ ap (λ x. mul x (f b)) back ∙ two_mul (f b)

    pub no_divisors : (a b : B) → mul a b ≡ nil → (a ≡ nil) ⊎ (b ≡ nil)
    no_divisors a b h = go (idem (mul a x) (swap a x (mul a x) ∙ ap (λ y. mul y x) regular))
      where
        x : B
        x = (multiple k a).0

        regular : mul a (mul a x) ≡ a
        regular = sym (mul_assoc a a x) ∙ sym (multiple k a).1 ∙ sqs_back a

        go : (mul a x ≡ nil) ⊎ (mul a x ≡ one) → (a ≡ nil) ⊎ (b ≡ nil)
        go (inl e) = inl (sym regular ∙ ap (mul a) e ∙ mul_comm a nil ∙ nil_mul a)
        go (inr e) = inr (sym (one_mul b) ∙ ap (λ y. mul y b) (sym e) ∙ swap a x b ∙ ap (λ y. mul y x) h ∙ nil_mul x)
