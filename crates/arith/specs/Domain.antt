-- The laws of an arithmetic on blocks: a commutative ring in which each element is its own negative, and in which a product
-- is zero only if a factor is zero. Assumes nothing.
use Rattle.std.specs.Prelude.{◌≡◌, ◌⊎◌}

pub record Domain (B : Type 0) : Type 0 where
  pub zero : B
  pub one : B
  pub add : B → B → B
  pub mul : B → B → B
  pub add_comm : (a b : B) → add a b ≡ add b a
  pub add_assoc : (a b c : B) → add (add a b) c ≡ add a (add b c)
  pub zero_add : (a : B) → add zero a ≡ a
  pub add_self : (a : B) → add a a ≡ zero
  pub mul_comm : (a b : B) → mul a b ≡ mul b a
  pub mul_assoc : (a b c : B) → mul (mul a b) c ≡ mul a (mul b c)
  pub one_mul : (a : B) → mul one a ≡ a
  pub mul_add : (a b c : B) → mul a (add b c) ≡ add (mul a b) (mul a c)
  pub zero_product : (a b : B) → mul a b ≡ zero → (a ≡ zero) ⊎ (b ≡ zero)
