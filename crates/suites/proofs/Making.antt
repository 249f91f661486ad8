-- What is known of a hash key against which nothing stands. Assumes nothing.
use Rattle.std.proofs.Common.{◌≡◌, ℕ, Bool, true, false, cond, eqb, List, length, Some, None, sym, refl, ap, ◌∙◌, subst}
use Rattle.std.proofs.lemmas.Bool.{eqb-true}
use Rattle.arith.specs.Rows.{Bytes, fitted, zeros}
use Rattle.arith.proofs.Places.{fitted_same}
use Rattle.fault.specs.declared.key.KeyFault.TheVariants.{HashKeyLength, ZeroHashKey}
use Rattle.ciphersuite.specs.Keys.{hash_fault}

-- a hash key of n bytes against which nothing stands, as it is kept
pub record KeptHash (n : ℕ) (hk hash : List ℕ) : Type 0 where
  pub same : hash ≡ hk
  pub long : length hash ≡ n
  pub bytes : Bytes hash
  pub some : zeros hash ≡ false

by_tests : (t z : Bool) → cond t (cond z (Some ZeroHashKey) None) (Some HashKeyLength) ≡ None → (t ≡ true) × (z ≡ false)
by_tests true false e = (refl, refl)
by_tests true true e = cc
by_tests false z e = cc

pub kept_hash : (n : ℕ) (hk hash : List ℕ) → hash_fault n hk ≡ None → Bytes hk → hash ≡ fitted n hk → KeptHash n hk hash
kept_hash n hk hash e h f =
    let t = by_tests (eqb (length hk) n) (zeros hk) e in
    let len = eqb-true (length hk) n t.0 in
    let s = f ∙ fitted_same n hk len in
    record { same = s; long = ap length s ∙ len; bytes = subst Bytes (sym s) h; some = ap zeros s ∙ t.1 }
