-- The bytes that accepted keys tell are accepted again. Assumes nothing.
use Rattle.std.proofs.Common.{◌≡◌, ℕ, List, length, Some, None, Ok, Err, Option, ◌∙◌, ap₂, arith}
use Rattle.std.proofs.lemmas.Bool.{eq-eqb}
use Rattle.cipher.proofs.Kept.{kept_whole}
use Rattle.stock.specs.Refusals.{Answers}
use Rattle.fault.specs.declared.key.KeyFault.{KeyFault}
use Rattle.ciphersuite.specs.Meaning.{Meaning}
use Rattle.cipher.specs.KeyBytes.{kept, bytes_kept}
use Rattle.ciphersuite.specs.Keys.{key_fault, CameFrom}

-- an answer where nothing is refused
pub accepted : {X E : Type 0} (o : Option E) (P : X → Type 0) (x : X) → o ≡ None → Answers o P (Ok x) → P x
accepted None P x e h = h
accepted (Some f) P x e h = cc

pub not_refused : {X E : Type 0} (o : Option E) (P : X → Type 0) (f : E) → o ≡ None → Answers o P (Err f) → ⊥
not_refused None P f e h = h
not_refused (Some g) P f e h = (let k : ◌≡◌ {A = ℕ} 0 1 = cc in omega arith)

module _ {B K : Type 0} (m : Meaning B K) (k : K) where
  pub told_fine : key_fault m (m.cipher_key k) (m.hash_key k) ≡ None
  told_fine = rw (m.cipher_taken k, eq-eqb (length (m.hash_key k)) m.size (m.hash_row k).0, m.hash_some k)

  pub cipher_kept : bytes_kept (kept (m.cipher_key k)) ≡ m.cipher_key k
  cipher_kept = kept_whole (m.cipher_key k) (m.takes_most _ (m.cipher_taken k))

  pub hash_kept : bytes_kept (kept (m.hash_key k)) ≡ m.hash_key k
  hash_kept = kept_whole (m.hash_key k) (omega (arith, (m.hash_row k).0, m.high))

  -- keys that were made of those bytes, and a refusal of them
  module _ (ck hk : List ℕ) (ec : ck ≡ m.cipher_key k) (eh : hk ≡ m.hash_key k) where
    fine : key_fault m ck hk ≡ None
    fine = ap₂ (key_fault m) ec eh ∙ told_fine

    pub made_again : (x : K) → Answers (key_fault m ck hk) (CameFrom m ck hk) (Ok x) → CameFrom m (m.cipher_key k) (m.hash_key k) x
    made_again x h =
        let came = accepted (key_fault m ck hk) (CameFrom m ck hk) x fine h in
        record { cipher = came.cipher ∙ ec; hash = came.hash ∙ eh }

    pub never_refused : (f : KeyFault) → Answers (key_fault m ck hk) (CameFrom m ck hk) (Err f) → ⊥
    never_refused f h = not_refused (key_fault m ck hk) (CameFrom m ck hk) f fine h
