-- Making keys: which bytes are refused, and what is made of the others. Assumes nothing.
use Rattle.std.specs.Prelude.{◌≡◌, ℕ, cond, List, length, Some, None, Option, ◌==◌}
use Rattle.arith.specs.Rows.{zeros}
use Rattle.fault.specs.declared.key.KeyFault.{KeyFault}
use Rattle.fault.specs.declared.key.KeyFault.TheVariants.{CipherKeyLength, HashKeyLength, ZeroHashKey}
use Rattle.ciphersuite.specs.Meaning.{Meaning}

-- 3 where a hash key is not of one block of n bytes, then 4 where it is all zero
abbrev pub hash_fault : ℕ → List ℕ → Option KeyFault
hash_fault n hk = cond (length hk == n) (cond (zeros hk) (Some ZeroHashKey) None) (Some HashKeyLength)

module _ {B K : Type 0} (m : Meaning B K) (ck hk : List ℕ) where
  -- 2 where the suite does not take cipher keys of this length, then 3, then 4
  abbrev pub key_fault : Option KeyFault
  key_fault = cond (m.takes (length ck)) (hash_fault m.size hk) (Some CipherKeyLength)

  -- keys that tell the bytes they came from
  pub record CameFrom (k : K) : Type 0 where
    pub cipher : m.cipher_key k ≡ ck
    pub hash : m.hash_key k ≡ hk
