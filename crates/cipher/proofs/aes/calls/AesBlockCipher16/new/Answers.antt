use Rattle.std.proofs.Common.{◌≡◌, true, rules, length}
use Rattle.arith.specs.Rows.{Bytes}
use Rattle.cipher.specs.Aes.{aes_takes}
use Rattle.cipher.specs.KeyBytes.{bytes_kept}
use Rattle.cipher.proofs.Kept.{kept_taken}
use Rattle.cipher.proofs.aes.calls.AesBlockCipher16.new.Goals as goal

pub invariant_of-result : goal.invariant_of-result
invariant_of-result c =
    let key = c.args.key.now in
    let t : aes_takes (length key) ≡ true = search rules in
    let f = kept_taken key t in
    let b : Bytes key = λ k. (c.type_inv.key k).fits in
    let e : bytes_kept c.new.result ≡ key = cc in
    let l : length (bytes_kept c.new.result) ≡ c.new.result.len = cc in
    record { within = l; taken = rw e t; bytes = rw e b; made = rw e c.key_expansion.ensures }

pub returns-in-16 : goal.returns-in-16
returns-in-16 c =
    let key = c.args.key.now in
    let t : aes_takes (length key) ≡ true = search rules in
    let f = kept_taken key t in
    (t, cc)
