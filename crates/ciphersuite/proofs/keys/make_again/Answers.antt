use Rattle.std.proofs.Common.{ap, ◌∙◌}
use Rattle.cipher.specs.KeyBytes.{bytes_kept}
use Rattle.ciphersuite.proofs.Told.{cipher_kept, hash_kept, made_again, never_refused}
use Rattle.ciphersuite.proofs.keys.make_again.Goals as goal

pub unreachable-requires : goal.unreachable-requires
unreachable-requires g c =
    let m = g.S.CipherSuite.meaning in
    let k = c.args.keys.now in
    never_refused m k _ _ (c.as_slice.ensures ∙ ap bytes_kept c.cipher_key_bytes-cipher_key.ensures ∙ cipher_kept m k)
    (c.as_slice-2.ensures ∙ ap bytes_kept c.hash_key_bytes-hash_key.ensures ∙ hash_kept m k) _ c.in_default.ensures

pub returns : goal.returns
returns g c =
    let m = g.S.CipherSuite.meaning in
    let k = c.args.keys.now in
    made_again m k _ _ (c.as_slice.ensures ∙ ap bytes_kept c.cipher_key_bytes-cipher_key.ensures ∙ cipher_kept m k)
    (c.as_slice-2.ensures ∙ ap bytes_kept c.hash_key_bytes-hash_key.ensures ∙ hash_kept m k) _ c.in-Ok.ensures
