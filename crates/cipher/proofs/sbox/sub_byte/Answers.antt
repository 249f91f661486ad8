use Rattle.std.proofs.Common.{◌≡◌, get_or, ◌∙◌, arith}
use Rattle.std.proofs.lemmas.List.FromFn.{get_or-map-range_with_len}
use Rattle.cipher.specs.Field.{inverse_below}
use Rattle.cipher.specs.SubByte.{affine, sub}
use Rattle.cipher.specs.SboxApart.{sub_is, sub_one_to_one, times_inverse}
use Rattle.cipher.proofs.sbox.sub_byte.Goals as goal

pub returns : goal.returns
returns c =
    let b = c.args.b in
    let e : get_or c.table.result.now c.from.result 0 ≡ sub b = rw (c.from.ensures, c.table.ensures) (get_or-map-range_with_len (λ k. affine (inverse_below 256 k)) 0 256 b b 0 (omega arith) (omega arith) ∙ sub_is b) in
    record { rule = e; apart = λ a h g. sub_one_to_one a b h (omega arith) (g ∙ e); inverse = λ h. times_inverse b h (omega arith) }
