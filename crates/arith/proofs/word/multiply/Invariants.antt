-- the sum so far, and the product with the bits that are left, are the whole product
use Rattle.std.proofs.Common.{◌≡◌, ◌-◌}
use lib.Bits.{bit_xor}
use Rattle.arith.specs.Field.{product_low, product}
use Rattle.arith.proofs.word.multiply.Given as goal

abbrev pub invariant-loop : goal.invariant-loop
invariant-loop g l =
    let value = g.W.Word.value in
    let n = g.W.Word.BITS in
    let c = value g.W.Word.CONSTANT in
    bit_xor (value l.sum) (product_low n c (n - l.counter) (value l.left) (value l.right)) ≡ product n c (value l.initial.left) (value l.initial.right)
