use Rattle.std.proofs.Common.{◌≡◌, ◌+◌, ◌-◌, ◌/◌, length, drop, [], ◌∙◌, arith}
use Rattle.cipher.specs.Aes.{after}
use Rattle.cipher.specs.Steps.{sub_bytes, shift_rows, mix_columns}
use Rattle.std.proofs.lemmas.List.{get_or-take, get_or-drop}
use Rattle.cipher.proofs.AesRounds.{after_more, round_key}
use Rattle.cipher.proofs.aes.steps.encrypt_by.Goals as goal

pub loop-k-init : goal.loop-k-init
unfolding after
loop-k-init c = c.add_round_key-s.ensures ∙ round_key c.args.w.now c.args.block.now _ (length c.args.w.now / 16) 0 c.as_chunks.ensures.front (omega arith)

pub loop-k-preserved : goal.loop-k-preserved
loop-k-preserved c =
    let j = c.loop-k.k-index in
    let keys = c.as_chunks.result.0.now in
    let t = get_or-take (c.args.rounds - 1) (drop 1 keys) j [] (omega arith) in
    let d = get_or-drop 1 keys j [] in
    let k = round_key c.args.w.now (mix_columns (shift_rows (sub_bytes c.loop-k.s))) _ (length c.args.w.now / 16) (1 + j) c.as_chunks.ensures.front (omega arith) in
    let e = after_more j c.args.w.now c.args.block.now in
    let n : 1 + j ≡ j + 1 = omega arith in
    cc

pub returns : goal.returns
returns c =
    let k = round_key c.args.w.now (shift_rows (sub_bytes c.loop-k.s)) _ (length c.args.w.now / 16) c.args.rounds c.as_chunks.ensures.front (omega arith) in
    let n : c.loop-k.k-index ≡ c.args.rounds - 1 = omega arith in
    cc
