use Rattle.std.proofs.Common.{◌≡◌, ◌+◌, ◌-◌, ◌∷◌, ◌++◌, [], length, rules, refl, ap, ◌∙◌}
use native.Mathlib.Nat.{sub-zero}
use Rattle.std.proofs.iter.Yields.{Range-gives, nat_range_steps}
use Rattle.std.proofs.lemmas.Fn.{fold_over}
use Rattle.std.proofs.lemmas.List.{length-append}
use Rattle.std.proofs.lemmas.List.FromFn.{length-range_with_len}
use Rattle.std.specs.List.{range_with_len}
use Rattle.cipher.specs.Schedule.{rcon}
use Rattle.cipher.proofs.AesRounds.{rcon_more}
use Rattle.cipher.proofs.aes.schedule.rcon.Goals as goal

pub returns : goal.returns
unfolding rcon
returns c =
    let n = c.args.n in
    fold_over nat_range_steps (λ x. x) _ (λ ys b. b ≡ rcon (length ys)) _
    (λ ys a x b f' i k. let l : length (ys ++ x ∷ []) ≡ length ys + 1 = simp length-append refl in let m = rcon_more (length ys) in search rules)
    _ (range_with_len 0 (n - 0)) 1 c.fold.result (Range-gives (record { start = 0; end = n })) refl c.fold.ensures.ran
    ∙ ap rcon (length-range_with_len 0 (n - 0) ∙ sub-zero n)
