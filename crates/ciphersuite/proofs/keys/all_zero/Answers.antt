use Rattle.std.proofs.Common.{rules, tests, ◌≡◌, ℕ, ◌==◌, ◌&&◌, List, [], ◌∷◌, refl, ap, ◌∙◌}
use Rattle.std.specs.List.{list_all}
use Rattle.std.proofs.lemmas.Iterator.{YieldsList-from_slice}
use Rattle.std.proofs.lemmas.Iterator.Search.{all_from_yields_List}
use Rattle.arith.specs.Rows.{zeros}
use Rattle.ciphersuite.proofs.keys.all_zero.Goals as goal

zeros_as_all : (s : List ℕ) → list_all (λ x. x == 0) s ≡ zeros s
zeros_as_all [] = refl
zeros_as_all (x ∷ xs) = ap (λ b. x == 0 && b) (zeros_as_all xs)

pub returns : goal.returns
returns c =
    let row = c.args.row.now in
    all_from_yields_List (λ x. x == 0) _ _ c.all.result c.all.ensures.ran (YieldsList-from_slice row cc) (λ x b q k. search (rules, tests)) ∙ zeros_as_all row
