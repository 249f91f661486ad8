-- Why a line that a line feed ends is refused, part by part. Assumes nothing.
use Rattle.std.proofs.Common.{◌≡◌, ℕ, ◌+◌, ◌-◌, ◌*◌, ◌<◌, ◌≤◌, ◌≢◌, Bool, true, false, cond, eqb, ◌&&◌, List, length, get_or, take, drop, Some, None, sym, refl, ap, ◌∙◌, eq-eqb, ne_eqb, le-leb}
use borrow.Author.Tests.{lt-leb}
use Rattle.std.proofs.lemmas.List.{take_rest}
use Rattle.stock.specs.Refusals.{first}
use Rattle.fault.specs.declared.line.LineCause.{LineCause}
use Rattle.fault.specs.declared.line.LineCause.TheVariants.{NotDigits, NotAbove}
use Rattle.listing.specs.Digits.{all_hex, not_hex, row_of}
use Rattle.listing.specs.Lines.{ended_line, line_of, address_from, line_cause, not_above}
use Rattle.listing.proofs.Pairs.{told_true, told_false}

-- t is the text before the line feed, and long enough
module _ (n low : ℕ) (p t : List ℕ) (et : line_of p ≡ ended_line t) (long : length t ≡ 9 + 2 * n) where
  by_parts : (h s r : Bool) → all_hex (take 8 t) ≡ h → eqb (get_or t 8 0) 32 ≡ s → all_hex (drop 9 t) ≡ r
      → line_cause n low (line_of p) ≡ first (cond (h && (s && r)) None (Some NotDigits)) (not_above low (ended_line t))
  by_parts h s r eh es er = rw (et, eq-eqb _ _ long, eh, es, er)

  pub head_stops : (f : LineCause) → not_hex (take 8 t) ≡ Some f → line_cause n low (line_of p) ≡ Some f
  head_stops f e =
      let x = told_false (all_hex (take 8 t)) f e in
      by_parts false (eqb (get_or t 8 0) 32) (all_hex (drop 9 t)) x.0 refl refl ∙ x.1

  module _ (head : not_hex (take 8 t) ≡ None) where
    pub gap_stops : get_or t 8 0 ≢ 32 → line_cause n low (line_of p) ≡ Some NotDigits
    gap_stops ne = by_parts true false (all_hex (drop 9 t)) (told_true _ head) (ne_eqb _ _ ne) refl

    module _ (gap : get_or t 8 0 ≡ 32) where
      pub frame_stops : (f : LineCause) → not_hex (take (length t - 9) (drop 9 t)) ≡ Some f → line_cause n low (line_of p) ≡ Some f
      frame_stops f e =
          let x = told_false (all_hex (drop 9 t)) f (sym (ap not_hex (take_rest t 9)) ∙ e) in
          by_parts true true false (told_true _ head) (eq-eqb _ _ gap) x.0 ∙ x.1

      module _ (frame : not_hex (take (length t - 9) (drop 9 t)) ≡ None) (a : ℕ) (ea : a ≡ address_from (row_of (take 8 t))) where
        parts : line_cause n low (line_of p) ≡ not_above low (ended_line t)
        parts = by_parts true true true (told_true _ head) (eq-eqb _ _ gap) (told_true _ (sym (ap not_hex (take_rest t 9)) ∙ frame))

        pub low_stops : a < low → line_cause n low (line_of p) ≡ Some NotAbove
        low_stops lt = parts ∙ rw (sym ea, lt-leb low a lt)

        pub nothing_stops : low ≤ a → line_cause n low (line_of p) ≡ None
        nothing_stops le = parts ∙ rw (sym ea, le-leb low a le)
