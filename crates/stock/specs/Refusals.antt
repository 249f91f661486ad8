-- An answer and an effect, each decided by whether a refusal stands in the way. Assumes nothing.
use Rattle.std.specs.Prelude.{◌≡◌, Some, None, Ok, Err, Option, Result, MatchResult}

module _ {E : Type 0} where
  -- what a call answers: the refusal if there is one, else the value
  abbrev pub answered : {X : Type 0} → Option E → X → Result X E
  answered (Some e) x = Err e
  answered None x = Ok x

  -- the same, where only what is true of the value is said
  abbrev pub Answers : {X : Type 0} → Option E → (X → Type 0) → Result X E → Type 0
  Answers (Some e) P r = r ≡ Err e
  Answers None P r = MatchResult r P (λ _. ⊥)

  -- what a call leaves: the first where nothing is refused, else the second
  abbrev pub unless : {X : Type 0} → Option E → X → X → X
  unless (Some e) x y = y
  unless None x y = x

  -- of two refusals the one that comes first
  abbrev pub first : Option E → Option E → Option E
  first (Some e) o = Some e
  first None o = o
