-- Loading a text: one load for each line before the first that is refused. Assumes nothing.
use Rattle.std.specs.Prelude.{◌≡◌, ℕ, ◌+◌, ◌-◌, ◌<◌, List, [], ◌∷◌, length, take, Some, None, Ok, Err, Option, Result, slice_index_or}
use Rattle.std.specs.Option.{option_map}
use Rattle.stock.specs.Refusals.{first}
use Rattle.reel.specs.Books.{Book, load_fault, after_load}
use Rattle.fault.specs.declared.line.LineFault.{LineFault}
use Rattle.fault.specs.declared.line.LineCause.{LineCause}
use Rattle.fault.specs.declared.line.LineCause.TheVariants.{Reel}
use Rattle.fault.specs.Faults.{at_line}
use Rattle.listing.specs.Lines.{Line, lines, line_cause, address_in, frame_in}

-- the book after a line: one load
abbrev pub after_line : ℕ → Book → Line → Book
after_line b k l = after_load b k (address_in l.text) (frame_in l.text)

abbrev pub after_lines : ℕ → Book → List Line → Book
after_lines b k [] = k
after_lines b k (l ∷ ls) = after_lines b (after_line b k l) ls

-- why a line is refused, if it is: by itself, where addresses from `low` on are left, and then by its load
abbrev pub decline : ℕ → Book → ℕ → Line → Option LineCause
decline b k low l = first (line_cause k.held.frame low l) (option_map Reel (load_fault b k (address_in l.text) (length (frame_in l.text))))

pub record Loading : Type 0 where
  pub after : Book
  pub answer : Result ℕ LineFault

-- a line is refused after n others, or the loading goes on
abbrev pub stopped : Book → ℕ → Option LineCause → Loading → Loading
stopped k n None rest = rest
stopped k n (Some c) rest = record { after = k; answer = Err (at_line c (n + 1)) }

-- n lines are loaded, and addresses from `low` on are left
abbrev pub loading : ℕ → Book → ℕ → ℕ → List Line → Loading
loading b k n low [] = record { after = k; answer = Ok n }
loading b k n low (l ∷ ls) = stopped k n (decline b k low l) (loading b (after_line b k l) (n + 1) (address_in l.text + 1) ls)

-- a text loaded from its first line on
abbrev pub loaded : ℕ → Book → List ℕ → Loading
loaded b k text = loading b k 0 0 (lines text)

-- how many lines were loaded, by the answer
abbrev pub lines_loaded : Result ℕ LineFault → ℕ
lines_loaded (Ok n) = n
lines_loaded (Err e) = e.line - 1

-- the address from which on a line may stand after the lines ls, which begin at `low`
abbrev pub left_from : ℕ → List Line → ℕ
left_from low [] = low
left_from low (l ∷ ls) = left_from (address_in l.text + 1) ls

-- why line n of ls is refused, if it is, counted from 0: it is judged by the lines before it
abbrev pub decline_at : ℕ → Book → ℕ → List Line → ℕ → Line → Option LineCause
decline_at b k low ls n d = decline b (after_lines b k (take n ls)) (left_from low (take n ls)) (slice_index_or ls n d)

-- The answer tells the first line that is refused: none before it is, and all are loaded if there is none.
pub record FirstRefused (b : ℕ) (k : Book) (ls : List Line) (r : Result ℕ LineFault) : Type 0 where
  pub before : (n : ℕ) (d : Line) → n < lines_loaded r → decline_at b k 0 ls n d ≡ None
  pub this : (e : LineFault) (d : Line) → r ≡ Err e → decline_at b k 0 ls (lines_loaded r) d ≡ Some e.cause
  pub all : (n : ℕ) → r ≡ Ok n → n ≡ length ls
