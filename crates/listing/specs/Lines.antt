-- A text as lines, and a line as an address and a frame. Assumes nothing.
use Rattle.std.specs.Prelude.{◌≡◌, ℕ, ◌+◌, ◌-◌, ◌*◌, ◌/◌, ◌%◌, ◌<◌, Bool, true, false, cond, ◌&&◌, List, [], ◌∷◌, ◌++◌, length, take, drop, Some, None, Option, ◌==◌, nat_le, slice_index}
use Rattle.stock.specs.Refusals.{first}
use Rattle.fault.specs.declared.line.LineCause.{LineCause}
use Rattle.fault.specs.declared.line.LineCause.TheVariants.{NotALine, NotDigits, NotAbove}
use Rattle.listing.specs.Digits.{digits_of, all_hex, row_of}

-- the bytes before a line feed, and whether it is there
pub record Line : Type 0 where
  pub text : List ℕ
  pub ended : Bool

-- a line that a line feed ends
abbrev pub ended_line : List ℕ → Line
ended_line t = record { text = t; ended = true }

-- a piece of a text that ends after its first line feed, or without one, as a line
abbrev pub line_of : List ℕ → Line
line_of p = cond (slice_index p (length p - 1) == 10) (ended_line (take (length p - 1) p)) (record { text = p; ended = false })

abbrev pub begun : ℕ → List Line → List Line
begun c [] = record { text = c ∷ []; ended = false } ∷ []
begun c (l ∷ ls) = record { text = c ∷ l.text; ended = l.ended } ∷ ls

-- the lines of a text
abbrev pub lines : List ℕ → List Line
lines [] = []
lines (c ∷ cs) = cond (c == 10) (record { text = []; ended = true } ∷ lines cs) (begun c (lines cs))

-- the text begins with this line, up to and with its line feed, and goes on with `after`
abbrev pub IsFirstLine : List ℕ → List ℕ → List ℕ → Type 0
IsFirstLine text line after = (lines text ≡ line_of line ∷ lines after) × (length after < length text)

-- an address as four bytes, highest first, and back
unfoldable pub address_bytes : ℕ → List ℕ
address_bytes a = a / 16777216 % 256 ∷ (a / 65536 % 256 ∷ (a / 256 % 256 ∷ (a % 256 ∷ [])))

abbrev pub address_from : List ℕ → ℕ
address_from r = slice_index r 0 * 16777216 + slice_index r 1 * 65536 + slice_index r 2 * 256 + slice_index r 3

-- the line of a frame: address in eight digits, space, digits of the frame, line feed
abbrev pub line_for : ℕ → List ℕ → List ℕ
line_for a bs = digits_of (address_bytes a) ++ (32 ∷ (digits_of bs ++ 10 ∷ []))

-- what a line says
abbrev pub address_in : List ℕ → ℕ
address_in t = address_from (row_of (take 8 t))

abbrev pub frame_in : List ℕ → List ℕ
frame_in t = row_of (drop 9 t)

-- digits, a space, digits
abbrev pub spelt : List ℕ → Bool
spelt t = all_hex (take 8 t) && (slice_index t 8 == 32 && all_hex (drop 9 t))

-- 11: not 9 + 2n bytes, or no line feed
abbrev pub not_a_line : ℕ → Line → Option LineCause
not_a_line n l = cond (l.ended && length l.text == 9 + 2 * n) None (Some NotALine)

-- 12: something else than digits, or byte nine is no space
abbrev pub not_digits : Line → Option LineCause
not_digits l = cond (spelt l.text) None (Some NotDigits)

-- 13: the address is below `low`
abbrev pub not_above : ℕ → Line → Option LineCause
not_above low l = cond (nat_le low (address_in l.text)) None (Some NotAbove)

-- why a line is refused by itself, where frames have n bytes and addresses from `low` on are left
abbrev pub line_cause : ℕ → ℕ → Line → Option LineCause
line_cause n low l = first (not_a_line n l) (first (not_digits l) (not_above low l))
