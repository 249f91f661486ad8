-- What a flat stock holds. Assumes nothing.
use Rattle.std.specs.Prelude.{ℕ, List, length, vec_items}
use Rattle.stock.specs.declared.size.FrameSize.{FrameSize}
use Rattle.stock.specs.declared.bad.BadSlots.{BadSlots}
use Rattle.stock.specs.BadLists.{bad_list}
use Rattle.stock.specs.Refusals.{unless}
use Rattle.stock.specs.Slots.{Contents}
use Rattle.stock.specs.Stocks.{put_fault, clear_fault}
use Rattle.flat.specs.declared.flat.FlatStock.{FlatStock}
use Rattle.flat.specs.Flats.{flat_count, flat_contents, flat_put, flat_clear}

-- what a flat stock made over the area holds
abbrev pub flat_over : FrameSize → BadSlots → List ℕ → Contents
flat_over size bad area = flat_contents size.bytes (flat_count size.bytes (length area)) (bad_list bad) area

abbrev pub flat_held : FlatStock → Contents
flat_held s = flat_over s.size s.bad (vec_items s.area)

-- what its area holds after a put and after a clear of slot i: as it was, where the call is refused
abbrev pub area_after_put : FlatStock → ℕ → List ℕ → List ℕ
area_after_put s i bs = unless (put_fault (flat_held s) i (length bs)) (flat_put s.size.bytes i bs (vec_items s.area)) (vec_items s.area)

abbrev pub area_after_clear : FlatStock → ℕ → List ℕ
area_after_clear s i = unless (clear_fault (flat_held s) i) (flat_clear s.size.bytes i (vec_items s.area)) (vec_items s.area)
