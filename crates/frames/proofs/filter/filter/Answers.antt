use Rattle.reel.specs.States.{locked_book}
use Rattle.flat.specs.FlatHeld.{flat_held}
use Rattle.frames.proofs.Small.{held_loaded, room_is}
use Rattle.frames.proofs.filter.filter.Goals as goal

pub listed-listing-requires : goal.listed-listing-requires
listed-listing-requires c =
    let h = held_loaded c.args.text.now (locked_book flat_held c.small_reel-reel.result) c.stock.result.now c.load_listing-loaded.new.reel.stock c.small_reel-reel.ensures c.load_listing-loaded.ensures.book c.stock.ensures in
    room_is c.args.text.now (flat_held c.stock.result.now) _ h c.in_ok-room.ensures.len
