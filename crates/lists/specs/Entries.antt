-- A list over lent places: its entries are the first `len` places.
use Rattle.std.specs.Prelude.{◌≡◌, ◌+◌, List, ◌++◌, length, take, drop}
use Rattle.lists.specs.declared.List.{List as LentList}

abbrev pub entries : {T : Type 0} → LentList T → List T
entries l = take l.len l.places.now

-- The entries `more` came in at the end, and the places behind them are as they were.
pub record Added {T : Type 0} (before after : LentList T) (more : List T) : Type 0 where
  pub longer : after.len ≡ before.len + length more
  pub entries : entries after ≡ entries before ++ more
  pub behind : drop after.len after.places.now ≡ drop after.len before.places.now
  pub room : length after.places.now ≡ length before.places.now

-- Nothing has changed.
pub record Kept {T : Type 0} (before after : LentList T) : Type 0 where
  pub as_long : after.len ≡ before.len
  pub same : after.places.now ≡ before.places.now
