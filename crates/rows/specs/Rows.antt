-- An open row: the text that it extends, and the loans that it holds.
use Rattle.std.specs.Prelude.{◌≡◌}
use Rattle.rows.specs.Texts.{Text, text_to}
use Rattle.rows.specs.declared.row.Row.{Row}

abbrev pub text_of : Row → Text
text_of row = text_to row.bytes.now row.cursor.now.end

-- the same references as before, so that the lender knows what they hold when the row is closed
pub record SameLoans (before after : Row) : Type 0 where
  pub bytes : after.bytes.ghost_name ≡ before.bytes.ghost_name
  pub cursor : after.cursor.ghost_name ≡ before.cursor.ghost_name
