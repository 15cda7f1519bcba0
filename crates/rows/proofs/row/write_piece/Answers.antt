use Rattle.rows.proofs.Pieces.{extended_twice}
use Rattle.rows.proofs.row.write_piece.Goals as goal

pub returns : goal.returns
returns c =
    let comma = rw c.as_bytes.ensures.value at c.put_at-word.ensures in
    let word = rw c.as_bytes-2.ensures.value at c.put_at-number.ensures in
    extended_twice _ _ _ _ _ comma (extended_twice _ _ _ _ _ word c.put_number.ensures)
