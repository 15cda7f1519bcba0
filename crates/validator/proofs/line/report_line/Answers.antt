use Rattle.std.proofs.Common.{arith}
use Rattle.validator.proofs.Rows.{no_row, none_refused, one_refused, row_written}
use Rattle.validator.proofs.line.report_line.Goals as goal

pub returns-in-Ok : goal.returns-in-Ok
returns-in-Ok c = rw (none_refused _ _ c.in-Ok.ensures) (record { count = omega arith; text = no_row _ (omega arith) })

pub returns-in-Err : goal.returns-in-Err
returns-in-Err c =
    rw (one_refused _ _ c.in-Err.ensures)
    (record { count = omega arith; text = row_written _ _ c.args.number c.in-Err.fault _ (omega arith) c.write_fault.ensures.short c.write_fault.ensures.row })
