use Rattle.lines.proofs.Fields.{fields_first}
use Rattle.lines.proofs.reader.FieldReader.next_field.Goals as goal

pub returns-clause-cases : goal.returns-clause-cases
returns-clause-cases c =
    let found = c.in_ok-rest.ensures.lookup.0 in
    let e = c.field_len-len.ensures in
    fields_first _ _ _ _ found.0 found.2 e.within e.before e.comma
