use Rattle.body_notes.proofs.Noted.{plain_as}
use Rattle.code_follows.specs.Names.{table_of}
use Rattle.symbolic_leaving.specs.Source.{units_of}
use Rattle.note_landing.specs.Shown.{func_by, types_by, table_by}
use Rattle.body_notes.proofs.checked.plain.Goals as goal

pub returns-clause-is : goal.returns-clause-is
returns-clause-is c m a e =
    let t = table_by c.args.body.now in
    let types = types_by c.args.body.now in
    plain_as c.args.body.now m c.args.notes.now (table_of types c.in_ok-table.table t.is_signature t.is_slot) _ _ _ _ _ _ _ e (c.in_ok-table.ensures t.is_signature t.is_slot) (c.in_ok-next.ensures.is types m (units_of c.args.body.now.source) (func_by c.args.body.now) t.is_signature t.is_slot (c.in_ok-fits.ensures.grows types m a)) (c.in_ok-fits.ensures.is m a)
