use Rattle.std.proofs.Common.{sym, ap, ◌∙◌}
use Rattle.std.specs.Prelude.{map, Option}
use Rattle.tx_code.specs.Renaming.{itself, renamed_row}
use Rattle.tx_code.specs.Objects.{BodyView}
use Rattle.tx_code.specs.Meaning.{find, rows_of}
use Rattle.tx_code.proofs.LawfulThreads.{rows_itself}
use Rattle.vm_thread.proofs.lookups.row.Goals as goal

pub returns : goal.returns
returns c =
    c.find_row.ensures ∙ ap (λ rs. find rs c.args.index c.args.ty) (c.deref.ensures.value ∙ sym (rows_itself c.in_ok-body.body.now.rows.items))
    ∙ ap (λ (o : Option BodyView). find (map (renamed_row itself) (rows_of o)) c.args.index c.args.ty) c.in_ok-body.ensures
