use Rattle.std.proofs.Common.{◌∙◌, ap}
use Rattle.std.specs.List.{list_any}
use Rattle.link_faults.specs.declared.entries.RankedEntry.{RankedEntry}
use Rattle.link_faults.specs.Faults.{func_entries}
use Rattle.link_faults.specs.Told.{objects_of, names_in}
use Rattle.link_faults.proofs.MissingByRank.{main_by_rank}
use Rattle.link_faults.proofs.missing.is_main_defined.Goals as goal

pub returns : goal.returns
returns c = c.any_main.ensures ∙ ap (list_any (λ (e : RankedEntry). e.main)) (c.deref.ensures.value ∙ c.requires.funcs)
    ∙ main_by_rank (names_in c.args.tables.now) (func_entries (objects_of c.args.tables.now))
