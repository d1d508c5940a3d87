use Rattle.std.proofs.Common.{◌∙◌, ap, rules}
use Rattle.tx_host.proofs.kept.write_at.Goals as goal
use Rattle.tx_host.proofs.Files.{files_of-set, files_of-push}
use Rattle.tx_host.specs.Told.{set_file}
use Rattle.tx_host.specs.Kept.{files_of}

pub returns-in-Some-clause-written : goal.returns-in-Some-clause-written
returns-in-Some-clause-written c =
    files_of-set c.args.files.now.items c.in-Some.at c.args.name.now (c.index_mut.result.now.0, c.in_ok-bytes.bytes) c.index_mut.result.now (search rules)
    (ap (λ file. file.0) c.index_mut.ensures.value)
    ∙ ap (set_file (files_of c.args.files.now.items) c.args.name.now) (search rules)

pub returns-in_ok-push-in-None-clause-written : goal.returns-in_ok-push-in-None-clause-written
returns-in_ok-push-in-None-clause-written c =
    ap files_of c.in_ok-push-in-None.ensures.items
    ∙ files_of-push c.args.files.now.items c.args.name.now (c.in_ok-from_str-in-None.field-0, c.in_ok-bytes.bytes) (search rules) (search rules)
    ∙ ap (set_file (files_of c.args.files.now.items) c.args.name.now) (search rules)
