use Rattle.std.proofs.Common.{sym, ◌∙◌}
use Rattle.std.specs.Prelude.{slice_index}
use Rattle.race_check.specs.Marks.{mark}
use Rattle.race_check.proofs.BlockSteps.{adds_read, adds_users, adds_writers}
use Rattle.race_check.proofs.blocks.Blocks.put_access.Goals as goal

pub returns-then-not-is_write-clause-writers : goal.returns-then-not-is_write-clause-writers
returns-then-not-is_write-clause-writers c =
    adds_read c.args.what (slice_index c.args.whole.now.latest) (mark c.args.self.now.writers) (sym c.is_write.ensures ∙ c.if-not-is_write.true)

pub returns-then-not-is_write-clause-users : goal.returns-then-not-is_write-clause-users
returns-then-not-is_write-clause-users c =
    adds_users c.args.what (slice_index c.args.whole.now.latest) (mark c.args.self.now.users)
    (mark c.add_all.new.self) c.bytes_of-bytes.result.from c.bytes_of-bytes.result.to
    c.bytes_of-bytes.ensures.inside c.bytes_of-bytes.ensures.all c.in_ok-add_all.ensures.there c.in_ok-add_all.ensures.others

pub returns-clause-writers : goal.returns-clause-writers
returns-clause-writers c =
    adds_writers c.args.what (slice_index c.args.whole.now.latest) (mark c.args.self.now.writers)
    (mark c.add_all-2.new.self) c.bytes_of-bytes.result.from c.bytes_of-bytes.result.to
    c.bytes_of-bytes.ensures.inside c.bytes_of-bytes.ensures.all
    (sym c.is_write.ensures ∙ c.if-not-is_write.false) c.in_ok-add_all-2.ensures.there c.in_ok-add_all-2.ensures.others

pub returns-clause-users : goal.returns-clause-users
returns-clause-users c =
    adds_users c.args.what (slice_index c.args.whole.now.latest) (mark c.args.self.now.users)
    (mark c.add_all.new.self) c.bytes_of-bytes.result.from c.bytes_of-bytes.result.to
    c.bytes_of-bytes.ensures.inside c.bytes_of-bytes.ensures.all c.in_ok-add_all.ensures.there c.in_ok-add_all.ensures.others
