use Rattle.std.proofs.Common.{◌≡◌, ◌+◌, true, false, sym, ◌∙◌, subst}
use Rattle.std.proofs.lemmas.Bool.{true≢false, false≢true}
use Rattle.race_check.specs.Races.{writes}
use Rattle.race_check.specs.Marks.{lone, mark}
use Rattle.race_check.specs.Rows.{Greater}
use Rattle.race_check.proofs.MarkSteps.{latest_more, latest_stays}
use Rattle.race_check.proofs.marks.Seen.put.Goals as goal

pub returns-then-is_write : goal.returns-then-is_write
returns-then-is_write c =
    let w : writes c.args.item.what ≡ true = sym c.is_write.ensures ∙ c.if-is_write.true in
    let same : c.from-t.result ≡ c.args.item.t = c.from-t.ensures in
    record {
      reads = latest_stays c.args.items.now false c.args.item c.args.index (mark c.args.self.now.reads) c.requires.there (λ e. true≢false (sym w ∙ e))
          c.requires.so_far.reads;
      writes = latest_more c.args.items.now true c.args.item c.args.index c.bytes_of-bytes.result.from c.bytes_of-bytes.result.to
          (mark c.args.self.now.writes) (mark c.raise_all.new.self) c.requires.there w c.bytes_of-bytes.ensures.inside c.bytes_of-bytes.ensures.all
          (λ x le lt. subst (λ z. Greater (mark c.args.self.now.writes x) (lone z (c.args.index + 1)) (mark c.raise_all.new.self x)) same
          (c.in_ok-raise_all.ensures.there x le lt))
          c.in_ok-raise_all.ensures.others c.requires.so_far.writes;
    }

pub returns : goal.returns
returns c =
    let w : writes c.args.item.what ≡ false = sym c.is_write.ensures ∙ c.if-is_write.false in
    let same : c.from-t.result ≡ c.args.item.t = c.from-t.ensures in
    record {
      writes = latest_stays c.args.items.now true c.args.item c.args.index (mark c.args.self.now.writes) c.requires.there (λ e. false≢true (sym w ∙ e))
          c.requires.so_far.writes;
      reads = latest_more c.args.items.now false c.args.item c.args.index c.bytes_of-bytes.result.from c.bytes_of-bytes.result.to
          (mark c.args.self.now.reads) (mark c.raise_all-2.new.self) c.requires.there w c.bytes_of-bytes.ensures.inside c.bytes_of-bytes.ensures.all
          (λ x le lt. subst (λ z. Greater (mark c.args.self.now.reads x) (lone z (c.args.index + 1)) (mark c.raise_all-2.new.self x)) same
          (c.in_ok-raise_all-2.ensures.there x le lt))
          c.in_ok-raise_all-2.ensures.others c.requires.so_far.reads;
    }
