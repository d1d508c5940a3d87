use Rattle.std.proofs.Common.{length, refl, sym, ◌∙◌, ◌-◌, arith}
use Rattle.std.proofs.Math.ListN.{length-set}
use Rattle.own_table.specs.Stripes.{hold_at}
use Rattle.std.proofs.lemmas.Option.{slice_get_read}
use Rattle.own_table.proofs.TableLemmas.{counts_new, counts_raised, spare_set}
use Rattle.own_table.proofs.table.Holders.take.Goals as goal

pub invariant_of-self : goal.invariant_of-self
invariant_of-self c =
    let self = c.args.self.now in
    let old = hold_at self.stripes.items in
    let new = hold_at c.take_record-is_new.new.stripes.items in
    record {
      table = record {
        stripes_len = c.take_record-is_new.ensures.len;
        threads = omega (arith, length-set self.held.items c.args.t c.add.new.self, self.table.threads);
        placed = c.take_record-is_new.ensures.placed;
        kept = counts_new self.held.items c.index_mut-words.result.now c.add.new.self c.args.t c.args.word c.args.mode old new
            (omega arith) c.index_mut-words.ensures.value self.table.kept c.take_record-is_new.ensures.taken
            (sym c.take_record-is_new.ensures.is_new ∙ c.if-is_new.true) c.add.ensures.added;
        spare =
            let before = slice_get_read self.held.items (length self.held.items) c.args.t c.index_mut-words.result.now refl
            (omega arith) c.index_mut-words.ensures.value in
            let room = self.table.spare c.args.t c.index_mut-words.result.now before in
            spare_set self.held.items c.args.t c.add.new.self self.spare (self.spare - 1) (omega arith) (omega arith) self.table.spare
            (omega (arith, room, c.add.ensures.len, c.add.ensures.kept, c.requires.capacity.words));
      };
    }

pub invariant_of-self-else-is_new : goal.invariant_of-self-else-is_new
invariant_of-self-else-is_new c =
    let self = c.args.self.now in
    let old = hold_at self.stripes.items in
    let new = hold_at c.take_record-is_new.new.stripes.items in
    record {
      table = record {
        stripes_len = c.take_record-is_new.ensures.len;
        threads = self.table.threads;
        placed = c.take_record-is_new.ensures.placed;
        kept = counts_raised self.held.items c.args.t c.args.word c.args.mode old new self.table.kept c.take_record-is_new.ensures.taken
            (sym c.take_record-is_new.ensures.is_new ∙ c.if-is_new.false);
        spare = self.table.spare;
      };
    }
