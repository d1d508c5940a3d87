use Rattle.std.proofs.Common.{ℕ, ◌≡◌, ◌==◌, length, refl, ap, sym, ◌∙◌, arith}
use Rattle.std.proofs.Math.ListN.{length-set}
use Rattle.std.proofs.lemmas.Bool.{eq-eqb}
use Rattle.std.specs.BinaryHeap.{heap_items}
use Rattle.own_table.specs.Words.{times_in}
use Rattle.own_table.specs.Stripes.{hold_at}
use Rattle.std.proofs.lemmas.Option.{slice_get_read}
use Rattle.own_table.proofs.LeastWord.{one}
use Rattle.own_table.proofs.TableLemmas.{counts_released, held_once, none_from_count, some_from_count, words_there, spare_set}
use Rattle.own_table.proofs.table.Holders.release_one.Goals as goal

pub returns-in_err-word-clause-none : goal.returns-in_err-word-clause-none
returns-in_err-word-clause-none c =
    let self = c.args.self.now in
    let was : (w : ℕ) → times_in (heap_items c.index_mut-words.result.now.words) w ≡ held_once (hold_at self.stripes.items c.args.t w) =
    λ w. ap (λ ws. times_in ws w) (sym (words_there self.held.items c.args.t c.index_mut-words.result.now (omega arith) c.index_mut-words.ensures.value))
    ∙ self.table.kept c.args.t w (omega arith) in
    rw c.from_residual.ensures (λ w. none_from_count (hold_at self.stripes.items c.args.t w) (sym (was w) ∙ c.in_err-word.ensures.none w))

pub invariant_of-self-2 : goal.invariant_of-self-2
invariant_of-self-2 c =
    let self = c.args.self.now in
    record {
      table = record {
        stripes_len = c.release_record.ensures.len;
        threads = omega (arith, length-set self.held.items c.args.t c.take_least.new.self, self.table.threads);
        placed = c.release_record.ensures.placed;
        kept = counts_released self.held.items c.index_mut-words.result.now c.take_least.new.self c.args.t c.in_ok-word.word (hold_at self.stripes.items)
            (hold_at c.release_record.new.stripes.items)
            (omega arith) c.index_mut-words.ensures.value self.table.kept c.release_record.ensures.released c.in_ok-word.ensures.one;
        spare =
            let before = slice_get_read self.held.items (length self.held.items) c.args.t c.index_mut-words.result.now refl
            (omega arith) c.index_mut-words.ensures.value in
            let room = self.table.spare c.args.t c.index_mut-words.result.now before in
            spare_set self.held.items c.args.t c.take_least.new.self self.spare self.spare (omega arith) (omega arith) self.table.spare
            (omega (arith, room, c.take_least.ensures.len, c.take_least.ensures.kept));
      };
    }

pub returns-clause-held : goal.returns-clause-held
returns-clause-held c =
    let self = c.args.self.now in
    let word = c.in_ok-word.word in
    let was : times_in (heap_items c.index_mut-words.result.now.words) word ≡ held_once (hold_at self.stripes.items c.args.t word) =
    ap (λ ws. times_in ws word) (sym (words_there self.held.items c.args.t c.index_mut-words.result.now (omega arith) c.index_mut-words.ensures.value))
    ∙ self.table.kept c.args.t word (omega arith) in
    let its : one (word == word) ≡ 1 = ap one (eq-eqb word word refl) in
    some_from_count (hold_at self.stripes.items c.args.t word) (omega (arith, was, its, c.in_ok-word.ensures.one word))

pub returns-clause-least : goal.returns-clause-least
returns-clause-least c =
    let self = c.args.self.now in
    λ w l.
    let was : times_in (heap_items c.index_mut-words.result.now.words) w ≡ held_once (hold_at self.stripes.items c.args.t w) =
    ap (λ ws. times_in ws w) (sym (words_there self.held.items c.args.t c.index_mut-words.result.now (omega arith) c.index_mut-words.ensures.value))
    ∙ self.table.kept c.args.t w (omega arith) in
    none_from_count (hold_at self.stripes.items c.args.t w) (sym was ∙ c.in_ok-word.ensures.least w l)
