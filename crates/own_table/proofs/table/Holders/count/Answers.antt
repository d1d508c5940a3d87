use Rattle.std.proofs.Common.{ℕ, ◌≡◌, ap, sym, ◌∙◌, arith, length}
use Rattle.std.specs.BinaryHeap.{heap_items}
use Rattle.own_table.specs.Words.{times_in}
use Rattle.own_table.specs.Stripes.{hold_at}
use Rattle.own_table.proofs.TableLemmas.{held_once, words_there}
use Rattle.own_table.proofs.HoldCounts.{count_none, count_one, count_some, count_more}
use Rattle.own_table.proofs.table.Holders.count.Goals as goal

pub returns-clause-none : goal.returns-clause-none
returns-clause-none c =
    let self = c.args.self.now in
    let hold = hold_at self.stripes.items c.args.t in
    let was : (w : ℕ) → times_in (heap_items c.index-words.result.now.words) w ≡ held_once (hold w) =
    λ w. ap (λ ws. times_in ws w) (sym (words_there self.held.items c.args.t c.index-words.result.now (omega arith) c.index-words.ensures))
    ∙ self.table.kept c.args.t w (omega arith) in
    λ e. count_none hold (heap_items c.index-words.result.now.words) was (sym c.len.ensures ∙ e)

pub returns-clause-one : goal.returns-clause-one
returns-clause-one c =
    let self = c.args.self.now in
    let hold = hold_at self.stripes.items c.args.t in
    let was : (w : ℕ) → times_in (heap_items c.index-words.result.now.words) w ≡ held_once (hold w) =
    λ w. ap (λ ws. times_in ws w) (sym (words_there self.held.items c.args.t c.index-words.result.now (omega arith) c.index-words.ensures))
    ∙ self.table.kept c.args.t w (omega arith) in
    λ e. count_one hold (heap_items c.index-words.result.now.words) was (sym c.len.ensures ∙ e)

pub returns-clause-some : goal.returns-clause-some
returns-clause-some c =
    let self = c.args.self.now in
    let hold = hold_at self.stripes.items c.args.t in
    let was : (w : ℕ) → times_in (heap_items c.index-words.result.now.words) w ≡ held_once (hold w) =
    λ w. ap (λ ws. times_in ws w) (sym (words_there self.held.items c.args.t c.index-words.result.now (omega arith) c.index-words.ensures))
    ∙ self.table.kept c.args.t w (omega arith) in
    λ e. let is = c.len.ensures in count_some hold (heap_items c.index-words.result.now.words) was (omega (arith, is, e))

pub returns-clause-more : goal.returns-clause-more
returns-clause-more c =
    let self = c.args.self.now in
    let hold = hold_at self.stripes.items c.args.t in
    let was : (w : ℕ) → times_in (heap_items c.index-words.result.now.words) w ≡ held_once (hold w) =
    λ w. ap (λ ws. times_in ws w) (sym (words_there self.held.items c.args.t c.index-words.result.now (omega arith) c.index-words.ensures))
    ∙ self.table.kept c.args.t w (omega arith) in
    λ e. let is = c.len.ensures in count_more hold (heap_items c.index-words.result.now.words) was (omega (arith, is, e))
