-- A run of the folded program is one of the program, and keeps its turn bound.
use Rattle.std.proofs.Common.{◌≡◌, ◌≤◌, ◌+◌, ◌*◌, ◌/◌, ◌∙◌, ℕ, Bool, true, false, List, Option, Some, None, refl, ap, sym, subst, arith}
use Rattle.bounded_runs.specs.BoundedRuns.{IsRunOf, OfSource, OfLinked, IsOfLinked, IsOfSource}
use Rattle.cpp_tree.specs.Units.{program_of}
use Rattle.cpp_tree.specs.WellFormed.{WellFormed}
use Rattle.cpp_tree.specs.declared.program.Program.{Program}
use Rattle.cpp_tree.specs.tx_events.declared.End.{End}
use Rattle.cpp_tree.specs.tx_events.declared.TheConstants.{THREAD_LIMIT}
use Rattle.cpp_tree.specs.tx_events.Memory.{MemoryLayout, no_bytes, with_cells}
use Rattle.cpp_tree.specs.tx_events.Same.{with_threads}
use Rattle.fold_events.specs.Keeping.{Keeps, IsReplay, CostsAtMost, cost_of}
use Rattle.run_command.specs.Runs.{IsCompiled}
use Rattle.source_runs.specs.Sources.{RunsTo}
use Rattle.src_bind.specs.Tables.{Given, typed, linked_of}
use Rattle.src_bind.specs.declared.choices.Choices.{Choices}
use Rattle.src_link.specs.Slots.{AreChoices}
use Rattle.src_mean.specs.Links.{first_cells, globals_size}
use Rattle.src_mean.specs.Source.{source}
use Rattle.src_replay.specs.Orders.{layout_in, first_in}
use Rattle.tree_fold.specs.Programs.{folded_program}
use Rattle.turn_bounds.specs.Linked.{EndsAloneIn}
use Rattle.turn_bounds.proofs.OnTheWay.{on_the_way}
use Rattle.turn_bounds.proofs.Started.{none_spawned}
use Rattle.tx_answers.specs.declared.answer.Answer.{Answer}
use Rattle.tx_machine.specs.declared.run.Ran.{Ran}
use Rattle.vm_thread.specs.declared.thread.Here.{Here}

-- what the laws of folding say of a program and one that it folds to
abbrev pub KeepsRuns : Type 0
KeepsRuns = (g h : Given) → WellFormed g.program → program_of h.program ≡ folded_program (program_of g.program) → h.choices ≡ g.choices
    → Keeps (linked_of g) (linked_of h)

abbrev pub KeepsSize : Type 0
KeepsSize = (p : Program) → globals_size (folded_program (program_of p)) ≡ globals_size (program_of p)

abbrev pub KeepsCells : Type 0
KeepsCells = (g h : Given) → WellFormed g.program → program_of h.program ≡ folded_program (program_of g.program) → h.choices ≡ g.choices
    → first_cells (typed h) (linked_of h) ≡ first_cells (typed g) (linked_of g)

abbrev memory_of : Given → ℕ → ℕ
memory_of g = with_cells no_bytes (first_cells (typed g) (linked_of g))

runs_kept : KeepsRuns → KeepsSize → KeepsCells → (g h : Given) → WellFormed g.program → program_of h.program ≡ folded_program (program_of g.program)
    → h.choices ≡ g.choices
    → (input order out : List ℕ) (end : End) → RunsTo h input order out end → RunsTo g input order out end
runs_kept keeps size cells g h well same choices input order out end r =
    let layout : layout_in h ≡ layout_in g = ap (λ (n : ℕ). record { globals = (n + 7) / 8 * 8; limit = THREAD_LIMIT })
    (ap globals_size same ∙ size g.program) in
    let memory : memory_of h ≡ memory_of g = ap (with_cells no_bytes) (cells g h well same choices) in
    let back : IsReplay (linked_of g) (layout_in h) (memory_of h) input order r.world =
    (keeps g h well same choices).back (layout_in h) (memory_of h) input order r.world (omega arith) r.replays in
    let placed : IsReplay (linked_of g) (layout_in g) (memory_of h) input order r.world =
    subst (λ (p : MemoryLayout). IsReplay (linked_of g) p (memory_of h) input order r.world) layout back in
    let moved : IsReplay (linked_of g) (layout_in g) (memory_of g) input order r.world =
    subst (λ (m : ℕ → ℕ). IsReplay (linked_of g) (layout_in g) m input order r.world) memory placed in
    record { world = with_threads r.world moved.threads; replays = moved.replay; out_is = r.out_is; end_is = r.end_is }

least : (x y n : ℕ) → x ≤ y → y ≤ n → x ≤ n
least x y n h g = omega (arith, h, g)

-- where the program ends alone, so does the folded one, at no more cost
ends_kept : KeepsRuns → KeepsSize → KeepsCells → (g h : Given) → WellFormed g.program → program_of h.program ≡ folded_program (program_of g.program)
    → h.choices ≡ g.choices → (input : List ℕ) (n : ℕ) (out : List ℕ) (end : End) → EndsAloneIn g input n out end → EndsAloneIn h input n out end
ends_kept keeps size cells g h well same choices input n out end e =
    let layout : layout_in g ≡ layout_in h = ap (λ (n : ℕ). record { globals = (n + 7) / 8 * 8; limit = THREAD_LIMIT })
    (sym (ap globals_size same ∙ size g.program)) in
    let memory : memory_of g ≡ memory_of h = ap (with_cells no_bytes) (sym (cells g h well same choices)) in
    let way = on_the_way (source (linked_of g)) (layout_in g) out end e.order (first_in g input) e.world e.replays e.order e.world e.replays n refl (λ k. refl)
    e.spawns_nothing e.within e.out_is e.end_is in
    let most = cost_of (linked_of g) (layout_in g) (memory_of g) input e.order e.world e.replays in
    let there : CostsAtMost (linked_of h) (layout_in g) (memory_of g) input e.order e.world most =
    (keeps g h well same choices).replays (layout_in g) (memory_of g) input e.order e.world e.replays in
    let placed : CostsAtMost (linked_of h) (layout_in h) (memory_of g) input e.order e.world most =
    subst (λ (p : MemoryLayout). CostsAtMost (linked_of h) p (memory_of g) input e.order e.world most) layout there in
    let moved : CostsAtMost (linked_of h) (layout_in h) (memory_of h) input e.order e.world most =
    subst (λ (m : ℕ → ℕ). CostsAtMost (linked_of h) (layout_in h) m input e.order e.world most) memory placed in
    record {
      order = e.order;
      world = with_threads e.world moved.threads;
      replays = moved.replay;
      spawns_nothing = none_spawned (source (linked_of h)) (layout_in h) (omega arith) e.order (first_in h input) (with_threads e.world moved.threads) moved.replay
          refl way.started;
      within = least (cost_of (linked_of h) (layout_in h) (memory_of h) input e.order (with_threads e.world moved.threads) moved.replay) most n moved.within e.within;
      out_is = e.out_is;
      end_is = e.end_is;
    }

run_kept : KeepsRuns → KeepsSize → KeepsCells → (fold : Bool) (p q : Program) (c : Choices) → WellFormed p → IsCompiled fold p q → (input : List ℕ)
    (ran : Ran Here) → IsRunOf (record { program = q; choices = c }) input ran → IsRunOf (record { program = p; choices = c }) input ran
run_kept keeps size cells true p q c well is input ran r =
    let g : Given = record { program = p; choices = c } in
    let h : Given = record { program = q; choices = c } in
    record {
      source = runs_kept keeps size cells g h well is refl input ran.order.items ran.out.items ran.end r.source;
      turns = λ n out end e. r.turns n out end (ends_kept keeps size cells g h well is refl input n out end e);
    }
run_kept keeps size cells false p q c well is input ran r = subst (λ (x : Program). IsRunOf (record { program = x; choices = c }) input ran) is r

of_ran : KeepsRuns → KeepsSize → KeepsCells → (fold : Bool) (p q : Program) (c : Choices) (input : List ℕ) (ran : Option (Ran Here))
    → WellFormed p → IsCompiled fold p q → AreChoices (program_of p) c → OfLinked (record { program = q; choices = c }) input ran → OfSource p input ran
of_ran keeps size cells fold p q c input None well is ch r = tt
of_ran keeps size cells fold p q c input (Some ran) well is ch r =
    record { choices = c; are_choices = ch; run = run_kept keeps size cells fold p q c well is input ran r }

pub source_kept : KeepsRuns → KeepsSize → KeepsCells → (fold : Bool) (p q : Program) (c : Choices) (input : List ℕ) (a : Answer)
    → WellFormed p → IsCompiled fold p q → AreChoices (program_of p) c → IsOfLinked (record { program = q; choices = c }) input a → IsOfSource p input a
source_kept keeps size cells fold p q c input a well is ch r = of_ran keeps size cells fold p q c input a.ran well is ch r
