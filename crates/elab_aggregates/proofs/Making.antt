-- Lists of trees with which something is made, in several steps.
use Rattle.std.proofs.Common.{◌≡◌, true, List, [], ◌∷◌, ◌++◌, length, Ok, Err, Result, refl, sym, ◌∙◌, ap}
use Rattle.elab_make.specs.cpp_tree.declared.faults.ElabFault.{ElabFault}
use Rattle.elab_make.specs.cpp_tree.declared.arena.TNodeId.{TNodeId}
use Rattle.elab_make.specs.cpp_tree.Trees.{Tree, Trees, none, more, one}
use Rattle.elab_make.specs.cpp_tree.Arena.{tree_at, trees_at, Grows}
use Rattle.elab_make.specs.elab_ctx.Ctx.{Work}
use Rattle.elab_make.specs.elab_ctx.Steps.{and_then, Made, MadeAll}
use Rattle.elab_make.specs.elab_ctx.Says.{Faults, MadeAt, AllMade, are_within}
use Rattle.elab_make.proofs.elab_ctx.Looks.{grows_refl, grows_trans}
use Rattle.elab_make.proofs.elab_ctx.Making.{faults_in, faults_same}
use Rattle.elab_make.specs.elab_rules.Objects.{followed_by}
use Rattle.elab_make.proofs.elab_init.Listing.{followed_none, followed_twice, trees_append, trees_grown, all_within_grown, within_both, within_one}

-- behind trees that stand there
abbrev behind : Trees → MadeAll → MadeAll
behind ts m = record { trees = followed_by ts m.trees; work = m.work }

-- one tree, then those of the rest
abbrev pub then_rest : Tree → Result MadeAll ElabFault → Result MadeAll ElabFault
then_rest t rest = and_then rest (λ (r : MadeAll). Ok (record { trees = more t r.trees; work = r.work }))

-- of what is to be made, these stand there, and this is left
pub record Making (old now : List Tree) (ids : List TNodeId) (left total : Result MadeAll ElabFault) : Type 0 where
  pub grows : Grows old now
  pub within : are_within (length now) ids ≡ true
  pub is : total ≡ and_then left (λ (m : MadeAll). Ok (behind (trees_at now ids) m))

nothing_before : (x : Result MadeAll ElabFault) → x ≡ and_then x (λ (m : MadeAll). Ok (behind none m))
nothing_before (Ok m) = refl
nothing_before (Err e) = refl

pub making_first : (old : List Tree) (ids : List TNodeId) (total : Result MadeAll ElabFault) → ids ≡ [] → Making old old ids total total
making_first old ids total e = record { grows = grows_refl old; within = rw e refl; is = rw e (nothing_before total) }

behind_twice : (ts : Trees) (t : Tree) (x : Result MadeAll ElabFault)
    → and_then (then_rest t x) (λ (m : MadeAll). Ok (behind ts m)) ≡ and_then x (λ (m : MadeAll). Ok (behind (followed_by ts (one t)) m))
behind_twice ts t (Ok m) = ap (λ (z : Trees). Ok (record { trees = z; work = m.work })) (sym (followed_twice ts (one t) m.trees))
behind_twice ts t (Err e) = refl

-- a step that was made
pub making_step : (old now new : List Tree) (w : Work) (ids next : List TNodeId) (r : TNodeId) (x : Result Made ElabFault) (f : Work → Result MadeAll ElabFault)
    (left total : Result MadeAll ElabFault) → Making old now ids left total → left ≡ and_then x (λ (p : Made). then_rest p.tree (f p.work))
    → MadeAt now new w r x → next ≡ ids ++ r ∷ [] → Making old new next (f w) total
making_step old now new w ids next r x f left total a l m n =
    let before : trees_at new ids ≡ trees_at now ids = trees_grown now new ids m.grows a.within in
    let all : trees_at new next ≡ followed_by (trees_at now ids) (one (tree_at new r)) = ap (trees_at new) n ∙ trees_append new ids (r ∷ [])
    ∙ ap (λ (z : Trees). followed_by z (one (tree_at new r))) before in
    let value : left ≡ then_rest (tree_at new r) (f w) = l ∙ ap (λ (z : Result Made ElabFault). and_then z (λ (p : Made). then_rest p.tree (f p.work))) m.is in
    record {
      grows = grows_trans a.grows m.grows;
      within = rw n (within_both (length new) ids (r ∷ []) (all_within_grown now new ids m.grows a.within) (within_one (length new) r m.within));
      is = a.is ∙ ap (λ (z : Result MadeAll ElabFault). and_then z (λ (y : MadeAll). Ok (behind (trees_at now ids) y))) value
          ∙ behind_twice (trees_at now ids) (tree_at new r) (f w) ∙ ap (λ (z : Trees). and_then (f w) (λ (y : MadeAll). Ok (behind z y))) (sym all);
    }

-- a step that was refused
pub making_fails : (old now : List Tree) (ids : List TNodeId) (e : ElabFault) (x : Result Made ElabFault) (g : Made → Result MadeAll ElabFault)
    (left total : Result MadeAll ElabFault) → Making old now ids left total → left ≡ and_then x g → Faults e x → Faults e total
making_fails old now ids e x g left total a l h = faults_same e _ _
    (a.is ∙ ap (λ (z : Result MadeAll ElabFault). and_then z (λ (y : MadeAll). Ok (behind (trees_at now ids) y))) l)
    (faults_in (λ (z : Result Made ElabFault). and_then (and_then z g) (λ (y : MadeAll). Ok (behind (trees_at now ids) y))) e x (λ d. refl) h)

-- nothing is left
pub making_done : (old now : List Tree) (w : Work) (ids : List TNodeId) (left total : Result MadeAll ElabFault) → Making old now ids left total
    → left ≡ Ok (record { trees = none; work = w }) → AllMade old now w ids total
making_done old now w ids left total a l = record {
  grows = a.grows;
  within = a.within;
  is = a.is ∙ ap
      (λ (z : Result MadeAll ElabFault). and_then z (λ (y : MadeAll). Ok (behind (trees_at now ids) y))) l
      ∙ ap (λ (z : Trees). Ok (record { trees = z; work = w })) (followed_none (trees_at now ids));
}

-- what is left is made at once
pub making_last : (old now new : List Tree) (w : Work) (ids others next : List TNodeId) (left total : Result MadeAll ElabFault) → Making old now ids left total
    → AllMade now new w others left → next ≡ ids ++ others → AllMade old new w next total
making_last old now new w ids others next left total a m n =
    let before : trees_at new ids ≡ trees_at now ids = trees_grown now new ids m.grows a.within in
    let all : trees_at new next ≡ followed_by (trees_at now ids) (trees_at new others) = ap (trees_at new) n ∙ trees_append new ids others
    ∙ ap (λ (z : Trees). followed_by z (trees_at new others)) before in
    record {
      grows = grows_trans a.grows m.grows;
      within = rw n (within_both (length new) ids others (all_within_grown now new ids m.grows a.within) m.within);
      is = a.is ∙ ap (λ (z : Result MadeAll ElabFault). and_then z (λ (y : MadeAll). Ok (behind (trees_at now ids) y))) m.is
          ∙ ap (λ (z : Trees). Ok (record { trees = z; work = w })) (sym all);
    }

-- or refused
pub making_last_fails : (old now : List Tree) (ids : List TNodeId) (e : ElabFault) (left total : Result MadeAll ElabFault) → Making old now ids left total
    → Faults e left → Faults e total
making_last_fails old now ids e left total a h = faults_same e _ _ a.is
    (faults_in (λ (z : Result MadeAll ElabFault). and_then z (λ (y : MadeAll). Ok (behind (trees_at now ids) y))) e left (λ d. refl) h)
