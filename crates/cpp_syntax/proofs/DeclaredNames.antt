-- The name that nodes declare.
use Rattle.std.proofs.Common.{◌≡◌, ℕ, zero, suc, ◌+◌, ◌<◌, ◌≤◌, Bool, true, false, if◌then◌else◌, List, [], ◌∷◌, length, drop, get_or, slice_get, drop-cons}
use Rattle.std.proofs.Common.{Option, Some, None, option_map, refl, sym, ◌∙◌, ap, subst, arith}
use Rattle.cpp_ast.specs.declared.arena.At.{At}
use Rattle.cpp_ast.specs.declared.arena.Node.{Node}
use Rattle.cpp_ast.specs.declared.arena.NodeId.{NodeId}
use Rattle.cpp_ast.specs.declared.kinds.NodeKind.{NodeKind}
use Rattle.cpp_ast.specs.Trees.{Tree, node, Trees, none, more, NodeAt, Shows, ShowsAll}
use Rattle.cpp_syntax.proofs.NodeKids.{front_at, drop-past, Parts, parts_of}
use Rattle.cpp_syntax.specs.Gathers.{Leads}
use Rattle.cpp_syntax.specs.Derivations.{is_of_declarator, declared, declared_in, leads_to_name, name_by, Name}

-- Some trees declare what those of the ids from an index on do.
pub record Behind (nodes : List Node) (ids : List NodeId) (i : ℕ) (trees : Trees) : Type 0 where
  pub rest : Trees
  pub shows : ShowsAll nodes (drop i ids) rest
  pub same : declared_in trees ≡ declared_in rest

pub at_first : (nodes : List Node) (ids : List NodeId) (trees : Trees) → ShowsAll nodes ids trees → Behind nodes ids 0 trees
at_first nodes ids trees s = record { rest = trees; shows = s; same = refl }

-- one more that is none of a declarator
pub past : (nodes : List Node) (ids : List NodeId) (i : ℕ) (id d : NodeId) (trees : Trees) → i < length ids → id ≡ get_or ids i d
    → ((tree : Tree) → Shows nodes id.0 tree → false ≡ is_of_declarator tree) → Behind nodes ids i trees → Behind nodes ids (i + 1) trees
past nodes ids i id d trees inside at other b =
    let f = front_at nodes ids i id d b.rest inside at b.shows in
    record {
      rest = f.others;
      shows = f.show;
      same = b.same ∙ ap declared_in f.are ∙ ap (λ (own : Bool). if own then declared f.first else declared_in f.others) (sym (other f.first f.shows));
    }

pub found_at : (nodes : List Node) (ids : List NodeId) (i : ℕ) (id d : NodeId) (trees : Trees) → i < length ids → id ≡ get_or ids i d
    → ((tree : Tree) → Shows nodes id.0 tree → true ≡ is_of_declarator tree) → Behind nodes ids i trees → Leads nodes ids id.0 trees
found_at nodes ids i id d trees inside at leads b =
    let f = front_at nodes ids i id d b.rest inside at b.shows in
    record {
      tree = f.first;
      shows = f.shows;
      leads = sym (leads f.first f.shows);
      same = b.same ∙ ap declared_in f.are ∙ ap (λ (own : Bool). if own then declared f.first else declared_in f.others) (sym (leads f.first f.shows));
    }

none_of : (nodes : List Node) (ids : List NodeId) (trees : Trees) → ids ≡ [] → ShowsAll nodes ids trees → declared_in trees ≡ None
none_of nodes ids none e s = refl
none_of nodes ids (more t ts) e s = absurd (let f : ids ≡ s.0 ∷ s.1 = s.2 in cc)

pub none_at : (nodes : List Node) (ids : List NodeId) (i : ℕ) (trees : Trees) → length ids ≤ i → Behind nodes ids i trees → declared_in trees ≡ None
none_at nodes ids i trees after b = b.same ∙ none_of nodes (drop i ids) b.rest (drop-past i ids after) b.shows

-- What a node declares, another does, which is a name or leads to one.
pub record LeadsTo (nodes : List Node) (found : ℕ) (tree : Tree) : Type 0 where
  pub to : Tree
  pub shows : Shows nodes found to
  pub leads : is_of_declarator to ≡ true
  pub same : declared tree ≡ declared to

abbrev by_kind : Bool → Trees → Option Name → Option Name
by_kind leads kids other = if leads then declared_in kids else other

-- a node that leads to a name has it among its kids
pub next_of : (nodes : List Node) (id next : ℕ) (found : Node) (tree : Tree) → slice_get nodes id ≡ Some found → leads_to_name found.kind ≡ true
    → ((trees : Trees) → ShowsAll nodes found.kids.items trees → Leads nodes found.kids.items next trees) → LeadsTo nodes id tree
    → LeadsTo nodes next tree
next_of nodes id next found tree stands leads first l =
    let p = parts_of nodes id found l.to stands l.shows in
    let k = first p.kids p.shows in
    record {
      to = k.tree;
      shows = k.shows;
      leads = k.leads;
      same = l.same ∙ ap declared p.is ∙ ap (λ (b : Bool). by_kind b p.kids (name_by found.kind found.token)) leads ∙ k.same;
    }

pub no_next : (nodes : List Node) (id : ℕ) (found : Node) (tree : Tree) → slice_get nodes id ≡ Some found → leads_to_name found.kind ≡ true
    → ((trees : Trees) → ShowsAll nodes found.kids.items trees → declared_in trees ≡ None) → LeadsTo nodes id tree → declared tree ≡ None
no_next nodes id found tree stands leads first l =
    let p = parts_of nodes id found l.to stands l.shows in
    l.same ∙ ap declared p.is ∙ ap (λ (b : Bool). by_kind b p.kids (name_by found.kind found.token)) leads ∙ first p.kids p.shows

pub at_name : (nodes : List Node) (id : ℕ) (found : Node) (tree : Tree) → slice_get nodes id ≡ Some found → leads_to_name found.kind ≡ false
    → LeadsTo nodes id tree → declared tree ≡ name_by found.kind found.token
at_name nodes id found tree stands other l =
    let p = parts_of nodes id found l.to stands l.shows in
    l.same ∙ ap declared p.is ∙ ap (λ (b : Bool). by_kind b p.kids (name_by found.kind found.token)) other
