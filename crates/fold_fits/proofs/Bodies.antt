-- A well-formed body is folded to a well-formed one.
use Rattle.std.proofs.Common.{◌≡◌, refl, arith, ℕ, Bool, true, false}
use Rattle.cpp_tree.specs.cpp_types.Typ.{Typ}
use Rattle.cpp_tree.specs.declared.kinds.TKind.TheVariants.{Block, Return}
use Rattle.cpp_tree.specs.declared.program.FuncKind.{FuncKind}
use Rattle.cpp_tree.specs.declared.roles.Role.TheVariants.{Statement}
use Rattle.cpp_tree.specs.Trees.{Tree, node, Trees, none, more, kind_of}
use Rattle.cpp_tree.specs.Typing.{is_void}
use Rattle.cpp_tree.specs.Rows.{Setting, result_of}
use Rattle.cpp_tree.specs.WellFormed.{outermost, is_body_of, is_return, last_is_return, ends_well, is_free_place, WellFormedBody}
use Rattle.tree_fold.specs.Folding.{folded, all_folded}
use Rattle.tree_fold.specs.Declaring.{declares_plainly}
use Rattle.setting_growth.proofs.Still.{same, one_of}
use Rattle.fold_fits.proofs.Trees.{tree_folds}
use Rattle.fold_fits.proofs.Places.{tree_places}

module _ (v : ℕ → Bool) where
  block_kept : (f : FuncKind) (t : Tree) → is_body_of f (kind_of t) ≡ true → is_body_of f (kind_of (folded v t)) ≡ true
  block_kept f (node (Block subobjects) t cat at kids) e = e
  block_kept f (node kind t cat at kids) e = absurd cc

  return_kept : (t : Tree) → is_return (kind_of t) ≡ true → is_return (kind_of (folded v t)) ≡ true
  return_kept (node Return t cat at kids) e = refl
  return_kept (node kind t cat at kids) e = absurd cc

  last_kept : (b c : Bool) (ts : Trees) → (b ≡ true → c ≡ true) → last_is_return b ts ≡ true → last_is_return c (all_folded v ts) ≡ true
  last_kept b c none f e = f e
  last_kept b c (more t ts) f e = last_kept (is_return (kind_of t)) (is_return (kind_of (folded v t))) ts (return_kept t) e

  end_kept : (f : FuncKind) (r : Typ) (t : Tree) → is_body_of f (kind_of t) ≡ true → ends_well r t ≡ true → ends_well r (folded v t) ≡ true
  end_kept f r (node (Block subobjects) t cat at kids) b e = (one_of (same (is_void r)) (record { up = last_kept false false kids (λ h. h) })).up e
  end_kept f r (node kind t cat at kids) b e = absurd cc

  pub body_folds : (s : Setting) (body : Tree) → WellFormedBody s body → declares_plainly body ≡ true → WellFormedBody s (folded v body)
  body_folds s body w e =
      let places = tree_places v body e in
      record {
        nodes = (tree_folds v s outermost Statement body w.nodes).fits;
        block = block_kept s.function.kind body w.block;
        end = end_kept s.function.kind (result_of s.function) body w.block w.end;
        words = w.words;
        items = w.items;
        within = places.all (is_free_place s.function) w.within;
        once = λ place. let a = places.often place in let b = w.once place in omega (arith, a, b);
      }
