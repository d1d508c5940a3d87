-- The cells of an initialiser by its kind, its place and its kids.
use Rattle.std.specs.Prelude.{List, Result, Ok, Err}
use Rattle.cpp_types.specs.declared.classes.At.{At}
use Rattle.elab_rules.specs.cpp_tree.declared.kinds.TKind.{TKind}
use Rattle.elab_rules.specs.cpp_tree.declared.kinds.TKind.TheVariants.{Store, Pieces, Piece, Elements}
use Rattle.elab_rules.specs.cpp_tree.declared.faults.ElabFault.{ElabFault}
use Rattle.elab_rules.specs.cpp_tree.declared.faults.ElabFault.TheVariants.{Ill}
use Rattle.elab_rules.specs.cpp_tree.declared.faults.IllRule.TheVariants.{NotConstant}
use Rattle.elab_rules.specs.cpp_tree.Trees.{Trees, none, more}
use Rattle.elab_rules.specs.cpp_tree.Units.{Cell}
use Rattle.elab_rules.specs.elab_ctx.Ctx.{Ctx, Work}
use Rattle.elab_rules.specs.elab_ctx.Steps.{and_then}
use Rattle.elab_rules.specs.Braces.{tree_place}
use Rattle.elab_rules.specs.Constants.{constant, address}
use Rattle.elab_rules.specs.Globals.{scalar_cells, cells_of, cells_of_all, moved_cells, element_cells}

-- a scalar that has the value of its only kid
abbrev pub stored_cells : Ctx → Work → TKind → At → Trees → Result (List Cell) ElabFault
stored_cells c w (Store kind v) at (more e none) = scalar_cells c w 0 kind (tree_place e) (constant w.globals e) (address e)
stored_cells c w kind at kids = Err (Ill at NotConstant)

abbrev pub piece_cells : Ctx → Work → TKind → At → Trees → Result (List Cell) ElabFault
piece_cells c w (Piece offset) at (more e destroys) = and_then (cells_of c w e) (λ xs. Ok (moved_cells offset xs))
piece_cells c w (Elements n stride) at (more e destroys) = and_then (cells_of c w e) (λ xs. Ok (element_cells n stride xs))
piece_cells c w kind at kids = Err (Ill at NotConstant)

abbrev pub cells_by : Ctx → Work → TKind → At → Trees → Result (List Cell) ElabFault
cells_by c w (Store kind v) at kids = stored_cells c w (Store kind v) at kids
cells_by c w Pieces at kids = cells_of_all c w kids
cells_by c w kind at kids = piece_cells c w kind at kids
