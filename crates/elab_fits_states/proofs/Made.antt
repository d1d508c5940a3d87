-- The bodies that were made fit where the unit has grown.
use Rattle.std.proofs.Common.{sym, ap, ◌∙◌, List, slice_get}
use Rattle.elab_rules.specs.cpp_types.Class.{Function}
use Rattle.elab_rules.specs.cpp_tree.declared.roles.Role.TheVariants.{Statement}
use Rattle.elab_rules.specs.cpp_tree.WellFormed.{outermost}
use Rattle.elab_rules.specs.Statements.{State, Body}
use Rattle.setting_growth.specs.Growth.{HeldEarlier}
use Rattle.setting_growth.proofs.Trees.{fits_law}
use Rattle.state_growth.specs.Settings.{setting_at, shown, UnitGrows}
use Rattle.state_growth.proofs.Settings.{left_law}
use Rattle.elab_fits_states.specs.Made.{MadeFits, BodiesStay}

-- one of them
pub one_stays : (a b : State) → HeldEarlier a.ctx.classes → UnitGrows a b → (x : Body) → MadeFits a x → MadeFits b x
one_stays a b o u x y = let k = u.funcs.kept x.func y.func y.at in record {
  func = k.func;
  at = k.at;
  fits = fits_law (setting_at (shown a.ctx.classes y.func) a.ctx (record a.work { frame = x.frame }))
      (setting_at (shown b.ctx.classes k.func) b.ctx (record b.work { frame = x.frame })) o
      (left_law (shown a.ctx.classes y.func) (shown b.ctx.classes k.func) (record a { work = record a.work { frame = x.frame } }) b k.same.kind
      (ap (λ (d : Function). d.signature) k.same.declared) (record { classes = u.classes; slots = u.slots; funcs = u.funcs; globals = u.globals }))
      outermost Statement x.tree y.fits;
}

pub bodies_stay : BodiesStay
bodies_stay a b o g e h = record {
  each = λ i x q. one_stays a b o g x (h.each i x (ap (λ (xs : List Body). slice_get xs i) (sym e) ∙ q));
}
