-- What a statement gives: items of a block or of a `switch`.
use Rattle.std.specs.Prelude.{◌≡◌, Bool, true, false, ◌||◌}
use Rattle.elab_rules.specs.cpp_types.Typ.{Typ, Form}
use Rattle.elab_rules.specs.cpp_ast.Trees as syntax
use Rattle.elab_rules.specs.cpp_tree.declared.roles.Role.{Role}
use Rattle.elab_rules.specs.cpp_tree.declared.roles.Role.TheVariants.{Statement, BlockItem, SwitchItem}
use Rattle.elab_rules.specs.cpp_tree.Trees.{Trees, none, more}
use Rattle.elab_rules.specs.cpp_tree.Notation.{plain}
use Rattle.elab_rules.specs.cpp_tree.Typing.{form_in, kind_in, gives_promoted}
use Rattle.elab_rules.specs.cpp_tree.Rows.{are_cases}
use Rattle.elab_rules.specs.cpp_tree.WellFormed.{heads_of, labels_fit, skips}
use Rattle.elab_rules.specs.elab_ctx.declared.env.Label.{Label}
use Rattle.elab_rules.specs.Statements.{State, Done, is_direct_label, is_declaration}
use Rattle.elab_fits.specs.Scalars.{is_scalar}
use Rattle.elab_fits_statements.specs.Anywhere.{AllServe}
use Rattle.elab_fits_statements.specs.Discipline.{Words, Goes}

-- the role of what stands there
abbrev pub role_if : (direct : Bool) → Role
role_if true = SwitchItem
role_if false = BlockItem

abbrev pub role_in : Label → Role
role_in l = role_if (is_direct_label l)

-- a declaration that no label may stand behind is among them, or was before
abbrev pub skipped : Bool → Trees → Bool
skipped b none = b
skipped b (more t ts) = skipped (b || skips t) ts

-- the type of labels: that of a promoted scalar
pub record IsLabelType (t : Typ) : Type 0 where
  pub form : Form
  pub typed : t ≡ plain form
  pub scalar : is_scalar form ≡ true
  pub promoted : gives_promoted (kind_in form) ≡ true

-- where a label may stand, its type is one of labels
abbrev pub HasLabels : State → Type 0
HasLabels st = is_direct_label st.ctx.label ≡ true → IsLabelType st.ctx.labels.typ

-- no label stands behind a declaration that it may not jump past, and what is said of those declarations is told behind them
pub record Behind (st : State) (b : Bool) (d : Done) : Type 0 where
  pub fit : labels_fit b d.trees ≡ true
  pub past : is_direct_label st.ctx.label ≡ true → skipped b d.trees ≡ true → d.state.ctx.labels.is_past ≡ true

pub record Items (w : Words) (st : State) (d : Done) : Type 0 where
  pub goes : Goes w st d.state
  pub serve : AllServe (w.at d.state) st.ctx.breaks st.ctx.continues (role_in st.ctx.label) d.trees
  pub cases : are_cases (kind_in (form_in st.ctx.labels.typ)) (heads_of d.trees) ≡ true
  pub behind : (b : Bool) → (is_direct_label st.ctx.label ≡ true → b ≡ true → st.ctx.labels.is_past ≡ true) → Behind st b d

-- a statement in another, where no label may stand, is no declaration or stands in a block
pub record StatementFits (w : Words) (st : State) (t : syntax.Tree) (d : Done) : Type 0 where
  pub items : Items w st d
  pub alone : is_direct_label st.ctx.label ≡ false → is_declaration t ≡ false
      → AllServe (w.at d.state) st.ctx.breaks st.ctx.continues Statement d.trees
