-- What is known round a function while it is read, and what stands behind it.
use Rattle.std.specs.Prelude.{ℕ, ◌-◌, Bool, List, length, take, drop, Option, Some, None, map, option_map}
use Rattle.cpp_types.specs.Typ.{Typ, typ_of}
use Rattle.elab_stmt.specs.cpp_names.Names.{Names}
use Rattle.elab_stmt.specs.cpp_tree.Trees.{Tree}
use Rattle.elab_stmt.specs.cpp_tree.Arena.{trees_of}
use Rattle.elab_stmt.specs.elab_ctx.declared.env.Label.{Label}
use Rattle.elab_stmt.specs.elab_ctx.Ctx.{Variable, This, Returns, Labels, Lambda, Closure, variable_of, this_of, returns_of, labels_of, lambda_of, closure_of}
use Rattle.elab_stmt.specs.elab_rules.Statements.{State}
use Rattle.elab_entry.specs.declared.around.Around.{Around}

-- what is known round a function
pub record Round : Type 0 where
  -- how many scopes are open
  pub scopes : ℕ
  -- the variables of another function, or none where those round a lambda stay known
  pub variables : Option (List Variable)
  -- how many variables there are
  pub count : ℕ
  pub this : Option This
  pub class : Option ℕ
  pub returns : Returns
  pub breaks : Bool
  pub continues : Bool
  pub label : Label
  pub labels : Labels
  pub lambda : Option Lambda
  pub closures : List Closure
  pub frame : List Typ

-- what the record of the code shows, beside its nodes
abbrev pub round_of : Around → Round
round_of a = record {
  scopes = a.scopes;
  variables = option_map (λ vs. map variable_of vs.items) a.variables;
  count = a.count;
  this = option_map this_of a.this;
  class = a.class;
  returns = returns_of a.returns;
  breaks = a.breaks;
  continues = a.continues;
  label = a.label;
  labels = labels_of a.labels;
  lambda =
      option_map lambda_of a.lambda;
  closures = map closure_of a.closures.items;
  frame = map typ_of a.frame.items;
}

-- the trees round a function
abbrev pub trees_round : Around → List Tree
trees_round a = trees_of a.nodes.items

-- What is known of a state, as what stands round the next function

abbrev pub round_with : Option (List Variable) → State → Round
round_with vs st = record {
  scopes = length st.ctx.scopes;
  variables = vs;
  count = length st.ctx.variables;
  this = st.ctx.this;
  class = st.ctx.class;
  returns =
      st.ctx.returns;
  breaks = st.ctx.breaks;
  continues = st.ctx.continues;
  label = st.ctx.label;
  labels = st.ctx.labels;
  lambda = st.ctx.lambda;
  closures =
      st.ctx.closures;
  frame = st.work.frame;
}

abbrev pub round_function : State → Round
round_function st = round_with (Some st.ctx.variables) st

abbrev pub round_lambda : State → Round
round_lambda st = round_with None st

-- Behind a function: what was opened in it is closed, and what stood round it is known as before

-- the outermost scopes, so many
abbrev pub scopes_by : ℕ → List Names → List Names
scopes_by n xs = drop (length xs - n) xs

abbrev pub variables_by : Option (List Variable) → ℕ → List Variable → List Variable
variables_by (Some vs) n xs = vs
variables_by None n xs = take n xs

abbrev pub left_by : Round → State → State
left_by a st = record {
  ctx = record st.ctx {
    scopes = scopes_by a.scopes st.ctx.scopes;
    variables = variables_by a.variables a.count st.ctx.variables;
    this = a.this;
    class =
        a.class;
    returns = a.returns;
    breaks = a.breaks;
    continues = a.continues;
    label = a.label;
    labels = a.labels;
    lambda = a.lambda;
    closures = a.closures;
  };
  work = record st.work { frame = a.frame };
  bodies = st.bodies;
}
