-- Into functions.
use Rattle.std.proofs.Common.{◌≡◌, ◌++◌, ℕ, List, [], length, refl, ap, ◌∙◌, Option, Some, None}
use Rattle.cpp_types.specs.Typ.{Typ}
use Rattle.elab_stmt.specs.elab_ctx.Ctx.{This, Returns, known, Lambda}
use Rattle.elab_stmt.specs.elab_rules.Statements.{State}
use Rattle.elab_stmt.specs.elab_rules.Functions.{result_items, this_items, this_at}
use Rattle.elab_entry.specs.Round.{Round, round_function, round_lambda}
use Rattle.elab_entry.specs.Bodies.{entered, entered_lambda, exchanged, object_at}

object_this : (before : List Typ) (this : Option Typ) → object_at this (length before) ≡ this_at before this
object_this before (Some t) = refl
object_this before None = refl

abbrev emptied : State → Option ℕ → State
emptied st cls = record st { ctx = record st.ctx { variables = []; class = cls } }

pub entered_is : (st mid : State) (r t : Typ) (this : Option Typ) (cls : Option ℕ) (object : Option This) (place : ℕ) (frame : List Typ)
    → mid ≡ exchanged st object (known t) frame → object ≡ object_at this place → place ≡ length (result_items r) → t ≡ r
    → frame ≡ result_items r ++ this_items this → record mid { ctx = record mid.ctx { variables = []; class = cls } } ≡ entered st r this cls
entered_is st mid r t this cls object place frame m o p k f =
    let at : object ≡ this_at (result_items r) this = o ∙ ap (object_at this) p ∙ object_this (result_items r) this in
    ap (λ (z : State). emptied z cls) m
    ∙ ap (λ (z : Option This). emptied (exchanged st z (known t) frame) cls) at
    ∙ ap (λ (z : Typ). emptied (exchanged st (this_at (result_items r) this) (known z) frame) cls) k
    ∙ ap (λ (z : List Typ). emptied (exchanged st (this_at (result_items r) this) (known r) z) cls) f

abbrev within_lambda : State → Lambda → State
within_lambda st l = record st { ctx = record st.ctx { lambda = Some l } }

pub lambda_is : (st mid : State) (r this : Typ) (rs : Returns) (l : Lambda) (object : Option This) (place : ℕ) (frame : List Typ)
    → mid ≡ exchanged st object rs frame → object ≡ object_at (Some this) place → place ≡ length (result_items r)
    → frame ≡ result_items r ++ this_items (Some this) → record mid { ctx = record mid.ctx { lambda = Some l } } ≡ entered_lambda st r this rs l
lambda_is st mid r this rs l object place frame m o p f =
    let at : object ≡ Some (record { typ = this; place = length (result_items r) }) = o ∙ ap (object_at (Some this)) p in
    ap (λ (z : State). within_lambda z l) m
    ∙ ap (λ (z : Option This). within_lambda (exchanged st z rs frame) l) at
    ∙ ap (λ (z : List Typ). within_lambda (exchanged st (Some (record { typ = this; place = length (result_items r) })) rs z) l) f

pub round_is : (st mid : State) (a : Round) (object : Option This) (rs : Returns) (frame : List Typ) → mid ≡ exchanged st object rs frame → a ≡ round_lambda st
    → record a { variables = Some mid.ctx.variables } ≡ round_function st
round_is st mid a object rs frame m r = ap (λ (z : Round). record z { variables = Some mid.ctx.variables }) r
    ∙ ap (λ (z : State). record (round_lambda st) { variables = Some z.ctx.variables }) m
