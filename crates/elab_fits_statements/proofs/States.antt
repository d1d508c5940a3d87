-- States that come of others, and what fits in them still.
use Rattle.std.proofs.Common.{refl, ◌∙◌, Bool, List, Result, Ok, Err}
use Rattle.elab_rules.specs.cpp_lex.Tokens.{Lexeme}
use Rattle.elab_rules.specs.cpp_types.Typ.{Typ}
use Rattle.elab_rules.specs.cpp_tree.declared.faults.ElabFault.{ElabFault}
use Rattle.elab_rules.specs.cpp_tree.declared.roles.Role.{Role}
use Rattle.elab_rules.specs.cpp_tree.declared.roles.Role.TheVariants.{Value, Initialiser}
use Rattle.elab_rules.specs.cpp_tree.Trees.{Tree, Trees, none, more}
use Rattle.elab_rules.specs.Statements.{State, Lambdas}
use Rattle.elab_fits.specs.Standing.{On}
use Rattle.elab_fits_statements.specs.Anywhere.{FitsAnywhere, Serves, AllServe}
use Rattle.elab_fits_statements.specs.Forms.{IsCondition, IsSwitched}
use Rattle.elab_fits_statements.specs.Variables.{BuildsWhole}
use Rattle.elab_fits_statements.specs.Discipline.{StandsAs, Words, Goes, Discipline}

pub mapped : {A : Type 0} (P Q : A → Type 0) (x : Result A ElabFault) → On P x → ((a : A) → P a → Q a) → On Q x
mapped P Q (Ok a) h f = f a h
mapped P Q (Err e) h f = tt

pub stands_then : (a b c : State) → StandsAs a b → StandsAs b c → StandsAs a c
stands_then a b c h k = record {
  label = k.label ∙ h.label;
  breaks = k.breaks ∙ h.breaks;
  continues = k.continues ∙ h.continues;
  typ = k.typ ∙ h.typ;
  past = λ x. k.past (h.past x);
}

pub stands_still : (a : State) → StandsAs a a
stands_still a = record { label = refl; breaks = refl; continues = refl; typ = refl; past = λ x. x }

module _ (w : Words) (lams : Lambdas) (s : List Lexeme) (d : Discipline w lams s) where
  pub goes_still : (a : State) → w.Good a → Goes w a a
  goes_still a g = record { good = g; leads = d.stays a; stands = stands_still a }

  pub goes_then : (a b c : State) → Goes w a b → Goes w b c → Goes w a c
  goes_then a b c h k = record { good = k.good; leads = d.goes_on a b c h.leads k.leads; stands = stands_then a b c h.stands k.stands }

  pub fits_still : (a b : State) (role : Role) (e : Tree) → w.Good a → w.Leads a b → FitsAnywhere (w.at a) role e → FitsAnywhere (w.at b) role e
  fits_still a b role e g l h = λ p. d.still a b g l p role e (h p)

  pub serves_still : (a b : State) (q r : Bool) (role : Role) (e : Tree) → w.Good a → w.Leads a b → Serves (w.at a) q r role e → Serves (w.at b) q r role e
  serves_still a b q r role e g l h = record { fits = λ p x. d.still a b g l p role e (h.fits p x); kid = h.kid }

  pub all_still : (a b : State) (q r : Bool) (role : Role) (ts : Trees) → w.Good a → w.Leads a b → AllServe (w.at a) q r role ts → AllServe (w.at b) q r role ts
  all_still a b q r role none g l h = tt
  all_still a b q r role (more t ts) g l (h, hs) = (serves_still a b q r role t g l h, all_still a b q r role ts g l hs)

  pub condition_still : (a b : State) (e : Tree) → w.Good a → w.Leads a b → IsCondition (w.at a) e → IsCondition (w.at b) e
  condition_still a b e g l h = record { fits = fits_still a b Value e g l h.fits; truth = h.truth }

  pub switched_still : (a b : State) (e : Tree) → w.Good a → w.Leads a b → IsSwitched (w.at a) e → IsSwitched (w.at b) e
  switched_still a b e g l h = record { fits = fits_still a b Value e g l h.fits; category = h.category; promoted = h.promoted }

  pub builds_still : (a b : State) (t : Typ) (e : Tree) → w.Good a → w.Leads a b → BuildsWhole (w.at a) t e → BuildsWhole (w.at b) t e
  builds_still a b t e g l h = record {
    one = record { fits = λ p full. d.still a b g l p Initialiser e (h.one.fits p full); builds = h.one.builds };
    no_throw = h.no_throw;
  }
