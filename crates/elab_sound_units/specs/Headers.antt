-- Headers of functions, and what is read of a class, with sound types.
use Rattle.std.specs.Prelude.{◌≡◌, ℕ, true, List, Some}
use Rattle.std.specs.List.{list_all}
use Rattle.elab_rules.specs.cpp_types.Class.{Class}
use Rattle.elab_rules.specs.cpp_lex.Tokens.{Lexeme}
use Rattle.elab_rules.specs.Functions.{Header}
use Rattle.elab_rules.specs.Classes.{Members, Method}
use Rattle.elab_sound_types.specs.Types.{is_class, is_sound_signature}
use Rattle.elab_sound_types.specs.Contexts.{are_spelled, is_sound_parameter, is_sound_member}
use Rattle.elab_sound_types.specs.States.{IsSoundState}

pub record IsSoundHeader (classes : List Class) (h : Header) : Type 0 where
  -- it takes values, objects of classes and references, and gives one of these or nothing
  pub signature : is_sound_signature classes h.signature ≡ true
  -- so do its parameters as the body knows them
  pub params : list_all (is_sound_parameter classes) h.params ≡ true

-- the header of a member of a class
pub record IsOwnHeader (classes : List Class) (n : ℕ) (h : Header) : Type 0 where
  pub sound : IsSoundHeader classes h
  pub class : h.class ≡ Some n

-- a member function with what stands behind its declarator, where its class is this one
pub record IsRead (s : List Lexeme) (classes : List Class) (n : ℕ) (m : Method) : Type 0 where
  pub header : IsOwnHeader classes n m.header
  pub rest : are_spelled s m.rest ≡ true

-- one that is defined outside of its class
pub record IsOutside (s : List Lexeme) (classes : List Class) (m : Method) : Type 0 where
  pub number : ℕ
  pub class : is_class classes number ≡ true
  pub read : IsRead s classes number m

-- what was read of a class up to its brace, where there are these classes
pub record IsSoundClass (classes : List Class) (r : Members) : Type 0 where
  pub state : IsSoundState r.state
  -- no class is added there
  pub same : r.state.ctx.classes ≡ classes
  -- its data members are objects
  pub members : list_all (is_sound_member classes) r.members ≡ true
