-- What is left to write where the waiting objects of an owner end: they are destroyed, and then the value is given.
use Rattle.std.specs.Prelude.{ℕ, Bool, true, List, [], ◌∷◌, ◌++◌}
use Rattle.cpp_tree.specs.cpp_types.declared.classes.At.{At}
use Rattle.low_code.specs.declared.scopes.Owner.{Owner}
use Rattle.low_code.specs.declared.scopes.Owner.TheVariants.{Block as OfBlock, Call as OfCall, Full as OfFull}
use Rattle.low_code.specs.declared.scopes.ScopeKind.{ScopeKind}
use Rattle.src_mean.specs.Frames.{of_block, of_call}
use Rattle.symbolic_source.specs.Terms.{Term, number}
use Rattle.symbolic_source.specs.Frames.{Frame, Gives, Full, Scope, Cleans, Waiting}
use Rattle.symbolic_source.specs.Steps.{first_word}
use Rattle.unwind_lower.specs.declared.items.Item.{Item}
use Rattle.unwind_lower.specs.declared.items.Item.TheVariants.{Close}
use Rattle.unwind_lower.specs.Settings.{Setting}
use Rattle.lowered_frames.specs.Lists.{behind, firsts, more_by}
use Rattle.lowered_frames.specs.Modes.{Mode, top, doubled, tripled, second, gone, nought}
use Rattle.lowered_frames.specs.Chains.{before_mark, behind_mark, waitings, words_of_all}

-- the value that is kept while objects are destroyed: a word on the stack, a term that lies nowhere, or 0
abbrev pub kept_value : Mode → List Term → Term
kept_value nought ts = number 0
kept_value top ts = first_word ts
kept_value doubled ts = first_word ts
kept_value tripled ts = first_word ts
kept_value second ts = first_word ts
kept_value gone ts = first_word ts

abbrev pub kept_words : Mode → List Term → List Term
kept_words top ts = first_word ts ∷ []
kept_words doubled ts = []
kept_words tripled ts = []
kept_words second ts = []
kept_words gone ts = []
kept_words nought ts = []

abbrev pub kept_count : Mode → ℕ
kept_count nought = 0
kept_count top = 1
kept_count doubled = 1
kept_count tripled = 1
kept_count second = 1
kept_count gone = 1

pub data Closing (g : Setting) : Mode → List Item → Mode → List Item → Type 0 where
  close_block : {m : Mode} {items : List Item} (always : Bool) (at : At) → Closing g m (Close OfBlock at ∷ items) m items
  close_call : {m : Mode} {items : List Item} (at : At) → Closing g m (Close OfCall at ∷ items) m items
  close_full : {m : Mode} {items : List Item} (at : At) → Closing g m (Close OfFull at ∷ items) m items
  -- the objects that are left are destroyed, and a value is kept
  cleaning : {m : Mode} {items : List Item} (owner : Owner) (at : At) → Closing g gone (Close owner at ∷ items) m items

module _ (g : Setting) where
  abbrev pub owner_of : {m n : Mode} {from to : List Item} → Closing g m from n to → Owner
  owner_of (close_block always at) = OfBlock
  owner_of (close_call at) = OfCall
  owner_of (close_full at) = OfFull
  owner_of (cleaning owner at) = owner

  -- the frames, where these temporaries wait behind it
  abbrev pub closing_frames : {m n : Mode} {from to : List Item} → Closing g m from n to → List Waiting → List ScopeKind → List Term → List Frame
  closing_frames (close_block always at) outer chain ts = Scope of_block always (waitings g (before_mark OfBlock chain) ts) ∷ []
  closing_frames (close_call at) outer chain ts = Scope of_call true (waitings g (before_mark OfCall chain) ts) ∷ []
  closing_frames (close_full at) outer chain ts = Full outer ∷ []
  closing_frames (cleaning {m} owner at) outer chain ts =
      Cleans (waitings g (before_mark owner chain) (behind (kept_count m) ts)) ∷ Gives (kept_value m ts) ∷ []

  abbrev pub closing_words : {m n : Mode} {from to : List Item} → Closing g m from n to → List ScopeKind → List Term → List Term
  closing_words (close_block always at) chain ts = firsts (words_of_all (before_mark OfBlock chain)) ts
  closing_words (close_call at) chain ts = firsts (words_of_all (before_mark OfCall chain)) ts
  closing_words (close_full at) chain ts = firsts (words_of_all (before_mark OfFull chain)) ts
  closing_words (cleaning {m} owner at) chain ts =
      kept_words m ts ++ firsts (words_of_all (before_mark owner chain)) (behind (kept_count m) ts)

  abbrev pub closing_count : {m n : Mode} {from to : List Item} → Closing g m from n to → List ScopeKind → ℕ
  closing_count (close_block always at) chain = words_of_all (before_mark OfBlock chain)
  closing_count (close_call at) chain = words_of_all (before_mark OfCall chain)
  closing_count (close_full at) chain = words_of_all (before_mark OfFull chain)
  closing_count (cleaning {m} owner at) chain = more_by (kept_count m) (words_of_all (before_mark owner chain))

  -- the scopes around what comes behind
  abbrev pub closing_scopes : {m n : Mode} {from to : List Item} → Closing g m from n to → List ScopeKind → List ScopeKind
  closing_scopes (close_block always at) chain = behind_mark OfBlock chain
  closing_scopes (close_call at) chain = behind_mark OfCall chain
  closing_scopes (close_full at) chain = behind_mark OfFull chain
  closing_scopes (cleaning owner at) chain = behind_mark owner chain

  -- the temporaries of the full-expression at hand, where these are those behind it
  abbrev pub closing_temporaries : {m n : Mode} {from to : List Item} → Closing g m from n to → List Waiting → List ScopeKind → List Term → List Waiting
  closing_temporaries (close_full at) outer chain ts = waitings g (before_mark OfFull chain) ts
  closing_temporaries (close_block always at) outer chain ts = outer
  closing_temporaries (close_call at) outer chain ts = outer
  closing_temporaries (cleaning owner at) outer chain ts = outer
