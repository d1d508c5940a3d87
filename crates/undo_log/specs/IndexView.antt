-- What is seen of an index: the words that it lists.
use Rattle.std.specs.Prelude.{ℕ, ◌<◌, List, vec_len, vec_capacity}
use Rattle.std.specs.HashMap.{spare}
use Rattle.undo_log.specs.declared.index.Index.{Index}
use Rattle.undo_log.specs.Index.{words_in}

abbrev pub words_listed : Index → List ℕ
words_listed index = words_in index.entries.items

-- there is room for one word more
pub record CanAdd (index : Index) : Type 0 where
  pub entries : vec_len index.entries < vec_capacity index.entries
  pub positions : 0 < spare index.newest
