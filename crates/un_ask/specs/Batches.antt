-- What a batch is made of.
use Rattle.std.specs.Prelude.{◌≤◌, nat_le, Bool, true, false, not, ◌&&◌, List, length, IsTrue}
use Rattle.std.specs.List.{list_any}
use Rattle.un_defs.specs.declared.edit.Edit.{Edit}
use Rattle.un_defs.specs.declared.edit.Edit.TheVariants as edit

-- the edit adds a rule
abbrev pub is_rule : Edit → Bool
is_rule (edit.Rule rule) = true
is_rule _ = false

-- 1 to 256 edits, none of which adds a rule
pub record IsBatch (edits : List Edit) : Type 0 where
  pub some : 1 ≤ length edits
  pub few : length edits ≤ 256
  pub no_rule : IsTrue (not (list_any is_rule edits))

-- the same as a test
abbrev pub is_batch : List Edit → Bool
is_batch edits = nat_le 1 (length edits) && nat_le (length edits) 256 && not (list_any is_rule edits)
