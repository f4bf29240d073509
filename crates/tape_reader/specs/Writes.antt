-- Text written by a `Text`.
use Rattle.std.specs.Prelude.{ℕ, ◌+◌, ◌≤◌, ◌≡◌, List, length}
use Rattle.tape_machine.specs.Text.{Put}
use Rattle.tape_reader.specs.declared.text.Text.{Text}

-- there is room for a text
pub record HasRoom (text : List ℕ) (t : Text) : Type 0 where
  pub room : t.at + length text ≤ length t.out.now

-- a text is written behind what was written before, into the same slice
pub record Writes (text : List ℕ) (old new : Text) : Type 0 where
  pub same : old.out.ghost_name ≡ new.out.ghost_name
  pub put : Put old.out.now old.at text new.out.now new.at
