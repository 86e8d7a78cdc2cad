-- What no line of a rule text changes. Assumes nothing.
use Rattle.std.specs.Borrow.{GName}
use Rattle.std.specs.Prelude.{ℕ, List}
use Rattle.stl.specs.Structures.{Structure}

-- the structure and the sheet that the session is lent, and the place of the session
pub record Fixed : Type 0 where
  pub on : Structure
  pub sheet : List ℕ
  pub place : GName
