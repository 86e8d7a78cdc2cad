-- The tables that are lent to the reader of a map text. Assumes nothing.
use Rattle.std.specs.Borrow.{MutBor, GName}
use Rattle.std.specs.Prelude.{ℕ, List, length}
use Rattle.listed.specs.Tables.{Tables, tables}
use Rattle.look.specs.declared.switch.SwitchLook.{SwitchLook}
use Rattle.maptext.specs.declared.tables.MapTables.{MapTables}

-- what the tables hold
abbrev pub tables_in : MapTables → Tables SwitchLook
tables_in t = tables t.looks.now t.starts.now t.firsts.now t.targets.now

-- which table is lent, and how long it is
abbrev pub place : {A : Type 0} → MutBor (List A) → GName × ℕ
place r = (r.ghost_name, length r.now)

-- which tables are lent, and how long they are
abbrev pub Places : Type 0
Places = (GName × ℕ) × (GName × ℕ) × (GName × ℕ) × (GName × ℕ)

abbrev pub places : MapTables → Places
places t = (place t.looks, place t.starts, place t.firsts, place t.targets)
