-- The reader of a map text, by how far it came, and by the tables that it writes. Assumes nothing.
use Rattle.std.specs.Borrow.{GName}
use Rattle.maptext.specs.Lent.{tables_in, Places, places}
use Rattle.maptext.specs.Steps.{Reading, reading}
use Rattle.maptext.specs.declared.step.MapReader.{MapReader}

-- a text half read
abbrev pub reading_of : MapReader → Reading
reading_of x = reading x.at (tables_in x.tables.now)

-- what no line changes
abbrev pub Names : Type 0
Names = GName × Places

abbrev pub names : MapReader → Names
names x = (x.tables.ghost_name, places x.tables.now)
