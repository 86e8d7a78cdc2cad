-- What a listed map means. Assumes nothing.
use Rattle.map.specs.Meaning.{Meaning, Bounded}
use Rattle.listed.specs.Tables.{Tables, tables, listed}
use Rattle.listed.specs.Bounds.{bounded}
use Rattle.listed.specs.declared.table.ListedMap.{ListedMap}

-- the tables that it reads
abbrev pub held : {L : Type 0} → ListedMap L → Tables L
held m = tables m.looks.now m.starts.now m.firsts.now m.targets.now

-- the map that its tables make
abbrev pub meant : {L : Type 0} → ListedMap L → Meaning L
meant m = listed m.fault (held m)

-- it keeps to the bounds of all maps
pub within_bounds : {L : Type 0} (m : ListedMap L) → Bounded (meant m)
within_bounds m = bounded m.fault (held m) m.judged
