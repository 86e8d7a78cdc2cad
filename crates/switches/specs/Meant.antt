-- What a switch map means. Assumes nothing.
use Rattle.look.specs.declared.switch.SwitchLook.{SwitchLook}
use Rattle.map.specs.Meaning.{Meaning, Bounded}
use Rattle.switches.specs.Bounds.{bounded}
use Rattle.switches.specs.Switched.{switched}
use Rattle.switches.specs.declared.made.SwitchMap.{SwitchMap}

-- the map that its panel and commands make
abbrev pub meant : SwitchMap → Meaning SwitchLook
meant m = switched m.fault m.panel m.commands.now

-- it keeps to the bounds of all maps
pub within_bounds : (m : SwitchMap) → Bounded (meant m)
within_bounds m = bounded m.fault m.panel m.commands.now m.sized m.few m.masked
