-- Which maps a text can fail to make. Assumes nothing.
use Rattle.std.specs.Prelude.{◌≡◌, ℕ, ◌⊎◌, List, Err}
use Rattle.listed.specs.Tables.{Tables}
use Rattle.listed.specs.declared.fault.ListedFault.{ListedFault}
use Rattle.listed.specs.declared.fault.ListedFault.TheVariants.{TooManyLooks, WrongTarget}
use Rattle.look.specs.declared.switch.SwitchLook.{SwitchLook}
use Rattle.maptext.specs.MapTexts.{map_read}
use Rattle.reader.specs.Readings.{at_line}
use Rattle.reader.specs.declared.fault.Trouble.TheVariants.{Map as NoMap}

-- a map text whose map is refused has too many looks, or a wrong target: the firsts that it writes are right
abbrev pub TwoMapFaults : Type 0
TwoMapFaults =
    (text : List ℕ) (t : Tables SwitchLook) (line : ℕ) (fault : ListedFault) →
    (map_read text t).answer ≡ Err (at_line line (NoMap fault)) → (fault ≡ TooManyLooks) ⊎ ((k : ℕ) × (fault ≡ WrongTarget k))
