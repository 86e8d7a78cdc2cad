-- Commands: where one is open, and where it leads. Assumes nothing.
use Rattle.std.specs.Prelude.{ℕ, Bool, not, ◌&&◌, ◌||◌, List, map, filter}
use Rattle.look.specs.Bits.{bit_on}
use Rattle.switches.specs.Masks.{all_on, all_off, set_of}
use Rattle.switches.specs.declared.command.Command.{Command}

-- open at s: all switches that it needs on are on, and all that it needs off are off
abbrev pub is_open : Command → ℕ → Bool
is_open c s = all_on c.need_on s && all_off c.need_off s

-- where it leads: s with its turn-off switches cleared and then its turn-on switches set
abbrev pub target_of : Command → ℕ → ℕ
target_of c s = set_of (λ j. (bit_on s j && not (bit_on c.turn_off j)) || bit_on c.turn_on j) 32

-- the targets of the open commands, in command order
abbrev pub targets_of : List Command → ℕ → List ℕ
targets_of commands s = map (λ c. target_of c s) (filter (λ c. is_open c s) commands)
