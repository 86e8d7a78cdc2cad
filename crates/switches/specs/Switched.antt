-- A panel of switches with commands: when they make a map, and which map they make. Assumes nothing.
use Rattle.std.specs.Prelude.{ℕ, ◌^◌, Bool, false, cond, ◌&&◌, List, [], ◌∷◌, length, Some, None, Option, nat_le, nat_lt}
use Rattle.std.specs.List.{list_all}
use Rattle.look.specs.declared.switch.SwitchLook.{SwitchLook}
use Rattle.map.specs.Meaning.{Meaning}
use Rattle.map.specs.Questions.{Question, ask}
use Rattle.look.specs.Bits.{bit_on}
use Rattle.switches.specs.Commands.{targets_of}
use Rattle.switches.specs.Masks.{within, all_on, all_off, set_of}
use Rattle.switches.specs.declared.command.Command.{Command}
use Rattle.switches.specs.declared.fault.SwitchFault.{SwitchFault}
use Rattle.switches.specs.declared.fault.SwitchFault.TheVariants.{WrongSwitchCount, TooManyCommands, WrongMask}
use Rattle.switches.specs.declared.panel.Panel.{Panel}

-- no mask of the command has a switch from n on, and no switch is turned both on and off
abbrev pub right_command : ℕ → Command → Bool
right_command n c =
    ((within n c.need_on && within n c.need_off) && (within n c.turn_on && within n c.turn_off)) && all_off c.turn_on c.turn_off

abbrev pub right_commands : ℕ → List Command → Bool
right_commands n commands = list_all (right_command n) commands

-- no mask of the panel has a switch from n on
abbrev pub right_panel : Panel → Bool
right_panel p = within p.bits p.visible && (within p.bits p.start_on && within p.bits p.start_off)

-- all masks are as required
abbrev pub right_masks : Panel → List Command → Bool
right_masks p commands = right_panel p && right_commands p.bits commands

-- what is asked before they make a map
abbrev pub questions : Panel → List Command → List (Question SwitchFault)
questions p commands =
    ask (nat_le 1 p.bits && nat_le p.bits 12) WrongSwitchCount ∷
    (ask (nat_le (length commands) 32) TooManyCommands ∷
    (ask (right_masks p commands) WrongMask ∷ []))

-- the switches of s that show
abbrev pub look_of : Panel → ℕ → SwitchLook
look_of p s = record { marks = set_of (λ j. bit_on s j && bit_on p.visible j) 32 }

-- the map that they make: a state for each setting of the switches; refused ones make the map of size 0
abbrev pub switched : Option SwitchFault → Panel → List Command → Meaning SwitchLook
switched None p commands = record {
  size = 2 ^ p.bits;
  start = λ s. nat_lt s (2 ^ p.bits) && (all_on p.start_on s && all_off p.start_off s);
  look = λ s. cond (nat_lt s (2 ^ p.bits)) (Some (look_of p s)) None;
  list = λ s. cond (nat_lt s (2 ^ p.bits)) (targets_of commands s) [];
}
switched (Some fault) p commands = record { size = 0; start = λ _. false; look = λ _. None; list = λ _. [] }
