-- What a state that is there shows. Assumes nothing.
use Rattle.std.proofs.Common.{◌≡◌, ℕ, ◌^◌, ◌<◌, true, ltb, List, Some, None, Option, sym, ap, ◌∙◌, arith}
use lib.Bits.{bit_and}
use Rattle.std.proofs.lemmas.Bool.{cond-true, ltb-true}
use Rattle.look.specs.declared.switch.SwitchLook.{SwitchLook}
use Rattle.switches.specs.Switched.{look_of, switched}
use Rattle.switches.specs.declared.command.Command.{Command}
use Rattle.switches.specs.declared.fault.SwitchFault.{SwitchFault}
use Rattle.switches.specs.declared.panel.Panel.{Panel}
use Rattle.switches.proofs.Meets.{common}

abbrev marked : ℕ → SwitchLook
marked n = record { marks = n }

pub look_there : (fault : Option SwitchFault) (p : Panel) (commands : List Command) (s : ℕ) → s < 2 ^ 32 → ltb s (switched fault p commands).size ≡ true → (switched fault p commands).look s ≡ Some (marked (bit_and s p.visible))
look_there None p commands s f h = cond-true (ltb s (2 ^ p.bits)) (Some (look_of p s)) None h ∙ ap (λ n. Some (marked n)) (sym (common s p.visible f))
look_there (Some e) p commands s f h = let l = ltb-true s 0 h in absurd (omega arith)
