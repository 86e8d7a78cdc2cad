-- The map that was read. Assumes nothing.
use Rattle.std.proofs.Common.{◌≡◌, ℕ, ◌+◌, List, take, None, Option, ap, ◌∙◌}
use Rattle.listed.specs.Tables.{Tables, tables, listed}
use Rattle.listed.specs.declared.fault.ListedFault.{ListedFault}
use Rattle.look.specs.declared.switch.SwitchLook.{SwitchLook}
use Rattle.maptext.specs.MapTexts.{part}
use Rattle.maptext.specs.declared.progress.MapSize.{MapSize}

-- a map over the parts that a text wrote
pub read_as : (n : MapSize) (t : Tables SwitchLook) (fault : Option ListedFault) (looks : List SwitchLook) (starts firsts targets : List ℕ) → fault ≡ None →
    looks ≡ take n.states t.looks → starts ≡ take n.states t.starts → firsts ≡ take (n.states + 1) t.firsts → targets ≡ take n.moves t.targets →
    listed fault (tables looks starts firsts targets) ≡ listed None (part n t)
read_as n t fault looks starts firsts targets e a b c d =
    ap (λ o. listed o (tables looks starts firsts targets)) e
    ∙ ap (λ xs. listed None (tables xs starts firsts targets)) a
    ∙ ap (λ xs. listed None (tables (take n.states t.looks) xs firsts targets)) b
    ∙ ap (λ xs. listed None (tables (take n.states t.looks) (take n.states t.starts) xs targets)) c
    ∙ ap (λ xs. listed None (tables (take n.states t.looks) (take n.states t.starts) (take (n.states + 1) t.firsts) xs)) d
