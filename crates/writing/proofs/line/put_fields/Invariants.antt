use Rattle.std.proofs.Common.{[], ◌∷◌, ◌++◌, map, Result}
use Rattle.text.specs.Numbers.{written}
use Rattle.text.specs.Written.{tabbed}
use Rattle.writing.specs.Sinks.{Put}
use Rattle.writing.specs.declared.fault.SaveFault.{SaveFault}
use Rattle.writing.proofs.Fields.{fields_from}
use Rattle.writing.proofs.line.put_fields.Given as goal

-- what comes of the rest comes of the whole line
abbrev pub invariant-loop-n : goal.invariant-loop-n
invariant-loop-n g l =
    let S = g.S.Sink in
    (r : Result (Unit {0}) SaveFault) (u : g.row.S.Denot) →
    Put S.room S.puts S.keeps l.sink (fields_from (10 ∷ []) l.numbers l.n-index) r u →
    Put S.room S.puts S.keeps l.fn.sink (l.front ++ (tabbed (map written l.numbers) ++ (10 ∷ []))) r u
