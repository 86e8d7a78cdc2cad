-- Where a line may stand. Assumes nothing.
use Rattle.std.specs.Prelude.{Some, None, Option}
use Rattle.text.specs.declared.line.Line.{Line}
use Rattle.text.specs.declared.line.Line.TheVariants.{Map, State, Target, Rule}
use Rattle.reader.specs.declared.place.Place.{Place}
use Rattle.reader.specs.declared.place.Place.TheVariants.{BeforeMap, AfterMap, InStates, InRules}

-- where the reader stands after a line, if it may stand here: M first and nowhere else, S after M, T after an S; a rule text holds
-- R alone, a map text none
abbrev pub stands : Place → Line → Option Place
stands BeforeMap (Map size) = Some AfterMap
stands BeforeMap (State look start) = None
stands BeforeMap (Target target) = None
stands BeforeMap (Rule row) = None
stands AfterMap (Map size) = None
stands AfterMap (State look start) = Some InStates
stands AfterMap (Target target) = None
stands AfterMap (Rule row) = None
stands InStates (Map size) = None
stands InStates (State look start) = Some InStates
stands InStates (Target target) = Some InStates
stands InStates (Rule row) = None
stands InRules (Map size) = None
stands InRules (State look start) = None
stands InRules (Target target) = None
stands InRules (Rule row) = Some InRules
