use Rattle.std.proofs.Common.{sym, ◌∙◌, arith}
use Rattle.listed.specs.Meant.{held}
use Rattle.listed.proofs.States.{there}
use Rattle.listed.proofs.table.ListedMap.list_of.Goals as goal

pub slice_bounds-result-count-2 : goal.slice_bounds-result-count-2
slice_bounds-result-count-2 g c =
    let m = c.args.self.now in
    let h = there m.fault (held m) c.args.s m.judged (sym c.has.ensures ∙ c.if-not-has.false) in
    omega arith

pub slice_bounds-result-start-2 : goal.slice_bounds-result-start-2
slice_bounds-result-start-2 g c =
    let m = c.args.self.now in
    let h = there m.fault (held m) c.args.s m.judged (sym c.has.ensures ∙ c.if-not-has.false) in
    omega arith

pub slice_bounds-result-end-2 : goal.slice_bounds-result-end-2
slice_bounds-result-end-2 g c =
    let m = c.args.self.now in
    let h = there m.fault (held m) c.args.s m.judged (sym c.has.ensures ∙ c.if-not-has.false) in
    omega arith
