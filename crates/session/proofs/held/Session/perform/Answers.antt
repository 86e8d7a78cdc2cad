use Rattle.calls.proofs.OneMap.{one_map, after_any}
use Rattle.map.proofs.Moves.{well_formed}
use Rattle.session.proofs.held.Session.perform.Goals as goal

pub returns : goal.returns
returns g c = record {
  gives = c.make.ensures;
  logic = after_any _ (well_formed g.M.L.Look.sign _ (g.M.Map.bounded c.args.map.now)) _ c.make.ensures;
  always = one_map;
}
