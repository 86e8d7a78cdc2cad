use Rattle.saving.proofs.MapBack.{map_reads_back}
use Rattle.saving.proofs.maps.write_map.Goals as goal

pub returns-clause-reads_back : goal.returns-clause-reads_back
returns-clause-reads_back g c = map_reads_back (g.M.Map.meaning c.args.map.now) (g.M.Map.bounded c.args.map.now)
