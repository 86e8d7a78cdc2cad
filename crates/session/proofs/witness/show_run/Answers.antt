use Rattle.std.proofs.Common.{refl, arith}
use Rattle.calls.specs.Answers.{none, short, shown}
use Rattle.lengths.proofs.Drawn.{table_falls, drawn_written}
use Rattle.lengths.proofs.Entries.{entry_length, entry_none, length_small}
use Rattle.map.proofs.Moves.{well_formed}
use Rattle.session.proofs.witness.show_run.Goals as goal

pub returns-then-length : goal.returns-then-length
returns-then-length g c =
    let fits = g.M.Map.bounded c.args.until.now.map.now in
    let filled = c.lengths-length.ensures.filled in
    record {
      found = none (entry_none (well_formed g.M.L.Look.sign _ fits) fits.size_fits c.requires.state (filled.here c.args.s c.requires.state) c.if-length.true);
      sought = record { sheet = refl; work = filled; run = refl };
    }

pub returns-then-run-length : goal.returns-then-run-length
returns-then-run-length g c =
    let filled = c.lengths-length.ensures.filled in
    record {
      found = short _ (entry_length (filled.here c.args.s c.requires.state) c.if-length.false) c.if-run-length.true;
      sought = record { sheet = refl; work = filled; run = refl };
    }

pub write_run-requires : goal.write_run-requires
write_run-requires g c =
    let fits = g.M.Map.bounded c.args.until.now.map.now in
    let formed = well_formed g.M.L.Look.sign _ fits in
    let filled = c.lengths-length.ensures.filled in
    record {
      state = c.requires.state;
      entries = omega (arith, filled.sized);
      some = length_small formed fits.size_fits c.requires.state (entry_length (filled.here c.args.s c.requires.state) c.if-length.false);
      room = c.if-run-length.false;
      falls = table_falls formed c.lengths-length.new.work filled.here;
    }

pub returns : goal.returns
returns g c =
    let fits = g.M.Map.bounded c.args.until.now.map.now in
    let formed = well_formed g.M.L.Look.sign _ fits in
    let filled = c.lengths-length.ensures.filled in
    let l = entry_length (filled.here c.args.s c.requires.state) c.if-length.false in
    record {
      found = shown _ l c.if-run-length.false;
      sought = record { sheet = refl; work = filled; run = drawn_written formed c.lengths-length.new.work filled.here c.requires.state (length_small formed fits.size_fits c.requires.state l) c.write_run.ensures };
    }
