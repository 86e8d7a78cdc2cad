-- The reach that is given once its questions are answered. Assumes nothing.
use Rattle.std.proofs.Common.{◌≡◌, ℕ, ◌<◌, ◌≤◌, false, List, length, Ok, sym, refl, subst, arith}
use Rattle.std.proofs.lemmas.Bool.{lt-ltb, le-leb}
use Rattle.calls.specs.Answers.{State}
use Rattle.lengths.specs.Sheets.{by_sheet}
use Rattle.map.proofs.Asked.{passes}
use Rattle.stl.proofs.Rows.{reach_below}
use Rattle.stl.specs.Rows.{is_until, row_at, Reach}
use Rattle.stl.specs.Structures.{Structure, WellFormed}
use Rattle.stl.specs.declared.row.Row.{Row}
use Rattle.stl.specs.declared.row.Row.TheVariants.{True, Sign, Not, Or, Next, Until}
use Rattle.session.specs.Reaches.{reach_questions, ReachDecided, ReachAnswers}

-- the reach of a row that is no until
pub no_reach : (k : Structure) (V : ℕ → ℕ → Type 0) (row : Row) → is_until row ≡ false → Reach k V row 0
no_reach k V True e = refl
no_reach k V (Sign n) e = refl
no_reach k V (Not a) e = refl
no_reach k V (Or a b) e = refl
no_reach k V (Next a) e = refl
no_reach k V (Until a b) e = let z : ◌≡◌ {A = ℕ} 0 1 = cc in absurd (omega arith)

-- the reach of row r
pub reach_given : {k : Structure} (st : State) (sheet : List ℕ) (r n : ℕ) → WellFormed k → k.size ≤ length sheet → r < st.marked → Reach k (by_sheet sheet) (row_at st.rows r) n → ReachAnswers k st sheet r (Ok n)
reach_given {k = k} st sheet r n formed h i p =
    subst (ReachDecided k st sheet r (Ok n)) (sym (passes (reach_questions k st (length sheet) r) (le-leb _ _ h, (lt-ltb _ _ i, tt))))
    (record { reach = n; given = refl; right = p; below = reach_below k (by_sheet sheet) formed _ n p })
