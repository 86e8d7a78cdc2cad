-- What a report says is what the logic says. Assumes nothing.
use Rattle.std.proofs.Common.{◌≡◌, ℕ, ◌<◌, leb, List, ◌++◌, length, get_or, drop, Ok, Err, Result, sym, refl, ap, ◌∙◌, subst, ⊎_elim, arith}
use Rattle.std.proofs.lemmas.Bool.{cond-true, cond-false, cases_Bool, le-leb}
use Rattle.calls.proofs.Carried.{then}
use Rattle.calls.proofs.Itself.{same, itself}
use Rattle.calls.proofs.Questions.{for_operands}
use Rattle.calls.specs.Answers.{State}
use Rattle.calls.specs.Histories.{Kept}
use Rattle.lengths.specs.Sheets.{by_sheet}
use Rattle.map.proofs.Asked.{passes}
use Rattle.report.specs.Reports.{Reported, Given, questions, Decided, Reports}
use Rattle.report.specs.Results.{Right, nothing}
use Rattle.report.specs.Texts.{report_text}
use Rattle.report.specs.declared.fault.ReportFault.{ReportFault}
use Rattle.report.specs.declared.fault.ReportFault.TheVariants.{NoRoom}
use Rattle.report.specs.declared.found.Found.{Found}
use Rattle.stl.proofs.FoldLengths.{greatest_forth}
use Rattle.stl.specs.Rows.{row_at, by_logic}
use Rattle.stl.specs.Structures.{Structure, WellFormed}
use Rattle.stl.specs.Until.{Greatest}
use Rattle.stl.specs.declared.row.Row.{Row}
use Rattle.checking.specs.Marks.{AllMarked}
use Rattle.checking.specs.Outputs.{SaysLogic, ReportByLogic, Fronted, Wrote}

module _ (k : Structure) (well : WellFormed k) (st : State) (sheet : List ℕ) (kept : Kept k st sheet) where
  -- of one row
  says : (r : ℕ) (found : Found) → r < st.marked → Right k st.rows sheet r found → SaysLogic k st.rows r found
  says r found h w = record {
    verdict = then w.verdict (
      (λ f s e. (kept.faithful r s h (well.starts s e)).0 (f s e)),
      (λ f s e. (kept.faithful r s h (well.starts s e)).1 (f s e)),
    );
    reach =
        for_operands (row_at st.rows r) r
        (λ x y. Greatest k (by_sheet sheet x) (by_sheet sheet y) found.reach)
        (λ x y. Greatest k (by_logic k st.rows x) (by_logic k st.rows y) found.reach)
        (found.reach ≡ 0) (kept.earlier r (omega (arith, kept.counted)))
        (λ x y i j g. greatest_forth k k same well (itself k) (by_sheet sheet x) (by_sheet sheet y) (by_logic k st.rows x) (by_logic k st.rows y)
        (λ s l. kept.faithful x s (omega arith) l) (λ s l. kept.faithful y s (omega arith) l) found.reach g)
        w.reach;
  }

-- a text that was reported stands at the front
fronted : (text before after : List ℕ) (n : ℕ) → Reported text before after (Ok n) → Fronted text before after n
fronted text before after n p = ⊎_elim
    (λ t.
    let e = p.answer ∙ cond-true (leb (length text) (length before)) (Ok (length text)) (Err NoRoom) t in
    let q : n ≡ length text = cc in
    record { long = sym q; holds = p.bytes ∙ cond-true (leb (length text) (length before)) (text ++ drop (length text) before) before t ∙ ap (λ m. text ++ drop m before) (sym q) })
    (λ f. let e = p.answer ∙ cond-false (leb (length text) (length before)) (Ok (length text)) (Err NoRoom) f in grind arith)
    (cases_Bool (leb (length text) (length before)))

module _ (k : Structure) (well : WellFormed k) (rows : List Row) (st : State) (sheet before after : List ℕ) (all : AllMarked k rows st sheet) where
  given : (x : Result ℕ ReportFault) → Reports k st sheet before after x → Given k st sheet before after x
  given x p = subst (Decided k st sheet before after x) (passes (questions k (length sheet)) (le-leb _ _ all.kept.fits, tt)) p

  -- the report of all rows
  pub by_logic_told : (n : ℕ) → Reports k st sheet before after (Ok n) → Wrote (ReportByLogic k rows) before after n
  by_logic_told n p =
      let w = given (Ok n) p in
      record {
        bytes = report_text w.finds;
        right = subst (λ rs. ReportByLogic k rs (report_text w.finds)) all.same (record {
          finds = w.finds;
          each = w.right.each ∙ all.all ∙ ap length (sym all.same);
          right = λ r h.
              let l : r < st.marked = omega (arith, all.all, ap length all.same) in
              says k well st sheet all.kept r (get_or w.finds r nothing) l (w.right.right r l);
          text = refl;
        });
        front = fronted (report_text w.finds) before after n w.reported;
      }
