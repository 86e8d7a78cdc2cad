-- A report that was saved. Assumes nothing.
use Rattle.std.proofs.Common.{◌≡◌, ℕ, ◌≤◌, List, length, take, Ok, Err, Result, sym, ◌∙◌, subst, arith}
use Rattle.std.proofs.lemmas.List.{length-take-le, get_or-take}
use Rattle.std.proofs.lemmas.Bool.{cond-true, le-leb}
use Rattle.calls.specs.Answers.{State}
use Rattle.map.proofs.Asked.{passes}
use Rattle.stl.specs.Structures.{Structure}
use Rattle.report.specs.Reports.{Reported, Given, questions, Decided, Reports, Fits}
use Rattle.report.specs.Results.{Right, nothing, Collected}
use Rattle.report.specs.Texts.{report_text}
use Rattle.report.specs.declared.fault.ReportFault.{ReportFault}
use Rattle.report.specs.declared.fault.ReportFault.TheVariants.{NoRoom}
use Rattle.report.specs.declared.found.Found.{Found}
use Rattle.report.proofs.Lengths.{finds_short}

module _ (k : Structure) (st : State) (sheet b a : List ℕ) (x : Result ℕ ReportFault) where
  -- the results that were collected, reported
  pub collected : (n : ℕ) (all : List Found) → n ≡ st.marked → n ≤ length all → Collected k st.rows sheet st.marked all → Reported (report_text (take n all)) b a x → Given k st sheet b a x
  collected n all e l p q = record {
    finds = take n all;
    right = record {
      each = length-take-le n all l ∙ e;
      right = λ r i. subst (Right k st.rows sheet r) (sym (get_or-take n all r nothing (omega arith))) (p r i);
    };
    reported = q;
  }

  -- are the report
  pub given : k.size ≤ length sheet → Given k st sheet b a x → Reports k st sheet b a x
  given h p = subst (Decided k st sheet b a x) (sym (passes (questions k (length sheet)) (le-leb _ _ h, tt))) p

  -- for which 1,024 bytes are enough
  pub fits : k.size ≤ 4096 → st.marked ≤ 64 → Given k st sheet b a x → Fits b x
  fits h l p long e =
      let short = finds_short k st sheet p.finds h l p.right in
      let there = cond-true _ (Ok (length (report_text p.finds))) (Err NoRoom) (le-leb (length (report_text p.finds)) (length b) (omega arith)) in
      let said = p.reported.answer in
      grind arith
