-- What is written of a map and a rule text, by what was read. Assumes nothing.
use Rattle.std.proofs.Common.{◌≡◌, ℕ, ◌<◌, List, length, Some, None, Ok, Err, Option, Result, sym, refl, ap, ◌∙◌, subst, arith}
use Rattle.std.proofs.lemmas.Bool.{ne_eqb, ltb-true}
use Rattle.calls.specs.Answers.{State}
use Rattle.calls.specs.Opening.{fresh, open_questions, OpenDecided, Opens}
use Rattle.calls.specs.declared.fault.SessionFault.{SessionFault}
use Rattle.listed.specs.Tables.{Tables}
use Rattle.look.specs.declared.switch.SwitchLook.{SwitchLook}
use Rattle.map.proofs.Asked.{answered}
use Rattle.map.specs.Questions.{first_no}
use Rattle.maptext.specs.MapTexts.{map_read}
use Rattle.maptext.specs.declared.progress.MapSize.{MapSize}
use Rattle.reader.specs.Readings.{Outcome}
use Rattle.reader.specs.declared.fault.TextFault.{TextFault}
use Rattle.ruletext.specs.RuleTexts.{rule_answer, rule_read}
use Rattle.stl.specs.Structures.{Structure}
use Rattle.checking.specs.Told.{line_of, Told}
use Rattle.checking.specs.declared.fault.FaultLine.{FaultLine}
use Rattle.checking.specs.Outputs.{fault_text, ReportByLogic, AfterRules, AfterMap, OfMap, blank, structure_read, AfterMapText, Output, Wrote}

-- a session that was opened is fresh, on a map with a state
pub opened : (k : Structure) (before after : List ℕ) (st : State) → Opens k before (Ok st) after → (st ≡ fresh) × (0 < k.size)
opened k before after st d = by (first_no (open_questions k (length before))) refl d
  where
    by : (o : Option SessionFault) → first_no (open_questions k (length before)) ≡ o → OpenDecided k before (Ok st) after o → (st ≡ fresh) × (0 < k.size)
    by None q d = let e = d.0 in let s : st ≡ fresh = cc in (s, ltb-true _ _ (answered (open_questions k (length before)) q).0)
    by (Some f) q d = let e = d.0 in grind arith

-- what the reader answered is how its reading ended
ended_by : (o : Option TextFault) (fault : TextFault) → Err fault ≡ rule_answer o → o ≡ Some fault
ended_by None fault e = grind arith
ended_by (Some f) fault e = let q : f ≡ fault = cc in ap Some q

ended_well : (o : Option TextFault) (x : Unit {0}) → Ok x ≡ rule_answer o → o ≡ None
ended_well None x e = refl
ended_well (Some f) x e = grind arith

module _ (k : Structure) (rules : List ℕ) (some : 0 < k.size) where
  -- by the outcome of the rule text
  of_map : (bytes : List ℕ) → AfterRules k (rule_read k 1024 fresh rules).left.rows (rule_read k 1024 fresh rules).fault bytes → OfMap k rules bytes
  of_map bytes p = subst (λ b. AfterMap k b rules bytes) (sym (ne_eqb k.size 0 (λ e. omega arith))) p

  module _ (words : ℕ) (st : State) (long : words ≡ 1024) (new : st ≡ fresh) where
    same_outcome : rule_read k words st rules ≡ rule_read k 1024 fresh rules
    same_outcome = ap (λ w. rule_read k w st rules) long ∙ ap (λ s. rule_read k 1024 s rules) new

    -- the rule text is at fault
    pub told_fault : (fault : TextFault) → Err fault ≡ rule_answer (rule_read k words st rules).fault → OfMap k rules (fault_text 82 fault)
    told_fault fault e =
        let o = ap (λ (x : Outcome State). x.fault) (sym same_outcome) ∙ ended_by (rule_read k words st rules).fault fault e in
        of_map (fault_text 82 fault) (subst (λ x. AfterRules k (rule_read k 1024 fresh rules).left.rows x (fault_text 82 fault)) (sym o) refl)

    -- all its rows are reported
    pub told_report : (x : Unit {0}) (kept : State) → Ok x ≡ rule_answer (rule_read k words st rules).fault → kept ≡ (rule_read k words st rules).left → (bytes : List ℕ) → ReportByLogic k kept.rows bytes → OfMap k rules bytes
    told_report x kept e s bytes p =
        let o = ap (λ (y : Outcome State). y.fault) (sym same_outcome) ∙ ended_well (rule_read k words st rules).fault x e in
        let rows = ap (λ (y : State). y.rows) (s ∙ ap (λ (y : Outcome State). y.left) same_outcome) in
        of_map bytes (subst (λ f. AfterRules k (rule_read k 1024 fresh rules).left.rows f bytes) (sym o) (subst (λ rs. ReportByLogic k rs bytes) rows p))

-- bytes that are right by P are right by Q
pub wrote : {P Q : List ℕ → Type 0} {before after : List ℕ} {n : ℕ} → ((bytes : List ℕ) → P bytes → Q bytes) → Wrote P before after n → Wrote Q before after n
wrote f w = record { bytes = w.bytes; right = f w.bytes w.right; front = w.front }

pub told : {P Q : List ℕ → Type 0} (before after : List ℕ) (r : Result ℕ FaultLine) → ((bytes : List ℕ) → P bytes → Q bytes) → Told P before after r → Told Q before after r
told before after (Ok n) f w = wrote f w
told before after (Err line) f w = (f (line_of line) w.0, w.1)

pub read_well : (map rules : List ℕ) (size : MapSize) (t : Tables SwitchLook) → Ok size ≡ (map_read map blank).answer → t ≡ (map_read map blank).held → (bytes : List ℕ) → OfMap (structure_read size t) rules bytes → Output map rules bytes
read_well map rules size t e f bytes p = subst (λ a. AfterMapText a (map_read map blank).held rules bytes) e (subst (λ u. AfterMapText (Ok size) u rules bytes) f p)
