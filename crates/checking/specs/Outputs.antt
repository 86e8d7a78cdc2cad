-- What the checker writes of a map text and a rule text. Assumes nothing.
use Rattle.std.specs.Prelude.{◌≡◌, ℕ, ◌<◌, Bool, true, false, cond, List, [], ◌∷◌, ◌++◌, length, drop, replicate, Some, None, Ok, Err, codes, Option, Result, ◌==◌, nat_le, slice_index_or, ◌↔◌}
use Rattle.calls.specs.Opening.{fresh}
use Rattle.listed.specs.Tables.{Tables, tables, listed}
use Rattle.look.specs.Switch.{switch_sign}
use Rattle.look.specs.declared.switch.SwitchLook.{SwitchLook}
use Rattle.map.specs.Meaning.{structure}
use Rattle.maptext.specs.MapTexts.{map_read, part}
use Rattle.maptext.specs.declared.progress.MapSize.{MapSize}
use Rattle.reader.specs.Faults.{number_of, field_of}
use Rattle.reader.specs.declared.fault.TextFault.{TextFault}
use Rattle.report.specs.Results.{nothing}
use Rattle.report.specs.Texts.{report_text}
use Rattle.report.specs.declared.found.Found.{Found}
use Rattle.ruletext.specs.RuleTexts.{rule_read}
use Rattle.stl.specs.Rows.{row_at, Reach, by_logic}
use Rattle.stl.specs.Structures.{Structure}
use Rattle.stl.specs.declared.row.Row.{Row}
use Rattle.text.specs.Numbers.{written}
use Rattle.text.specs.Written.{tabbed}
use Rattle.writing.specs.declared.fault.SaveFault.{SaveFault}
use Rattle.writing.specs.declared.fault.SaveFault.TheVariants.{NoRoom}

-- the line of a fault: F, the text, the number, the line and the field, parted by byte 9 and ended by byte 10
abbrev pub fault_line : ℕ → ℕ → ℕ → ℕ → List ℕ
fault_line text number line field = codes "F" ++ (tabbed ((text ∷ []) ∷ (written number ∷ (written line ∷ (written field ∷ [])))) ++ (10 ∷ []))

-- the line of a fault of a text: its innermost number, its line and its field
abbrev pub fault_text : ℕ → TextFault → List ℕ
fault_text text fault = fault_line text (number_of fault.what) fault.line (field_of fault.what)

-- what is found of row r is what the logic says: whether every start satisfies the row, and the row's reach
pub record SaysLogic (k : Structure) (rows : List Row) (r : ℕ) (found : Found) : Type 0 where
  pub verdict : (found.yes ≡ true) ↔ ((s : ℕ) → k.start s ≡ true → by_logic k rows r s)
  pub reach : Reach k (by_logic k rows) (row_at rows r) found.reach

-- the report of all rows, by the logic over runs of any length
pub record ReportByLogic (k : Structure) (rows : List Row) (bytes : List ℕ) : Type 0 where
  pub finds : List Found
  pub each : length finds ≡ length rows
  pub right : (r : ℕ) → r < length rows → SaysLogic k rows r (slice_index_or finds r nothing)
  pub text : bytes ≡ report_text finds

-- once the rule text is read: its fault, or the report of its rows
abbrev pub AfterRules : Structure → List Row → Option TextFault → List ℕ → Type 0
AfterRules k rows (Some fault) bytes = bytes ≡ fault_text 82 fault
AfterRules k rows None bytes = ReportByLogic k rows bytes

-- once a map is made: without states there is no session, which is refusal 16; else the rule text is read, with a sheet of 1,024 words
abbrev pub AfterMap : Structure → Bool → List ℕ → List ℕ → Type 0
AfterMap k none rules bytes = cond none (bytes ≡ fault_line 45 16 0 0) (AfterRules k (rule_read k 1024 fresh rules).left.rows (rule_read k 1024 fresh rules).fault bytes)

-- what is written of a map and a rule text
abbrev pub OfMap : Structure → List ℕ → List ℕ → Type 0
OfMap k rules bytes = AfterMap k (k.size == 0) rules bytes

-- tables for 1,024 states and 8,192 moves
abbrev pub blank : Tables SwitchLook
blank = tables (replicate 1024 (record { marks = 0 })) (replicate 1024 0) (replicate 1025 0) (replicate 8192 0)

-- the structure of the map that a text of this size wrote into tables
abbrev pub structure_read : MapSize → Tables SwitchLook → Structure
structure_read n t = structure (λ look k. switch_sign look.marks k) (listed None (part n t))

-- once the map text is read: its fault, or what is written of its map
abbrev pub AfterMapText : Result MapSize TextFault → Tables SwitchLook → List ℕ → List ℕ → Type 0
AfterMapText (Err fault) t rules bytes = bytes ≡ fault_text 77 fault
AfterMapText (Ok n) t rules bytes = OfMap (structure_read n t) rules bytes

-- what the checker writes of a map text and a rule text
abbrev pub Output : List ℕ → List ℕ → List ℕ → Type 0
Output map rules bytes = AfterMapText (map_read map blank).answer (map_read map blank).held rules bytes

-- bytes at the front of a buffer, n of them; the rest is as it was
pub record Fronted (bytes before after : List ℕ) (n : ℕ) : Type 0 where
  pub long : length bytes ≡ n
  pub holds : after ≡ bytes ++ drop n before

-- bytes that are right by P, at the front of a buffer
pub record Wrote (P : List ℕ → Type 0) (before after : List ℕ) (n : ℕ) : Type 0 where
  pub bytes : List ℕ
  pub right : P bytes
  pub front : Fronted bytes before after n

-- a buffer of 1,024 bytes has room for every output; a shorter one is refused, and nothing is written
abbrev pub CheckDecided : Bool → List ℕ → List ℕ → List ℕ → List ℕ → Result ℕ SaveFault → Type 0
CheckDecided false map rules before after r = (r ≡ Err NoRoom) × (after ≡ before)
CheckDecided true map rules before after r = (n : ℕ) × (r ≡ Ok n) × Wrote (Output map rules) before after n

-- what checking two texts answers, and what the buffer holds after
abbrev pub Checks : List ℕ → List ℕ → List ℕ → List ℕ → Result ℕ SaveFault → Type 0
Checks map rules before after r = CheckDecided (nat_le 1024 (length before)) map rules before after r
