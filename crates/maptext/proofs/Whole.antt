-- A whole map text. Assumes nothing.
use Rattle.std.proofs.Common.{◌≡◌, ℕ, Bool, true, false, cond, List, Some, None, Ok, Option, Result, refl, ap, ◌∙◌, subst, arith}
use Rattle.std.proofs.lemmas.Bool.{cond-true}
use Rattle.listed.specs.Tables.{Tables, questions}
use Rattle.listed.specs.declared.fault.ListedFault.{ListedFault}
use Rattle.look.specs.declared.switch.SwitchLook.{SwitchLook}
use Rattle.map.specs.Questions.{first_no}
use Rattle.reader.specs.Readings.{Outcome}
use Rattle.reader.specs.Texts.{text_lines}
use Rattle.reader.specs.declared.fault.TextFault.{TextFault}
use Rattle.text.specs.declared.line.Line.{Line}
use Rattle.text.specs.declared.line.LineFault.{LineFault}
use Rattle.maptext.specs.MapTexts.{MapRead, complete, closed, part, size_of, refused, judged, made_of, ended, all_taken, map_read}
use Rattle.maptext.specs.Steps.{Reading}
use Rattle.maptext.specs.declared.progress.MapSize.{MapSize}

-- a complete text makes a map
pub whole : (text : List ℕ) (t : Tables SwitchLook) (x : Reading) → all_taken text t ≡ record { left = x; fault = None } → complete x.at ≡ true → map_read text t ≡ made_of (text_lines text) x
whole text t x e h = ap (λ (o : Outcome Reading). ended (text_lines text) o.left o.fault) e ∙ cond-true (complete x.at) (made_of (text_lines text) x) _ h

-- what the tables hold after, whether the map is made or not
held_by : (lines : List (Result Line LineFault)) (x : Reading) (o : Option ListedFault) → (judged lines x o).held ≡ closed x
held_by lines x None = refl
held_by lines x (Some fault) = refl

pub held_closed : (lines : List (Result Line LineFault)) (x : Reading) → (made_of lines x).held ≡ closed x
held_closed lines x = held_by lines x (first_no (questions (part (size_of x.at) (closed x))))

-- a text that is read makes a map
module _ (n : MapSize) where
  abbrev Made : MapRead → Type 0
  Made r = r.answer ≡ Ok n → first_no (questions (part n r.held)) ≡ None

  made_either : (b : Bool) (x y : MapRead) → Made x → Made y → Made (cond b x y)
  made_either true x y p q = p
  made_either false x y p q = q

  made_refused : (t : Tables SwitchLook) (fault : TextFault) → Made (refused t fault)
  made_refused t fault e = grind arith

  made_judged : (lines : List (Result Line LineFault)) (x : Reading) (o : Option ListedFault) → first_no (questions (part (size_of x.at) (closed x))) ≡ o → Made (judged lines x o)
  made_judged lines x None q e = let s : size_of x.at ≡ n = cc in subst (λ m. first_no (questions (part m (closed x))) ≡ None) s q
  made_judged lines x (Some fault) q e = grind arith

  made_ended : (lines : List (Result Line LineFault)) (x : Reading) (o : Option TextFault) → Made (ended lines x o)
  made_ended lines x (Some fault) = made_refused x.held fault
  made_ended lines x None = made_either (complete x.at) (made_of lines x) _ (made_judged lines x (first_no (questions (part (size_of x.at) (closed x)))) refl) (made_refused x.held _)

  pub read_made : (text : List ℕ) (t : Tables SwitchLook) → (map_read text t).answer ≡ Ok n → first_no (questions (part n (map_read text t).held)) ≡ None
  read_made text t = made_ended (text_lines text) (all_taken text t).left (all_taken text t).fault
