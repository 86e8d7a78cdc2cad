-- The rows of a session: what its invariants say of one. Assumes nothing.
use Rattle.std.proofs.Common.{◌≡◌, ℕ, ◌+◌, ◌<◌, ◌≤◌, true, [], ◌∷◌, ◌++◌, length, Some, None, Ok, Option, sym, refl, ap, ◌∙◌, subst, ⊎_elim, arith}
use Rattle.std.proofs.lemmas.List.{length-take-le, length_push}
use Rattle.std.proofs.lemmas.Option.{slice_get-get_or, slice_get_past}
use Rattle.std.proofs.lemmas.Bool.{cases_lt, ltb-true}
use Rattle.std.specs.List.{slice_get}
use Rattle.map.proofs.Asked.{answered}
use Rattle.map.proofs.Count.{never_none}
use Rattle.rules.proofs.Order.{ordered_at}
use Rattle.map.specs.Questions.{first_no}
use Rattle.rules.specs.Lists.{questions, answer, added}
use Rattle.rules.specs.declared.fault.RuleFault.{RuleFault}
use Rattle.rules.specs.declared.list.RuleList.{RuleList}
use Rattle.stl.specs.Rows.{named, row_at}
use Rattle.stl.specs.declared.row.Row.{Row}
use Rattle.stl.specs.declared.row.Row.TheVariants.{True}
use Rattle.session.specs.Sessions.{rows_of}

pub rows_long : (x : RuleList) → length (rows_of x) ≡ x.len
rows_long x = length-take-le x.len x.rows (omega (arith, x.long, x.few))

-- what is known of a row that is there
pub record There (x : RuleList) (r : ℕ) (row : Row) : Type 0 where
  pub below : r < length (rows_of x)
  pub few : length (rows_of x) ≤ 64
  pub is : row_at (rows_of x) r ≡ row
  pub names : named row r ≡ true

below_there : (x : RuleList) (r : ℕ) (row : Row) → r < length (rows_of x) → Some row ≡ slice_get (rows_of x) r → There x r row
below_there x r row h e =
    let at : Some row ≡ Some (row_at (rows_of x) r) = e ∙ slice_get-get_or (rows_of x) r True h in
    let same : row_at (rows_of x) r ≡ row = cc in
    let zero : 0 + r ≡ r = omega arith in
    record {
      below = h;
      few = omega (arith, rows_long x, x.few);
      is = same;
      names = subst (λ q. named q r ≡ true) same (subst (λ n. named (row_at (rows_of x) r) n ≡ true) zero (ordered_at 0 (rows_of x) r h x.earlier));
    }

pub row_there : (x : RuleList) (r : ℕ) (row : Row) → Some row ≡ slice_get (rows_of x) r → There x r row
row_there x r row e = ⊎_elim (λ h. below_there x r row h e) (λ h. never_none row (e ∙ slice_get_past (rows_of x) r h)) (cases_lt r (length (rows_of x)))

-- a row that was added: its number, what was asked of it, and the rows after
pub record Added (before after : RuleList) (row : Row) (r : ℕ) : Type 0 where
  pub number : length (rows_of before) ≡ r
  pub room : r < 64
  pub names : named row r ≡ true
  pub rows : rows_of before ++ (row ∷ []) ≡ rows_of after
  pub longer : after.len ≡ before.len + 1

granted_row : (n r : ℕ) (o : Option RuleFault) → Ok r ≡ answer n o → (r ≡ n) × (o ≡ None)
granted_row n r None e = let same : r ≡ n = cc in (same, refl)
granted_row n r (Some f) e = let z : ◌≡◌ {A = ℕ} 0 1 = cc in absurd (omega arith)

pub row_added : (before after : RuleList) (row : Row) (r : ℕ) → Ok r ≡ answer before.len (first_no (questions before.len row)) → rows_of after ≡ added (rows_of before) row (first_no (questions before.len row)) → Added before after row r
row_added before after row r e f =
    let n = before.len in
    let p = granted_row n r (first_no (questions n row)) e in
    let all = answered (questions n row) p.1 in
    let same : n ≡ r = sym p.0 in
    let rows : rows_of before ++ (row ∷ []) ≡ rows_of after = sym (f ∙ ap (added (rows_of before) row) p.1) in
    record {
      number = rows_long before ∙ same;
      room = subst (λ m. m < 64) same (ltb-true _ _ all.0);
      names = subst (λ m. named row m ≡ true) same all.1.0;
      rows = rows;
      longer = omega (arith, rows_long before, rows_long after, ap length rows, length_push (rows_of before) row);
    }
