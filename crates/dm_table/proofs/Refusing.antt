-- Refusals in parts: those of the first part come first.
use Rattle.std.proofs.Common.{◌≡◌, ◌≤◌, length, get_or, arith, Bool, true, false, cond, List, [], ◌∷◌, ◌++◌, map, Option, Some, None, Result, Ok, Err, refl, sym, ap, subst, ◌∙◌}
use Rattle.std.specs.Prelude.{⊤, MatchBool}
use Rattle.std.specs.Option.{option_or}
use Rattle.std.proofs.lemmas.Bool.{false≢true}
use Rattle.dm_list.specs.Answer.{first_refusal, unless_refused, Answers}
use Rattle.dm_schema.specs.Layout.{Layout}
use Rattle.dm_schema.specs.NameOrder.{columns_in_order, uniques_in_order}
use Rattle.dm_table.specs.declared.op.RowOp.{RowOp}
use Rattle.dm_table.specs.declared.fault.TableFault.{TableFault}
use Rattle.dm_table.specs.Contents.{Row, RowMap}
use Rattle.dm_table.specs.Operations.{refusals, names_in_order, columns_of, left_row}
use Rattle.dm_table.specs.Judging.{is_memory, unknown_refusals, unfit_refusals, missing_refusals, primary_refusals, unique_refusals}

pub first_refusal-append : {E : Type 0} (xs ys : List (Bool × E)) → first_refusal (xs ++ ys) ≡ option_or (first_refusal xs) (first_refusal ys)
first_refusal-append [] ys = refl
first_refusal-append (x ∷ xs) ys = by x.0 (first_refusal-append xs ys) where
  by : (b : Bool) → first_refusal (xs ++ ys) ≡ option_or (first_refusal xs) (first_refusal ys) → cond b (Some x.1) (first_refusal (xs ++ ys)) ≡ option_or (cond b (Some x.1) (first_refusal xs)) (first_refusal ys)
  by true h = refl
  by false h = h

-- what a judgement answers
abbrev pub Judged : Result (Unit {0}) TableFault → Option TableFault → Type 0
Judged r refusal = Answers is_memory r (unless_refused refusal tt)

-- a part that refuses
pub stops : (f : TableFault) (part rest : Option TableFault) → Judged (Err f) part → Judged (Err f) (option_or part rest)
stops f part rest h = by (is_memory f) part h where
  by : (b : Bool) (part : Option TableFault) → MatchBool b ⊤ (Err f ≡ unless_refused {T = Unit {0}} part tt) → MatchBool b ⊤ (Err f ≡ unless_refused {T = Unit {0}} (option_or part rest) tt)
  by true part h = h
  by false None h = absurd (cc h)
  by false (Some g) h = h

-- a part that doesn't
pub passes : (v : Unit {0}) (part : Option TableFault) → Judged (Ok v) part → part ≡ None
passes v None h = refl
passes v (Some f) h = absurd (cc h)

pub goes_on : (r : Result (Unit {0}) TableFault) (part rest : Option TableFault) → part ≡ None → Judged r rest → Judged r (option_or part rest)
goes_on r part rest none h = subst (λ o. Judged r (option_or o rest)) (sym none) h

-- an operation's refusals
abbrev pub in_parts : Layout → RowOp → RowMap → Row → Option TableFault
in_parts layout o rows row =
    option_or (first_refusal (unknown_refusals layout.columns (names_in_order (columns_of o))))
    (option_or (first_refusal (unfit_refusals layout o (columns_in_order layout.columns)))
    (option_or (first_refusal (missing_refusals o rows))
    (option_or (first_refusal (primary_refusals layout o rows row)) (first_refusal (unique_refusals layout o rows row (uniques_in_order layout.uniques))))))

option_or_assoc : {E : Type 0} (a b c : Option E) → option_or (option_or a b) c ≡ option_or a (option_or b c)
option_or_assoc None b c = refl
option_or_assoc (Some x) b c = refl

pub refusals_in_parts : (layout : Layout) (o : RowOp) (rows : RowMap) (row : Row) → row ≡ left_row layout o rows → in_parts layout o rows row ≡ first_refusal (refusals layout o rows)
refusals_in_parts layout o rows row left =
    let us = unknown_refusals layout.columns (names_in_order (columns_of o)) in
    let vs = unfit_refusals layout o (columns_in_order layout.columns) in
    let ms = missing_refusals o rows in
    let ps = primary_refusals layout o rows (left_row layout o rows) in
    let ks = unique_refusals layout o rows (left_row layout o rows) (uniques_in_order layout.uniques) in
    ap (in_parts layout o rows) left
    ∙ ap (λ rest. option_or (first_refusal us) (option_or (first_refusal vs) (option_or (first_refusal ms) rest))) (sym (first_refusal-append ps ks))
    ∙ ap (λ rest. option_or (first_refusal us) (option_or (first_refusal vs) rest)) (sym (first_refusal-append ms (ps ++ ks)))
    ∙ sym (option_or_assoc (first_refusal us) (first_refusal vs) (first_refusal (ms ++ (ps ++ ks))))
    ∙ ap (λ rest. option_or rest (first_refusal (ms ++ (ps ++ ks)))) (sym (first_refusal-append us vs))
    ∙ sym (first_refusal-append (us ++ vs) (ms ++ (ps ++ ks)))

-- a list of refusals, the first of which holds
pub refused_first : {A : Type 0} (test : A → Bool) (fault : A → TableFault) (x : A) (xs : List A) (f : TableFault) → 1 ≤ length xs → x ≡ get_or xs 0 x → test x ≡ true → f ≡ fault x
    → Judged (Err f) (first_refusal (map (λ x. (test x, fault x)) xs))
refused_first test fault x [] f some here holds is = absurd (omega arith)
refused_first test fault x (y ∷ ys) f some here holds is = by (is_memory f) (test y) (ap test (sym here) ∙ holds) where
  by : (b t : Bool) → t ≡ true → MatchBool b ⊤ (Err f ≡ unless_refused {T = Unit {0}} (cond t (Some (fault y)) (first_refusal (map (λ x. (test x, fault x)) ys))) tt)
  by true t h = tt
  by false true h = ap Err (is ∙ ap fault here)
  by false false h = absurd (false≢true h)

module _ (layout : Layout) (o : RowOp) (rows : RowMap) (row : Row) (left : row ≡ left_row layout o rows) where
  abbrev unknown : Option TableFault
  unknown = first_refusal (unknown_refusals layout.columns (names_in_order (columns_of o)))

  abbrev unfit : Option TableFault
  unfit = first_refusal (unfit_refusals layout o (columns_in_order layout.columns))

  abbrev missing : Option TableFault
  missing = first_refusal (missing_refusals o rows)

  abbrev primary : Option TableFault
  primary = first_refusal (primary_refusals layout o rows row)

  abbrev uniques : Option TableFault
  uniques = first_refusal (unique_refusals layout o rows row (uniques_in_order layout.uniques))

  judged : (r : Result (Unit {0}) TableFault) → Judged r (in_parts layout o rows row) → Judged r (first_refusal (refusals layout o rows))
  judged r h = subst (Judged r) (refusals_in_parts layout o rows row left) h

  pub at_unknown : (f : TableFault) → Judged (Err f) unknown → Judged (Err f) (first_refusal (refusals layout o rows))
  at_unknown f h = judged (Err f) (stops f unknown (option_or unfit (option_or missing (option_or primary uniques))) h)

  pub at_unfit : (f : TableFault) (u : Unit {0}) → Judged (Ok u) unknown → Judged (Err f) unfit → Judged (Err f) (first_refusal (refusals layout o rows))
  at_unfit f u known h =
      judged (Err f) (goes_on (Err f) unknown (option_or unfit (option_or missing (option_or primary uniques))) (passes u unknown known)
      (stops f unfit (option_or missing (option_or primary uniques)) h))

  pub at_missing : (f : TableFault) (u v : Unit {0}) → Judged (Ok u) unknown → Judged (Ok v) unfit → Judged (Err f) missing → Judged (Err f) (first_refusal (refusals layout o rows))
  at_missing f u v known fit h =
      judged (Err f) (goes_on (Err f) unknown (option_or unfit (option_or missing (option_or primary uniques))) (passes u unknown known)
      (goes_on (Err f) unfit (option_or missing (option_or primary uniques)) (passes v unfit fit)
      (stops f missing (option_or primary uniques) h)))

  behind_missing : (r : Result (Unit {0}) TableFault) (u v w : Unit {0}) → Judged (Ok u) unknown → Judged (Ok v) unfit → Judged (Ok w) missing → Judged r (option_or primary uniques) → Judged r (first_refusal (refusals layout o rows))
  behind_missing r u v w known fit there h =
      judged r (goes_on r unknown (option_or unfit (option_or missing (option_or primary uniques))) (passes u unknown known)
      (goes_on r unfit (option_or missing (option_or primary uniques)) (passes v unfit fit)
      (goes_on r missing (option_or primary uniques) (passes w missing there) h)))

  pub at_primary : (f : TableFault) (u v w : Unit {0}) → Judged (Ok u) unknown → Judged (Ok v) unfit → Judged (Ok w) missing → Judged (Err f) primary → Judged (Err f) (first_refusal (refusals layout o rows))
  at_primary f u v w known fit there h = behind_missing (Err f) u v w known fit there (stops f primary uniques h)

  pub at_uniques : (r : Result (Unit {0}) TableFault) (u v w p : Unit {0}) → Judged (Ok u) unknown → Judged (Ok v) unfit → Judged (Ok w) missing → Judged (Ok p) primary → Judged r uniques → Judged r (first_refusal (refusals layout o rows))
  at_uniques r u v w p known fit there free h = behind_missing r u v w known fit there (goes_on r primary uniques (passes p primary free) h)
