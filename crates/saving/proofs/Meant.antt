-- What a number stands for: the name of the record at that place, and the parts of an assertion.
-- Assumes nothing.
use mathlib.Core.Path.{◌≡◌, sym, ap, ◌∙◌}
use Prim.Native.Nat.{ℕ, ◌<◌}
use native.Mathlib.Omega.{arith}
use mathlib.Core.List.{List, [], map}
use lib.Dec.{T}
use lib.ListN.{length, get_or, length-map, get_or-map}
use Rattle.language.specs.Text.{Text, member, present}
use Rattle.language.specs.Syntax.{Name}
use Rattle.language.specs.State.{Principal, Variable, Assertion, Store, named, value_in}
use Rattle.language.proofs.Logic.Tests.{three}
use Rattle.language.proofs.StateText.Names.{named_is, valued_is}
use Rattle.store.specs.Held.{Principals, Variables}
use Rattle.store.specs.Rows.{Row, Rows, row_at, row_names, no_row, position, principal_row, variable_row}
use Rattle.store.proofs.Holders.{principals_rows, variables_rows}
use Rattle.store.proofs.Answers.{principal_names_lem, variable_names_lem}
use Rattle.assertion.specs.Packed.{fields, Assertion as Numbers}
use Rattle.assertion.proofs.Packing.{fields_pack}
use Rattle.named_rights.specs.Numbers.{principals_of, variables, code, four}
use Rattle.named_rights.proofs.Places.{name_at, position_lt, code_lt}
use Rattle.named_rights.proofs.Few.{few_names, few_variables}
use Rattle.session.specs.declared.Layout.{Layout}
use Rattle.saving.specs.Stores.{Named, Assertions}

-- ---- the name of a record

-- the row at the place of a name has that name
module _ (rows : List Row) (names : List Name) (same : row_names rows ≡ names) (x : Name) (known : T (member x names)) (k : ℕ) (e : k ≡ position names x) where
  row_below : k < length rows
  row_below = omega (arith, e, position_lt names x known, ap length same, length-map rows (λ (r : Row). r.name))

  row_name : (row_at rows k).name ≡ x
  row_name =
      sym (get_or-map (λ (r : Row). r.name) rows k no_row) ∙ ap (λ (ns : List Name). get_or ns k []) same
      ∙ ap (λ (n : ℕ). get_or names n []) e ∙ name_at names x known

module _ (ks : List Principal) (t : Text) (count : ℕ) (slots : List ℕ) (K : Principals ks t count slots) (x : Name)
    (known : T (member x (map (λ k. k.name) ks))) (k : ℕ) (e : k ≡ position (map (λ k. k.name) ks) x) where
  pub principal_below : k < count
  principal_below = omega (arith, (principals_rows ks t count slots K).counted, row_below (map principal_row ks) (map (λ k. k.name) ks) (principal_names_lem ks) x known k e)

  -- what is read as the name of that number
  pub principal_name : (w : Text) → ((rows : List Row) → Rows rows t count slots → w ≡ (row_at rows k).name) → w ≡ x
  principal_name w f = f (map principal_row ks) (principals_rows ks t count slots K) ∙ row_name (map principal_row ks) (map (λ k. k.name) ks) (principal_names_lem ks) x known k e

module _ (vs : List Variable) (t : Text) (count : ℕ) (slots : List ℕ) (W : Variables vs t count slots) (x : Name)
    (known : T (member x (map (λ v. v.name) vs))) (k : ℕ) (e : k ≡ position (map (λ v. v.name) vs) x) where
  pub variable_below : k < count
  variable_below = omega (arith, (variables_rows vs t count slots W).counted, row_below (map variable_row vs) (map (λ v. v.name) vs) (variable_names_lem vs) x known k e)

  pub variable_name : (w : Text) → ((rows : List Row) → Rows rows t count slots → w ≡ (row_at rows k).name) → w ≡ x
  variable_name w f = f (map variable_row vs) (variables_rows vs t count slots W) ∙ row_name (map variable_row vs) (map (λ v. v.name) vs) (variable_names_lem vs) x known k e

-- ---- an assertion

-- the four numbers of an assertion; every name in it exists
pub record Apart (s : Store) (a : Assertion) (f : Numbers) : Type 0 where
  pub variable_known : T (member a.variable (variables s))
  pub from_known : T (member a.from (principals_of s))
  pub to_known : T (member a.to (principals_of s))
  pub variable_is : f.variable ≡ position (variables s) a.variable
  pub right_is : f.right ≡ code a.right
  pub from_is : f.from ≡ position (principals_of s) a.from
  pub to_is : f.to ≡ position (principals_of s) a.to

pub apart : (s : Store) (l : Layout) (principals_text_lem : Text) (principal_slots : List ℕ) (vars-text : Text) (variable_slots : List ℕ)
    → Named s l principals_text_lem principal_slots vars-text variable_slots → (a : Assertion) (n : ℕ) → Assertions s a n → (f : Numbers) → f ≡ fields n → Apart s a f
apart s l principals_text_lem principal_slots vars-text variable_slots N a n C f is =
    let (x, q, p) = three (present (value_in s.variables a.variable)) (present (named s.principals a.from)) (present (named s.principals a.to)) C.known in
    let x-known : T (member a.variable (variables s)) = valued_is a.variable s.variables x in
    let q-known : T (member a.from (principals_of s)) = named_is a.from s.principals q in
    let p-known : T (member a.to (principals_of s)) = named_is a.to s.principals p in
    let e : f ≡ four (principals_of s) (variables s) a =
    is ∙ ap fields C.number
    ∙ fields_pack (position (variables s) a.variable) (position (principals_of s) a.from) (code a.right) (position (principals_of s) a.to)
    (omega (arith, position_lt (variables s) a.variable x-known, few_variables s N.is_valid)) (omega (arith, position_lt (principals_of s) a.from q-known, few_names s N.is_valid))
    (omega (arith, code_lt a.right)) (omega (arith, position_lt (principals_of s) a.to p-known, few_names s N.is_valid)) in
    record {
      variable_known = x-known;
      from_known = q-known;
      to_known = p-known;
      variable_is = ap (λ b. b.variable) e;
      right_is = ap (λ b. b.right) e;
      from_is = ap (λ b. b.from) e;
      to_is = ap (λ b. b.to) e;
    }
