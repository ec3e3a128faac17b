-- The value of a valid expression is valid, and not too heavy.
use mathlib.Core.Path.{◌≡◌, refl, sym, subst}
use Prim.Native.Nat.{ℕ, ◌+◌, ◌≤◌}
use native.Mathlib.Omega.{arith}
use mathlib.Core.Bool.{Bool, true, false, ◌&&◌, ◌||◌, not}
use mathlib.Core.Option.{none, some}
use mathlib.Core.List.{List, [], ◌∷◌, map}
use lib.ListN.{length, take, drop}
use lib.Dec.{T, leb, leb→le, le→leb, ltb, nltb→le, lit≤}
use Rattle.language.specs.Syntax as E
use Rattle.language.specs.Text.{Text, when◌then◌else◌, ◌≟◌, any, all, each, distinct, present}
use Rattle.language.specs.Bytes.{◌is◌, ◌∈◌, between, letter, digit, space, newline, foreign, mark, marks, in_string, string_byte}
use Rattle.language.specs.Syntax.{Name, Operand, name, dot, quoted, Binding, Operation, Function, split, concat, arithmetic, Comparison, Term, nothing, Expr, term, let_in}
use Rattle.language.specs.State.{Field, Element, string, fields, Value, single, list, Variable, named, value_in}
use Rattle.language.specs.Identifiers.{is_identifier, is_name, is_string}
use Rattle.language.specs.Weight.{limit, value_weight}
use Rattle.language.specs.Valid.{valid_field, valid_fields, valid_element, valid_value, valid_variable}
use Rattle.language.specs.Outcomes.{Outcome, gives, fills, ◌>>=◌, from}
use Rattle.language.specs.Values.{Session, is_defined, with_name, lookup, as_fields, as_string, as_list, as_element, text_of, operand_value, field_value, record_value}
use Rattle.language.specs.Functions.{lower_byte, lowercase, cut, on_prices, on_strings, apply, answer, holds, compared}
use Rattle.language.specs.Prices.{in_range, price, reckoned}
use Rattle.language.specs.Expressions.{is_heavy, weighed, term_value, Environment, unbound, bound_with, bind, inside, value_within, value}
use Rattle.language.specs.Commands.{with_element, replaced, left_of, filtered, flat}
use Rattle.language.proofs.Parsing.ValidPrograms.{valid_operand, valid_binding, valid_term, valid_expr}
use Rattle.language.proofs.Logic.Tests.{both, and, and_three, three, all_map, map_all, all_append, all_take, all_drop}
use Rattle.language.proofs.Logic.Outcomes.{Where, anything, bind_where, if_where, or_else_where, each_where}
use Rattle.language.proofs.Logic.Giving.{Giving, giving_any, giving_map, bind_giving, from_giving, bind_from, provided_giving}
use Rattle.language.proofs.StateText.Shape.{Shape}
use Rattle.language.proofs.Meaning.Prices.{reckoned_in_range, price_string}
use Rattle.language.proofs.StateText.Clean.{identifier_name}

abbrev pub holding : Variable → Bool
holding v = valid_value v.value

-- what every command finds and leaves
pub record Good (s : Session) : Type 0 where
  pub store_shape : Shape s.store
  pub locals_valid : T (all holding s.locals)
  pub sender_known : T (present (named s.store.principals s.sender))

abbrev pub IsValid : Value → Type 0
IsValid v = T (valid_value v)

value_found : (vs : List Variable) (x : Name) → T (all holding vs) → Where IsValid (value_in vs x)
value_found [] x h = tt
value_found (v ∷ vs) x h =
    let (h₁, h₂) = both (holding v) (all holding vs) h in
    if_where IsValid (v.name ≟ x) (some v.value) (value_in vs x) (λ t. h₁) (λ t. value_found vs x h₂)

shared_valid : (vs : List Variable) → T (all valid_variable vs) → T (all holding vs)
shared_valid = all_map valid_variable holding (λ v h. (both (is_name v.name) (holding v) h).1)

fields_valid : (v : Value) → IsValid v → Where (λ fs. T (valid_fields fs)) (as_fields v)
fields_valid (single (string t)) h = tt
fields_valid (single (fields fs)) h = h
fields_valid (list es) h = tt

string_valid : (v : Value) → IsValid v → Where (λ t. T (is_string t)) (as_string v)
string_valid (single (string t)) h = h
string_valid (single (fields fs)) h = tt
string_valid (list es) h = tt

pub list_valid : (v : Value) → IsValid v → Where (λ es. T (all valid_element es)) (as_list v)
list_valid (single e) h = tt
list_valid (list es) h = h

element_valid : (v : Value) → IsValid v → Where (λ e. T (valid_element e)) (as_element v)
element_valid (single e) h = h
element_valid (list es) h = tt

text_valid : (fs : List Field) (y : Name) → T (all valid_field fs) → Where (λ t. T (is_string t)) (text_of fs y)
text_valid [] y h = tt
text_valid (f ∷ fs) y h =
    let (h₁, h₂) = both (valid_field f) (all valid_field fs) h in
    if_where (λ t. T (is_string t)) (f.label ≟ y) (some f.text) (text_of fs y)
    (λ t. (both (is_name f.label) (is_string f.text) h₁).1) (λ t. text_valid fs y h₂)

-- ---- functions

small_string : (b : ℕ) → T (between "a" "z" b) → T (string_byte b)
small_string b h = go (between "a" "z" b) h
  where
    go : (c : Bool) → T c → T (in_string (when c || between "A" "Z" b then letter
        else when between "0" "9" b then digit else when b is " " then space else when b is "\n" then newline else when b ∈ marks then mark b else foreign))
    go true t = tt
    go false t = absurd t

lower_string : (b : ℕ) → T (string_byte b) → T (string_byte (lower_byte b))
lower_string b h = go (between "A" "Z" b) refl
  where
    go : (c : Bool) → between "A" "Z" b ≡ c → T (string_byte (when c then b + 32 else b))
    go true e =
        let (l, u) = both (leb 65 b) (leb b 90) (subst T (sym e) tt) in
        small_string (b + 32) (and (leb 97 (b + 32)) (leb (b + 32) 122) (le→leb 97 (b + 32) (omega (arith, leb→le 65 b l))) (le→leb (b + 32) 122 (omega (arith, leb→le b 90 u))))
    go false e = h

-- a string in small letters is a string
pub lower_valid : (t : Text) → T (is_string t) → T (is_string (map lower_byte t))
lower_valid t h = map_all string_byte string_byte lower_byte lower_string t h

lowercase_valid : (v : Value) → IsValid v → Where IsValid (lowercase v)
lowercase_valid v h =
    bind_where (λ t. T (is_string t)) IsValid (as_string v) _ (string_valid v h) (λ t k. lower_valid t k)

-- the two parts of a string are a record
pub cut_valid : (t : Text) (n : ℕ) → T (is_string t) → IsValid (cut t n)
cut_valid t n h =
    and (is_string (take n t) && (is_string (drop n t) && true)) true
    (and (is_string (take n t)) (is_string (drop n t) && true) (all_take string_byte n t h) (and (is_string (drop n t)) true (all_drop string_byte n t h) tt)) tt

-- the text of a price is a string
prices_valid : (o : Operation) (t u : Text) → Where IsValid (on_prices o t u)
prices_valid o t u =
    bind_where (λ a. Unit {0}) IsValid (price t) _ (anything (price t)) (λ a h.
    bind_where (λ b. Unit {0}) IsValid (price u) _ (anything (price u)) (λ b k.
    bind_where (λ c. T (in_range c)) IsValid (reckoned o a b) _ (reckoned_in_range o a b) (λ c l. price_string c l)))

apply_valid : (f : Function) (v w : Value) → IsValid v → IsValid w → Where IsValid (apply f v w)
apply_valid f v w h k =
    bind_where (λ t. T (is_string t)) IsValid (as_string v) _ (string_valid v h) (λ t i.
    bind_where (λ u. T (is_string u)) IsValid (as_string w) _ (string_valid w k) (λ u j. go f t u i j))
  where
    go : (f : Function) (t u : Text) → T (is_string t) → T (is_string u) → Where IsValid (on_strings f t u)
    go split t u i j = cut_valid t (length u) i
    go concat t u i j = all_append string_byte t u i j
    go (arithmetic o) t u i j = prices_valid o t u

-- what a comparison answers
compared_valid : (c : Comparison) (v w : Value) → Where IsValid (compared c v w)
compared_valid c v w =
    bind_where (λ e. Unit {0}) IsValid (as_element v) _ (anything (as_element v)) (λ e h.
    bind_where (λ d. Unit {0}) IsValid (as_element w) _ (anything (as_element w)) (λ d k. go (holds c e d)))
  where
    go : (b : Bool) → IsValid (answer b)
    go true = tt
    go false = tt

-- ---- weight

-- a value that may stand: valid, and not too heavy
abbrev pub Fits : Value → Type 0
Fits v = IsValid v × (value_weight v ≤ limit)

weighed_fits : (vs : List Value) (v : Value) → IsValid v → Giving Fits (weighed vs v)
weighed_fits vs v h = go (is_heavy v) refl (any is_heavy vs)
  where
    go : (b : Bool) → is_heavy v ≡ b → (c : Bool) → Giving Fits (when b || c then fills else gives v)
    go true e c = tt
    go false e true = tt
    go false e false = (h, nltb→le limit (value_weight v) (subst (λ c. T (not c)) (sym e) tt))

module _ (s : Session) (g : Good s) where
  pub lookup_valid : (x : Name) → Where IsValid (lookup s x)
  lookup_valid x =
      or_else_where IsValid (value_in s.locals x) (value_in s.store.variables x) (value_found s.locals x g.locals_valid)
      (value_found s.store.variables x (shared_valid s.store.variables g.store_shape.variables_valid))

  operand_valid : (o : Operand) → T (valid_operand o) → Where IsValid (operand_value s o)
  operand_valid (name x) h = lookup_valid x
  operand_valid (dot x y) h =
      bind_where IsValid IsValid (lookup s x) _ (lookup_valid x) (λ v k.
      bind_where (λ fs. T (valid_fields fs)) IsValid (as_fields v) _ (fields_valid v k) (λ fs l.
      bind_where (λ t. T (is_string t)) IsValid (text_of fs y) _
      (text_valid fs y (three (ltb 0 (length fs)) (all valid_field fs) (distinct (map (λ f. f.label) fs)) l).1) (λ t m. m)))
  operand_valid (quoted t) h = h

  field_valid : (b : Binding) → T (valid_binding b) → Where (λ f. T (valid_field f)) (field_value s b)
  field_valid b h =
      let (x, o) = both (is_identifier b.label) (valid_operand b.operand) h in
      bind_where IsValid (λ f. T (valid_field f)) (operand_value s b.operand) _ (operand_valid b.operand o) (λ v k.
      bind_where (λ t. T (is_string t)) (λ f. T (valid_field f)) (as_string v) _ (string_valid v k) (λ t l.
      and (is_name b.label) (is_string t) (identifier_name b.label x) l))

  record_valid : (bs : List Binding) → T (valid_term (E.fields bs)) → Where IsValid (record_value s bs)
  record_valid bs h =
      let (n, all_valid) = both (ltb 0 (length bs)) (all valid_binding bs) h in
      bind_where (λ fs. T (all valid_field fs) × (length fs ≡ length bs)) IsValid (each (field_value s) bs) _
      (each_where (field_value s) valid_binding valid_field field_valid bs all_valid) (λ fs r.
      if_where IsValid (distinct (map (λ f. f.label) fs)) (some (single (fields fs))) none
      (λ d. and_three (ltb 0 (length fs)) (all valid_field fs) (distinct (map (λ f. f.label) fs)) (subst (λ m. T (ltb 0 m)) (sym r.1) n) r.0 d)
      (λ d. tt))

  pub term_fits : (t : Term) → T (valid_term t) → Giving Fits (term_value s t)
  term_fits (E.single o) h = bind_from IsValid Fits (operand_value s o) _ (operand_valid o h) (λ v k. weighed_fits [] v k)
  term_fits nothing h = (tt, lit≤ tt)
  term_fits (E.fields bs) h = bind_from IsValid Fits (record_value s bs) _ (record_valid bs h) (λ v k. weighed_fits [] v k)
  term_fits (E.tolower o) h =
      bind_from IsValid Fits (operand_value s o) _ (operand_valid o h) (λ v k.
      bind_from IsValid Fits (lowercase v) _ (lowercase_valid v k) (λ r l. weighed_fits (v ∷ []) r l))
  term_fits (E.call f o p) h =
      let (i, j) = both (valid_operand o) (valid_operand p) h in
      bind_from IsValid Fits (operand_value s o) _ (operand_valid o i) (λ v k.
      bind_from IsValid Fits (operand_value s p) _ (operand_valid p j) (λ w m.
      bind_from IsValid Fits (apply f v w) _ (apply_valid f v w k m) (λ r l. weighed_fits (v ∷ w ∷ []) r l)))
  term_fits (E.compare c o p) h =
      let (i, j) = both (valid_operand o) (valid_operand p) h in
      bind_from IsValid Fits (operand_value s o) _ (operand_valid o i) (λ v k.
      bind_from IsValid Fits (operand_value s p) _ (operand_valid p j) (λ w m.
      bind_from IsValid Fits (compared c v w) _ (compared_valid c v w) (λ r l. weighed_fits (v ∷ w ∷ []) r l)))

-- ---- let: what is bound keeps a session good

pub with_name_good : (s : Session) → Good s → (x : Name) (v : Value) → IsValid v → Good (with_name s x v)
with_name_good s g x v h = record {
  store_shape = g.store_shape;
  locals_valid = all_append holding s.locals (record { name = x; value = v } ∷ []) g.locals_valid (and (valid_value v) true h tt);
  sender_known = g.sender_known;
}

abbrev pub GoodIn : Environment → Type 0
GoodIn env = Good env.session

bind_good : (env : Environment) → GoodIn env → (x : Name) (v : Value) → IsValid v → Giving GoodIn (bind env x v)
bind_good env g x v h = go (ltb limit (bound_with env x v))
  where
    go : (b : Bool) → Giving GoodIn (when b then fills else gives (record { session = with_name env.session x v; bound = bound_with env x v }))
    go true = tt
    go false = with_name_good env.session g x v h

pub inside_good : (env : Environment) → GoodIn env → (x : Name) (o : Outcome Value) → Giving IsValid o
    → Giving GoodIn (inside env x o)
inside_good env g x o h =
    provided_giving GoodIn (not (is_defined env.session x)) (o >>= bind env x) (λ n.
    bind_giving IsValid GoodIn o (bind env x) h (λ v k. bind_good env g x v k))

pub within_fits : (env : Environment) → GoodIn env → (e : Expr) → T (valid_expr e) → Giving Fits (value_within env e)
within_fits env g (term t) h = term_fits env.session g t h
within_fits env g (let_in x e f) h =
    let (i, j, k) = three (is_identifier x) (valid_expr e) (valid_expr f) h in
    bind_giving GoodIn Fits (inside env x (value_within env e)) _
    (inside_good env g x (value_within env e) (giving_map Fits IsValid (value_within env e) (λ v m. m.0) (within_fits env g e j)))
    (λ inner m. within_fits inner m f k)

module _ (s : Session) (g : Good s) where
  pub value_fits : (e : Expr) → T (valid_expr e) → Giving Fits (value s e)
  value_fits e h = within_fits (unbound s) g e h

  pub value_valid : (e : Expr) → T (valid_expr e) → Giving IsValid (value s e)
  value_valid e h = giving_map Fits IsValid (value s e) (λ v k. k.0) (value_fits e h)

  -- the y of foreach and of filtereach is the last of the locals
  pub element_good : (y : Name) (a : Element) → T (valid_element a) → Good (with_element s y a)
  element_good y a k = with_name_good s g y (single a) k

pub replaced_valid : (s : Session) → Good s → (y : Name) (e : Expr) → T (valid_expr e) → (a : Element) → T (valid_element a)
    → Giving (λ b. T (valid_element b)) (replaced s y e a)
replaced_valid s g y e h a k =
    bind_giving IsValid (λ b. T (valid_element b)) (value (with_element s y a) e) (λ v. from (as_element v)) (value_valid (with_element s y a) (element_good s g y a k) e h)
    (λ v i. from_giving (λ b. T (valid_element b)) (as_element v) (element_valid v i))

-- what filtereach leaves of a valid element
pub filtered_valid : (s : Session) (y : Name) (e : Expr) (a : Element) → T (valid_element a) → Giving (λ l. T (all valid_element l)) (filtered s y e a)
filtered_valid s y e a k =
    bind_giving (λ v. Unit {0}) (λ l. T (all valid_element l)) (value (with_element s y a) e) (λ v. gives (left_of a v)) (giving_any (value (with_element s y a) e)) (λ v i. go v)
  where
    go : (v : Value) → T (all valid_element (left_of a v))
    go (single (string [])) = and (valid_element a) true k tt
    go (single (string (b ∷ t))) = tt
    go (single (fields fs)) = tt
    go (list es) = tt

pub flat_valid : (l : List (List Element)) → T (all (all valid_element) l) → T (all valid_element (flat l))
flat_valid [] h = tt
flat_valid (es ∷ rest) h =
    let (i, j) = both (all valid_element es) (all (all valid_element) rest) h in
    all_append valid_element es (flat rest) i (flat_valid rest j)
